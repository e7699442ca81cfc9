-- Each of the fourteen events, where no check refuses it, in two machines that are alike: they stay alike, and what the kernel is given
-- agrees.
use Rattle.std.specs.Prelude.{Some, None}
use mathlib.Core.Path.{◌≡◌, refl, ap}
use mathlib.Core.List.{List, [], ◌∷◌}
use mathlib.Core.Bool.{true≢false}
use Prim.Native.Nat.{ℕ, ◌<◌}
use lib.ListN.{length}
use Rattle.rules.specs.Bytes.{zeros, words_in, bytes_of}
use Rattle.rules.specs.Records.{Given, Machine, names_of, domain_of, with_life, with_activity, with_mapping}
use Rattle.rules.specs.Sealing.{seal, seal_all}
use Rattle.rules.specs.Events.{row, numbers_in, own_place, own_frame, on_records, acting, on_page, touching, does}
use Rattle.rules.specs.Answers.{perform}
use Rattle.rules.specs.declared.Setup.{Setup}
use Rattle.rules.specs.declared.Tables.{Tables}
use Rattle.rules.specs.declared.Asid.{Asid}
use Rattle.rules.specs.declared.Gvpn.{Gvpn}
use Rattle.rules.specs.declared.Gppn.{Gppn}
use Rattle.rules.specs.declared.Ctc.{Ctc}
use Rattle.rules.specs.declared.Span.{Span}
use Rattle.rules.specs.declared.Life.TheVariants.{Live}
use Rattle.rules.specs.declared.TrapKind.{TrapKind}
use Rattle.rules.specs.declared.Activity.TheVariants.{Free, Running, Kept}
use Rattle.rules.specs.declared.Event.{Event}
use Rattle.rules.specs.declared.Event.TheVariants.{Begin, End, Map, Unmap, KernelRead, KernelWrite, Resume, Spawn, Leave, Cloak, Uncloak}
use Rattle.rules.specs.declared.Event.TheVariants.{Read, Write, Trap}
use Rattle.rules.proofs.Tests.{domain_below, frame_below}
use Rattle.rules.proofs.Facts.{Accepted}
use Rattle.rules.proofs.Granting.{Unrefused}
use Rattle.theorem_reached.proofs.OwnPages.{cloakable, uncloak_own, read_own, write_own}
use Rattle.theorem_reached.proofs.SealFrames.{Enough, seal_accepted, seal_all_accepted, seal_names, room_first}
use Rattle.theorem_reached.proofs.FramesAndSlots.{read_seals, write_seals}
use Rattle.theorem_secrecy.specs.Secrets.{SameButSecrets, for_application}
use Rattle.theorem_secrecy.proofs.Alike.{enough_alike, Alike, seal_alike, seal_all_alike, tables_alike, ended_alike}
use Rattle.theorem_secrecy.proofs.CloakAlike.{turned_alike, cloaked_alike, uncloaked_alike}
use Rattle.theorem_secrecy.proofs.ShownRegisters.{shown_same}
use Rattle.theorem_secrecy.proofs.ReadAndWriteAlike.{SameEffect, both_done, span_alike, span_given, read_alike, write_alike}

-- every event, with data x and y; t is the tables of both
module _ (g : Given) (m n : Machine) (gn : Accepted g n) (a : Alike g.setup m n) (x y : List ℕ) (space : ℕ) where
  abbrev s : Setup
  s = g.setup

  abbrev t : Tables
  t = m.tables

  abbrev DoneAlike : Event → Type 0
  DoneAlike e =
      Unrefused g m e (length x) space → SameButSecrets s t e x y
      → SameEffect s (for_application s t e) (perform g e x m) (does g t e y (seal_all g (row s t e).seals n))

  begin : (d : Asid) (c : Ctc) → DoneAlike (Begin d c)
  unfolding perform row on_records seal_all does
  begin d c p same =
      both_done s _ _ _ [] [] (tables_alike s m n a (λ u. with_activity c (Running d) (with_life d Live u)) (λ u. refl)) (λ _. refl)

  end : (d : Asid) → DoneAlike (End d)
  unfolding perform row on_records seal_all does numbers_in
  end d p same = both_done s _ _ _ [] [] (ended_alike g m n p.accepted gn a d (domain_below s d p.granted.numbers)) (λ _. refl)

  mapped : (d : Asid) (v : Gvpn) (f : Gppn) → DoneAlike (Map d v f)
  unfolding perform row on_records seal_all does
  mapped d v f p same = both_done s _ _ _ [] [] (tables_alike s m n a (with_mapping s d v (Some f)) (λ u. refl)) (λ _. refl)

  unmapped : (d : Asid) (v : Gvpn) → DoneAlike (Unmap d v)
  unfolding perform row on_records seal_all does
  unmapped d v p same = both_done s _ _ _ [] [] (tables_alike s m n a (with_mapping s d v None) (λ u. refl)) (λ _. refl)

  -- a frame that the kernel reads or writes names no page once it is sealed
  module _ (f : Gppn) (hf : f.0 < s.frames) (accepted : Accepted g m) (enough : Enough g (f ∷ []) m) where
    kernel_alike : Alike s (seal_all g (f ∷ []) m) (seal_all g (f ∷ []) n)
    kernel_alike = seal_all_alike g (f ∷ []) m n accepted gn (hf, tt) enough a

    kernel_accepted : Accepted g (seal_all g (f ∷ []) m)
    kernel_accepted = seal_all_accepted g (f ∷ []) m accepted (hf, tt) enough

    kernel_accepted' : Accepted g (seal_all g (f ∷ []) n)
    kernel_accepted' = seal_all_accepted g (f ∷ []) n gn (hf, tt) (enough_alike g m n a (f ∷ []) enough)

    kernel_bare : names_of (seal_all g (f ∷ []) m).tables f ≡ None
    unfolding seal_all
    kernel_bare = seal_names g f m accepted hf (room_first g f [] m enough)

  kernel_read_holds : (f : Gppn) (z : Span) → DoneAlike (KernelRead f z)
  unfolding perform does numbers_in
  kernel_read_holds f z p same =
      let hf = frame_below s f p.granted.numbers in
      let enough : Enough g (f ∷ []) m = rw (read_seals s t f z) at p.granted.signatures in
      let b = kernel_alike f hf p.accepted enough in
      rw (read_seals s t f z)
      (both_done s _ _ _ _ _ b
      (λ _.
      span_given g _ _ (kernel_accepted f hf p.accepted enough) (kernel_accepted' f hf p.accepted enough) b f hf z x y
      (kernel_bare f hf p.accepted enough)))

  kernel_write_holds : (f : Gppn) (z : Span) → DoneAlike (KernelWrite f z)
  unfolding perform does numbers_in
  kernel_write_holds f z p same =
      let hf = frame_below s f p.granted.numbers in
      let enough : Enough g (f ∷ []) m = rw (write_seals s t f z) at p.granted.signatures in
      let b = kernel_alike f hf p.accepted enough in
      rw (write_seals s t f z)
      (both_done s _ _ _ [] []
      (span_alike g _ _ (kernel_accepted f hf p.accepted enough) (kernel_accepted' f hf p.accepted enough) b f hf z x y (λ _. same))
      (λ _. refl))

  resume : (d : Asid) (c : Ctc) → DoneAlike (Resume d c)
  unfolding perform row on_records seal_all does
  resume d c p same =
      both_done s _ _ _ _ _ (turned_alike g m n p.accepted gn a c (Running d) (zeros 8) (zeros 8)) (λ given. absurd (true≢false given))

  spawn : (c u : Ctc) → DoneAlike (Spawn c u)
  unfolding perform row acting seal_all does
  spawn c u p same = both_done s _ _ _ [] [] (tables_alike s m n a (with_activity u (Running (domain_of t c))) (λ u. refl)) (λ _. refl)

  leave : (c : Ctc) → DoneAlike (Leave c)
  unfolding perform row acting seal_all does
  leave c p same = both_done s _ _ _ [] [] (turned_alike g m n p.accepted gn a c Free (zeros 8) (zeros 8)) (λ _. refl)

  trap : (c : Ctc) (k : TrapKind) (mask : ℕ) → DoneAlike (Trap c k mask)
  unfolding perform row acting seal_all does
  trap c k mask p same =
      both_done s _ _ _ _ _ (turned_alike g m n p.accepted gn a c (Kept (domain_of t c) k) (words_in 8 x) (words_in 8 y))
      (λ _. ap bytes_of (shown_same k mask x y same))

  cloak : (c : Ctc) (v : Gvpn) → DoneAlike (Cloak c v)
  unfolding perform row on_page seal_all does numbers_in own_place
  cloak c v p same =
      let k = cloakable g m c v (length x) space p in
      let d = domain_of t c in
      let f = own_frame s t c v in
      let room' = room_first g f [] n (enough_alike g m n a (f ∷ []) p.granted.signatures) in
      both_done s _ _ _ [] []
      (cloaked_alike g (seal g f m) (seal g f n) k.sealed (seal_accepted g f n gn k.frame room')
      (seal_alike g f m n p.accepted gn a k.frame k.room) f k.frame k.none d v k.within k.lives k.shared)
      (λ _. refl)

  uncloak : (c : Ctc) (v : Gvpn) → DoneAlike (Uncloak c v)
  unfolding perform row acting seal_all does numbers_in
  uncloak c v p same =
      both_done s _ _ _ [] []
      (uncloaked_alike g m n p.accepted gn a (domain_of t c) v (uncloak_own g m c v (length x) space p).within) (λ _. refl)

  read : (c : Ctc) (v : Gvpn) (z : Span) → DoneAlike (Read c v z)
  unfolding perform row touching on_page does numbers_in own_place
  read c v z p same =
      let own = read_own g m c v (length x) space z p in
      read_alike g m n p.accepted gn a (own_frame s t c v) (own.frame p.granted.mapped) (domain_of t c) v own.within
      p.granted.signatures z

  write : (c : Ctc) (v : Gvpn) (z : Span) → DoneAlike (Write c v z)
  unfolding perform row touching on_page does numbers_in own_place
  write c v z p same =
      let own = write_own g m c v (length x) space z p in
      write_alike g m n p.accepted gn a (own_frame s t c v) (own.frame p.granted.mapped) (domain_of t c) v own.within
      p.granted.signatures z x y same

  pub done_alike : (e : Event) → Unrefused g m e (length x) space → SameButSecrets g.setup m.tables e x y
      → SameEffect g.setup (for_application g.setup m.tables e) (perform g e x m)
      (does g m.tables e y (seal_all g (row g.setup m.tables e).seals n))
  done_alike (Begin d c) = begin d c
  done_alike (End d) = end d
  done_alike (Map d v f) = mapped d v f
  done_alike (Unmap d v) = unmapped d v
  done_alike (KernelRead f z) = kernel_read_holds f z
  done_alike (KernelWrite f z) = kernel_write_holds f z
  done_alike (Resume d c) = resume d c
  done_alike (Spawn c u) = spawn c u
  done_alike (Leave c) = leave c
  done_alike (Cloak c v) = cloak c v
  done_alike (Uncloak c v) = uncloak c v
  done_alike (Read c v z) = read c v z
  done_alike (Write c v z) = write c v z
  done_alike (Trap c k mask) = trap c k mask
