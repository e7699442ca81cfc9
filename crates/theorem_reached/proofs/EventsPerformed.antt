-- Each of the fourteen events, where no check refuses it: the machine stays acceptable, and each page's bytes are as the event's act on the
-- page says.
use Rattle.std.specs.Prelude.{Some, None}
use mathlib.Core.Path.{◌≡◌, refl}
use mathlib.Core.List.{List, [], ◌∷◌}
use mathlib.Core.Bool.{Bool, true, false, not, cond}
use Prim.Native.Nat.{ℕ, ◌<◌}
use native.Mathlib.Omega.{arith}
use lib.ListN.{length}
use lib.Dec.{T, eqb, eqb→eq, lt→ltb}
use borrow.Author.Tests.{eqb-true, eqb-false, not-true}
use Rattle.rules.specs.Bytes.{zeros, words_in}
use Rattle.rules.specs.Sizes.{domain_in, context_in}
use Rattle.rules.specs.Records.{Given, Machine, life_of, activity_of, place_of, domain_of, is_empty, is_kept_in, is_public}
use Rattle.rules.specs.Sound.{begun, activity_sound, mapping_sound}
use Rattle.rules.specs.Sealing.{done, seal, seal_all}
use Rattle.rules.specs.Events.{row, numbers_in, running, own_place, own_frame, on_records, on_frame, acting, on_page, touching, ended}
use Rattle.rules.specs.Events.{span_bytes}
use Rattle.rules.specs.Events.{does}
use Rattle.rules.specs.Answers.{perform}
use Rattle.rules.specs.Asked.{Agreed}
use Rattle.rules.specs.declared.Setup.{Setup}
use Rattle.rules.specs.declared.Tables.{Tables}
use Rattle.rules.specs.declared.Asid.{Asid}
use Rattle.rules.specs.declared.Gvpn.{Gvpn}
use Rattle.rules.specs.declared.Gppn.{Gppn}
use Rattle.rules.specs.declared.Ctc.{Ctc}
use Rattle.rules.specs.declared.Span.{Span}
use Rattle.rules.specs.declared.TrapKind.{TrapKind}
use Rattle.rules.specs.declared.Activity.{Activity}
use Rattle.rules.specs.declared.Activity.TheVariants.{Free, Running, Kept}
use Rattle.rules.specs.declared.Event.{Event}
use Rattle.rules.specs.declared.Event.TheVariants.{Begin, End, Map, Unmap, KernelRead, KernelWrite, Resume, Spawn, Leave, Cloak, Uncloak}
use Rattle.rules.specs.declared.Event.TheVariants.{Read, Write, Trap}
use Rattle.rules.proofs.PageNumbers.{same_domain}
use Rattle.rules.proofs.Tests.{each, all, passes, domain_below, page_below, frame_below, context_below}
use Rattle.rules.proofs.Facts.{Accepted}
use Rattle.rules.proofs.Granting.{Unrefused}
use Rattle.theorem_reached.proofs.OwnPages.{cloakable, home, uncloak_own, read_own, write_own}
use Rattle.theorem_reached.proofs.FramesAndSlots.{Within}
use Rattle.theorem_reached.proofs.SealFrames.{Fits, seal_accepted, seal_all_accepted, seal_names, room_first}
use Rattle.theorem_reached.proofs.PageFates.{is_same, and_then_holds, kept, dropped, Fate, is_kept, is_dropped, same_number, seal_quiet}
use Rattle.theorem_reached.proofs.PageFates.{seal_all_quiet, act_of, Did, after_quiet}
use Rattle.theorem_reached.proofs.EndOfDomain.{ended_accepted, ended_stays, ended_public}
use Rattle.theorem_reached.proofs.ContextsAndMappings.{activity_accepted, turned_accepted, turned_stays, begun_accepted}
use Rattle.theorem_reached.proofs.ContextsAndMappings.{mapping_accepted, mapping_stays}
use Rattle.theorem_reached.proofs.CloakAndUncloak.{cloak_accepted, cloak_fate, uncloak_accepted, uncloak_fate}
use Rattle.theorem_reached.proofs.ReadAndWrite.{did_kept, did_read, did_write, writes}
use Rattle.theorem_reached.proofs.BringIn.{span_accepted, span_stays}

-- a Kept context's domain is begun
kept_begun : (s : Setup) (t : Tables) → Agreed s t → (c : Ctc) → c.0 < s.contexts → (d : Asid) (a : Activity) → activity_of t c ≡ a
    → T (is_kept_in d a) → T (activity_sound s t (Running d))
unfolding activity_sound begun domain_in
kept_begun s t agrees c hc d Free e h = absurd h
kept_begun s t agrees c hc d (Running x) e h = absurd h
kept_begun s t agrees c hc d (Kept x k) e h =
    let b = agrees.kept c x k hc e in
    let q = same_domain x d (eqb→eq _ _ h) in
    all _ (lt→ltb _ _ (rw q at b.0), (rw q at b.1, tt))

-- every event
module _ (g : Given) (m : Machine) (new : List ℕ) (space : ℕ) where
  abbrev s : Setup
  s = g.setup

  abbrev t : Tables
  t = m.tables

  abbrev Performs : Event → Type 0
  Performs e = Unrefused g m e (length new) space → Did g m (act_of s t e new) (perform g e new m)

  -- what is known of an acting context
  module _ (accepted : Accepted g m) (c : Ctc) (hc : T (context_in s c)) (r : T (running t c)) where
    own_domain : (domain_of t c).0 < s.domains
    own_domain = (home s t accepted.looks.agrees c (context_below s c hc) r).0

    own_lives : T (not (is_empty (life_of t (domain_of t c))))
    own_lives = (home s t accepted.looks.agrees c (context_below s c hc) r).1

    own_begun : T (begun s t (domain_of t c))
    unfolding begun domain_in
    own_begun = all _ (lt→ltb _ _ own_domain, (own_lives, tt))

  begin : (d : Asid) (c : Ctc) → Performs (Begin d c)
  unfolding perform row on_records seal_all does act_of numbers_in
  begin d c p =
      let n = each _ p.granted.numbers in
      did_kept g m _ (λ e w. refl) _ [] (begun_accepted g m p.accepted d (domain_below s d n.0) c (context_below s c n.1.0))
      (λ e w he. is_same (record { place = refl; frame = λ f y h. refl; slot = refl; used = omega arith }))

  end : (d : Asid) → Performs (End d)
  unfolding perform row on_records seal_all does done act_of numbers_in
  end d p =
      let hd = domain_below s d p.granted.numbers in
      record { accepted = ended_accepted g m p.accepted d hd; fate = λ e w he. at hd e w he (eqb e.0 d.0) refl }
    where
      at : d.0 < s.domains → (e : Asid) (w : Gvpn) → Within s e w → (b : Bool) → eqb e.0 d.0 ≡ b
          → Fate s e w m (ended s d m) (cond b dropped kept)
      at hd e w he true q = is_dropped (ended_public g m p.accepted d hd e w he (eqb-true _ _ q))
      at hd e w he false q = is_kept (is_same (ended_stays g m p.accepted d hd e w he (eqb-false _ _ q)))

  mapped : (d : Asid) (v : Gvpn) (f : Gppn) → Performs (Map d v f)
  unfolding perform row on_records seal_all does act_of numbers_in mapping_sound
  mapped d v f p =
      let n = each _ p.granted.numbers in
      let hd : Within s d v = record { domain = domain_below s d n.0; page = page_below s v n.1.0 } in
      did_kept g m _ (λ e w. refl) _ [] (mapping_accepted g m p.accepted d v hd (Some f) n.1.1.0 p.granted.condition)
      (λ e w he. is_same (mapping_stays g m p.accepted d v hd (Some f) e w he))

  unmapped : (d : Asid) (v : Gvpn) → Performs (Unmap d v)
  unfolding perform row on_records seal_all does act_of numbers_in mapping_sound
  unmapped d v p =
      let n = each _ p.granted.numbers in
      let hd : Within s d v = record { domain = domain_below s d n.0; page = page_below s v n.1.0 } in
      did_kept g m _ (λ e w. refl) _ [] (mapping_accepted g m p.accepted d v hd None tt p.granted.condition)
      (λ e w he. is_same (mapping_stays g m p.accepted d v hd None e w he))

  kernel_read_holds : (f : Gppn) (x : Span) → Performs (KernelRead f x)
  unfolding perform row on_frame does act_of numbers_in
  kernel_read_holds f x p =
      let fit : Fits s (f ∷ []) = (frame_below s f p.granted.numbers, tt) in
      did_kept g m _ (λ e w. refl) _ _ (seal_all_accepted g (f ∷ []) m p.accepted fit p.granted.signatures)
      (λ e w he. seal_all_quiet g e w he (f ∷ []) m p.accepted fit p.granted.signatures)

  kernel_write_holds : (f : Gppn) (x : Span) → Performs (KernelWrite f x)
  unfolding perform row on_frame does act_of numbers_in seal_all
  kernel_write_holds f x p =
      let hf = frame_below s f p.granted.numbers in
      let room = room_first g f [] m p.granted.signatures in
      let accepted = seal_accepted g f m p.accepted hf room in
      did_kept g m _ (λ e w. refl) _ [] (span_accepted g _ accepted f hf x new)
      (λ e w he.
      and_then_holds (seal_quiet g e w he f m p.accepted hf room)
      (is_same (span_stays g _ accepted f hf x new (seal_names g f m p.accepted hf room) e w he)))

  resume : (d : Asid) (c : Ctc) → Performs (Resume d c)
  unfolding perform row on_records seal_all does act_of numbers_in
  resume d c p =
      let n = each _ p.granted.numbers in
      let hc = context_below s c n.1.0 in
      did_kept g m _ (λ e w. refl) _ _
      (turned_accepted g m p.accepted c hc (Running d)
      (kept_begun s t p.accepted.looks.agrees c hc d (activity_of t c) refl p.granted.condition) (zeros 8))
      (λ e w he. is_same (turned_stays g m p.accepted c (Running d) (zeros 8) e w))

  spawn : (c u : Ctc) → Performs (Spawn c u)
  unfolding perform row acting seal_all does act_of numbers_in activity_sound
  spawn c u p =
      let n = each _ p.granted.numbers in
      let r = each _ p.granted.condition in
      did_kept g m _ (λ e w. refl) _ []
      (activity_accepted g m p.accepted u (context_below s u n.1.0) (Running (domain_of t c))
      (own_begun p.accepted c n.0 r.0))
      (λ e w he. is_same (record { place = refl; frame = λ f y h. refl; slot = refl; used = omega arith }))

  leave : (c : Ctc) → Performs (Leave c)
  unfolding perform row acting seal_all does act_of numbers_in activity_sound
  leave c p =
      did_kept g m _ (λ e w. refl) _ [] (turned_accepted g m p.accepted c (context_below s c p.granted.numbers) Free tt (zeros 8))
      (λ e w he. is_same (turned_stays g m p.accepted c Free (zeros 8) e w))

  trap : (c : Ctc) (k : TrapKind) (mask : ℕ) → Performs (Trap c k mask)
  unfolding perform row acting seal_all does act_of numbers_in activity_sound
  trap c k mask p =
      let r = each _ p.granted.condition in
      let to = Kept (domain_of t c) k in
      did_kept g m _ (λ e w. refl) _ _
      (turned_accepted g m p.accepted c (context_below s c p.granted.numbers) to
      (own_begun p.accepted c p.granted.numbers r.0) (words_in 8 new))
      (λ e w he. is_same (turned_stays g m p.accepted c to (words_in 8 new) e w))

  uncloak : (c : Ctc) (v : Gvpn) → Performs (Uncloak c v)
  unfolding perform row acting seal_all does done act_of numbers_in own_place
  uncloak c v p =
      let own = uncloak_own g m c v (length new) space p in
      let r = each _ p.granted.condition in
      let d = domain_of t c in
      record {
        accepted =
            uncloak_accepted g m p.accepted d v own.within own.lives (not-true (is_public (place_of s t d v)) (passes _ r.1.0));
        fate = λ e w he. uncloak_fate g m p.accepted d v own.within own.lives e w he (same_number s d v e w) refl;
      }

  cloak : (c : Ctc) (v : Gvpn) → Performs (Cloak c v)
  unfolding perform row on_page seal_all does done act_of numbers_in own_place
  cloak c v p =
      let k = cloakable g m c v (length new) space p in
      let d = domain_of t c in
      let f = own_frame s t c v in
      let q = seal g f m in
      record {
        accepted = cloak_accepted g q k.sealed f k.frame k.none d v k.within k.lives k.shared;
        fate =
            λ e w he.
            after_quiet s e w m q _ _ (seal_quiet g e w he f m p.accepted k.frame k.room)
            (cloak_fate g q k.sealed f k.frame k.none d v k.within k.lives k.shared e w he (same_number s d v e w) refl);
      }

  read : (c : Ctc) (v : Gvpn) (x : Span) → Performs (Read c v x)
  unfolding perform row touching on_page does act_of numbers_in own_place
  read c v x p =
      let own = read_own g m c v (length new) space x p in
      did_read g m p.accepted (own_frame s t c v) (own.frame p.granted.mapped) (domain_of t c) v own.within
      p.granted.signatures _ (λ e w. refl) (span_bytes s (own_frame s t c v) x)

  write : (c : Ctc) (v : Gvpn) (x : Span) → Performs (Write c v x)
  unfolding perform row touching on_page does act_of numbers_in own_place writes
  write c v x p =
      let own = write_own g m c v (length new) space x p in
      did_write g m p.accepted (own_frame s t c v) (own.frame p.granted.mapped) (domain_of t c) v own.within
      p.granted.signatures x new

  pub performs : (e : Event) → Unrefused g m e (length new) space → Did g m (act_of g.setup m.tables e new) (perform g e new m)
  performs (Begin d c) = begin d c
  performs (End d) = end d
  performs (Map d v f) = mapped d v f
  performs (Unmap d v) = unmapped d v
  performs (KernelRead f x) = kernel_read_holds f x
  performs (KernelWrite f x) = kernel_write_holds f x
  performs (Resume d c) = resume d c
  performs (Spawn c u) = spawn c u
  performs (Leave c) = leave c
  performs (Cloak c v) = cloak c v
  performs (Uncloak c v) = uncloak c v
  performs (Read c v x) = read c v x
  performs (Write c v x) = write c v x
  performs (Trap c k mask) = trap c k mask
