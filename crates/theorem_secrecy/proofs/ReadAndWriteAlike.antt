-- Reading and writing a page in two machines that are alike: the page is brought in in both or in neither, and what its frame holds may
-- differ, since the frame names it.
use Rattle.std.specs.Prelude.{None}
use mathlib.Core.Path.{◌≡◌, refl, sym, ap, ap₂, ◌∙◌}
use mathlib.Core.List.{List, []}
use mathlib.Core.Bool.{Bool, true, false, not, true≢false}
use Prim.Native.Nat.{ℕ, ◌+◌, ◌<◌}
use lib.ListN.{take, drop}
use Rattle.rules.specs.Bytes.{overlay}
use Rattle.rules.specs.Records.{Given, Machine, place_of, names_of, is_public, with_life, with_place, on_tables}
use Rattle.rules.specs.Sealing.{Effect, done, failed, and_then, unveiled_tables, unveiled, bring_in, seal_all, sealed_first}
use Rattle.rules.specs.Events.{span_bytes, store_span, written, marked_dirty}
use Rattle.rules.specs.declared.Setup.{Setup}
use Rattle.rules.specs.declared.Span.{Span}
use Rattle.rules.specs.declared.Asid.{Asid}
use Rattle.rules.specs.declared.Gvpn.{Gvpn}
use Rattle.rules.specs.declared.Gppn.{Gppn}
use Rattle.rules.specs.declared.Life.TheVariants.{Stopped}
use Rattle.rules.specs.declared.Wear.{Wear}
use Rattle.rules.specs.declared.Wear.TheVariants.{Clean}
use Rattle.rules.specs.declared.Place.{Place}
use Rattle.rules.specs.declared.Place.TheVariants.{Public, Sealed}
use Rattle.rules.proofs.Facts.{Accepted}
use Rattle.theorem_reached.proofs.SealFrames.{Enough, Fits, seal_all_accepted}
use Rattle.theorem_reached.proofs.FramesAndSlots.{Within}
use Rattle.theorem_reached.proofs.SealPage.{Holds}
use Rattle.theorem_reached.proofs.MakeClear.{nothing_page}
use Rattle.theorem_reached.proofs.TouchCases.{first_fits, touch_case}
use Rattle.theorem_reached.proofs.PageFates.{seal_all_quiet, quiet_public}
use Rattle.theorem_reached.proofs.BringIn.{bring_in_either, brings_public, brings_clear, brings_opened, brings_failed, sealed_enters}
use Rattle.theorem_reached.proofs.BringIn.{unveiled_accepted, opened_holds, laid_whole}
use Rattle.theorem_secrecy.proofs.Alike.{names_alike, place_alike, enough_alike, Alike, seal_all_alike, tables_alike, fill_alike}
use Rattle.theorem_secrecy.proofs.Alike.{enter_alike}

-- two effects that are alike, with answer bytes that agree where the kernel is given them
pub record SameEffect (s : Setup) (alone : Bool) (e f : Effect) : Type 0 where
  pub number : e.number ≡ f.number
  pub machine : Alike s e.machine f.machine
  pub bytes : alone ≡ false → e.bytes ≡ f.bytes

pub both_done : (s : Setup) (alone : Bool) (m n : Machine) (x y : List ℕ) → Alike s m n → (alone ≡ false → x ≡ y)
    → SameEffect s alone (done m x) (done n y)
unfolding done
both_done s alone m n x y a h = record { number = refl; machine = a; bytes = h }

-- a span stored alike: to a frame that names none, or to one that names a page
module _ (g : Given) (m n : Machine) (gm : Accepted g m) (gn : Accepted g n) (a : Alike g.setup m n) (f : Gppn)
    (hf : f.0 < g.setup.frames) (p : Span)
    (x y : List ℕ) where
  pub span_alike : (names_of m.tables f ≡ None → x ≡ y)
      → Alike g.setup (store_span g.setup f p x m) (store_span g.setup f p y n)
  unfolding store_span
  span_alike same =
      fill_alike g m n gm gn a f hf _ _ (laid_whole g m gm f hf p x) (laid_whole g n gn f hf p y)
      (λ none. ap₂ (overlay p.off) (same none) (a.bare f hf none))

  pub span_given : names_of m.tables f ≡ None → span_bytes g.setup f p m ≡ span_bytes g.setup f p n
  unfolding span_bytes
  span_given none = ap (λ (b : List ℕ). take p.len (drop p.off b)) (a.bare f hf none)

pub marked_alike : (s : Setup) (m n : Machine) → Alike s m n → (d : Asid) (v : Gvpn) → Alike s (marked_dirty s d v m) (marked_dirty s d v n)
unfolding marked_dirty
marked_alike s m n a d v = tables_alike s m n a (λ t. with_place s d v (written (place_of s t d v)) t) (λ t. refl)

-- a page touched
module _ (g : Given) (m n : Machine) (gm : Accepted g m) (gn : Accepted g n) (a : Alike g.setup m n) (f : Gppn)
    (hf : f.0 < g.setup.frames)
    (d : Asid) (v : Gvpn) (hd : Within g.setup d v) (enough : Enough g (sealed_first f (place_of g.setup m.tables d v)) m) where
  abbrev s : Setup
  s = g.setup

  abbrev fs : List Gppn
  fs = sealed_first f (place_of s m.tables d v)

  fits : Fits s fs
  fits = first_fits g m gm f hf d v hd

  enough' : Enough g fs n
  enough' = enough_alike g m n a fs enough

  abbrev q : Machine
  q = seal_all g fs m

  abbrev r : Machine
  r = seal_all g fs n

  q_accepted : Accepted g q
  q_accepted = seal_all_accepted g fs m gm fits enough

  r_accepted : Accepted g r
  r_accepted = seal_all_accepted g fs n gn fits enough'

  q_alike : Alike s q r
  q_alike = seal_all_alike g fs m n gm gn fits enough a

  public_as : is_public (place_of s q.tables d v) ≡ is_public (place_of s m.tables d v)
  public_as = quiet_public s d v m q (seal_all_quiet g d v hd fs m gm fits enough)

  opened_alike : (k : ℕ) → place_of s q.tables d v ≡ Sealed k → names_of q.tables f ≡ None
      → Alike s (unveiled g f d v k q) (unveiled g f d v k r)
  unfolding unveiled unveiled_tables
  opened_alike k place none =
      enter_alike g q r q_alike f d v (Clean k) _ _ (sealed_enters g q q_accepted f hf d v hd k place none)
      (sealed_enters g r r_accepted f hf d v hd k (place_alike s q r q_alike d v place)
      (names_alike s q r q_alike f none))
      (q.unveils + 1) (r.unveils + 1) (ap (λ (j : ℕ). j + 1) q_alike.unveils)

  stopped_alike : Alike s (on_tables (with_life d Stopped) q) (on_tables (with_life d Stopped) r)
  stopped_alike = tables_alike s q r q_alike (with_life d Stopped) (λ t. refl)

  -- what is done with the page is done alike in four cases: it is Public, it is there, it is unveiled, or its domain is stopped
  pub touch_alike : (alone : Bool) (next next' : Machine → Effect)
      → (place_of s q.tables d v ≡ Public → names_of q.tables f ≡ None → SameEffect s alone (next q) (next' r))
      → ((o u : Machine) (w : Wear) → Accepted g o → Accepted g u → Alike s o u → is_public (place_of s m.tables d v) ≡ false
      → Holds s o.tables f d v w → SameEffect s alone (next o) (next' u))
      → SameEffect s alone (and_then (bring_in g f d v q) next) (and_then (bring_in g f d v r) next')
  unfolding and_then done failed
  touch_alike alone next next' shared there =
      bring_in_either g q q_accepted f hf d v hd (touch_case g m gm f hf d v hd enough)
      (λ e. SameEffect s alone (and_then e next) (and_then (bring_in g f d v r) next'))
      (λ place none. rw (brings_public g f d v r (over place)) (shared place none))
      (λ w holds. rw (brings_clear g f d v r f w (over holds.place))
      (there q r w q_accepted r_accepted q_alike (private (ap is_public holds.place)) holds))
      (λ k place none same.
      rw (brings_opened g f d v r k (over place) (sym (q_alike.bare f hf none) ∙ same))
      (there (unveiled g f d v k q) (unveiled g f d v k r) (Clean k) (unveiled_accepted g q q_accepted f hf d v hd k place none)
      (unveiled_accepted g r r_accepted f hf d v hd k (over place) (names_alike s q r q_alike f none))
      (opened_alike k place none) (private (ap is_public place)) (opened_holds g q q_accepted f hf d v hd k place none)))
      (λ k place none apart.
      rw (brings_failed g f d v r k (over place) (λ same. apart (q_alike.bare f hf none ∙ same)))
      (record { number = refl; machine = stopped_alike; bytes = λ _. refl }))
    where
      over : {p : Place} → place_of s q.tables d v ≡ p → place_of s r.tables d v ≡ p
      over {p} e = place_alike s q r q_alike d v e

      private : is_public (place_of s q.tables d v) ≡ false → is_public (place_of s m.tables d v) ≡ false
      private e = sym public_as ∙ e

  -- a read: the bytes agree where the page is Public
  pub read_alike : (p : Span)
      → SameEffect s (not (is_public (place_of s m.tables d v))) (and_then (bring_in g f d v q) (λ o. done o (span_bytes s f p o)))
      (and_then (bring_in g f d v r) (λ o. done o (span_bytes s f p o)))
  read_alike p =
      touch_alike (not (is_public (place_of s m.tables d v))) (λ o. done o (span_bytes s f p o)) (λ o. done o (span_bytes s f p o))
      (λ place none. both_done s _ q r _ _ q_alike (λ _. span_given g q r q_accepted r_accepted q_alike f hf p [] [] none))
      (λ o u w go gu b private holds. both_done s _ o u _ _ b (λ given. absurd (true≢false (sym (ap not private) ∙ given))))

  -- a write: the data agree where the page is Public
  pub write_alike : (p : Span) (x y : List ℕ) → (is_public (place_of s m.tables d v) ≡ true → x ≡ y)
      → SameEffect s false (and_then (bring_in g f d v q) (λ o. done (marked_dirty s d v (store_span s f p x o)) []))
      (and_then (bring_in g f d v r) (λ o. done (marked_dirty s d v (store_span s f p y o)) []))
  write_alike p x y same =
      touch_alike false (λ o. done (marked_dirty s d v (store_span s f p x o)) [])
      (λ o. done (marked_dirty s d v (store_span s f p y o)) [])
      (λ place none.
      both_done s false _ _ [] []
      (marked_alike s _ _ (span_alike g q r q_accepted r_accepted q_alike f hf p x y (λ _. same (sym public_as ∙ ap is_public place))) d v)
      (λ _. refl))
      (λ o u w go gu b private holds.
      both_done s false _ _ [] []
      (marked_alike s _ _ (span_alike g o u go gu b f hf p x y (λ none. absurd (nothing_page none holds.names))) d v) (λ _. refl))
