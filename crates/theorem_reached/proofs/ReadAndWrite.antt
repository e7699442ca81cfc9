-- Reading and writing a page at the frame to which it is mapped: the machine stays acceptable, the page's bytes stay or have new ones laid
-- over them, and every other page's bytes stay.
use Rattle.std.specs.Prelude.{None}
use mathlib.Core.Path.{◌≡◌, refl, sym, ap, ◌∙◌, subst}
use mathlib.Core.List.{List, []}
use mathlib.Core.Bool.{Bool, true, false, cond}
use Prim.Native.Nat.{ℕ, ◌+◌, ◌<◌}
use native.Mathlib.Decide.{ℕ_discrete}
use native.Mathlib.Omega.{arith}
use lib.Dec.{eqb}
use borrow.Author.Tests.{eqb-true, eqb-false}
use Rattle.rules.specs.Sizes.{page_number}
use Rattle.rules.specs.Records.{Given, Machine, place_of, names_of, is_public, with_life, on_tables, slot_bytes}
use Rattle.rules.specs.Sealing.{done, failed, and_then, unveiled_tables, unveiled, bring_in, seal_all, sealed_first}
use Rattle.rules.specs.Events.{store_span, marked_dirty}
use Rattle.rules.specs.declared.Setup.{Setup}
use Rattle.rules.specs.declared.Tables.{Tables}
use Rattle.rules.specs.declared.Asid.{Asid}
use Rattle.rules.specs.declared.Gvpn.{Gvpn}
use Rattle.rules.specs.declared.Gppn.{Gppn}
use Rattle.rules.specs.declared.Span.{Span}
use Rattle.rules.specs.declared.Life.TheVariants.{Stopped}
use Rattle.rules.specs.declared.Wear.{Wear}
use Rattle.rules.specs.declared.Wear.TheVariants.{Clean}
use Rattle.rules.specs.declared.Place.TheVariants.{Public, Sealed}
use Rattle.rules.proofs.PageNumbers.{number_one}
use Rattle.rules.proofs.Facts.{Accepted}
use Rattle.theorem_reached.proofs.SealFrames.{Enough, seal_all_accepted}
use Rattle.theorem_reached.proofs.FramesAndSlots.{unveil_restores, Within}
use Rattle.theorem_reached.proofs.SealPage.{Holds}
use Rattle.theorem_reached.proofs.MakeClear.{Enters, enter_holds, enter_stays}
use Rattle.theorem_reached.proofs.TouchCases.{first_fits, touch_case}
use Rattle.theorem_reached.proofs.PageFates.{Quiet, is_same, is_unveiled, and_then_holds, Act, kept, put, Fate, is_kept, is_put}
use Rattle.theorem_reached.proofs.PageFates.{same_number, seal_all_quiet, quiet_public, Did}
use Rattle.theorem_reached.proofs.BringIn.{bring_in_either, sealed_enters, unveiled_accepted, opened_holds, stopped_accepted}
use Rattle.theorem_reached.proofs.BringIn.{stopped_stays, span_accepted, span_stays, stored_place, stored_frame, stored_stays}
use Rattle.theorem_reached.proofs.BringIn.{stored_accepted, unmarked}

module _ (g : Given) (m : Machine) where
  abbrev s : Setup
  s = g.setup

  abbrev t : Tables
  t = m.tables

  -- done, and every page's bytes stay as they are
  pub did_kept : (act : Asid → Gvpn → Act) → ((d : Asid) (v : Gvpn) → act d v ≡ kept) → (n : Machine) (bytes : List ℕ) → Accepted g n
      → ((d : Asid) (v : Gvpn) → Within s d v → Quiet s d v m n) → Did g m act (done n bytes)
  unfolding done
  did_kept act none n bytes accepted moved = record { accepted = accepted; fate = λ d v h. rw (none d v) (is_kept (moved d v h)) }

  -- a page touched at the frame to which it is mapped
  module _ (accepted : Accepted g m) (f : Gppn) (hf : f.0 < s.frames) (d : Asid) (v : Gvpn) (hd : Within s d v)
      (enough : Enough g (sealed_first f (place_of s t d v)) m) where
    abbrev q : Machine
    q = seal_all g (sealed_first f (place_of s t d v)) m

    pub sealed_first_accepted : Accepted g q
    sealed_first_accepted = seal_all_accepted g _ m accepted (first_fits g m accepted f hf d v hd) enough

    pub sealed_first_quiet : (e : Asid) (w : Gvpn) → Within s e w → Quiet s e w m q
    sealed_first_quiet e w he = seal_all_quiet g e w he _ m accepted (first_fits g m accepted f hf d v hd) enough

    pub opened_quiet : (k : ℕ) → place_of s q.tables d v ≡ Sealed k → names_of q.tables f ≡ None → (e : Asid) (w : Gvpn)
        → Within s e w → Quiet s e w m (unveiled g f d v k q)
    unfolding unveiled unveiled_tables
    opened_quiet k place none e w he = and_then_holds (sealed_first_quiet e w he) (at (ℕ_discrete (page_number s e w) (page_number s d v)))
      where
        enters : Enters g q f d v (Clean k) (slot_bytes s d v q)
        enters = sealed_enters g q sealed_first_accepted f hf d v hd k place none

        at : Dec (page_number s e w ≡ page_number s d v) → Quiet s e w q (unveiled g f d v k q)
        at (yes p) =
            let r = number_one s e d w v he.page hd.page p in
            rw (r.0, r.1)
            (is_unveiled {m = q} {n = unveiled g f d v k q} f k place
            (enter_holds g q f d v (Clean k) (slot_bytes s d v q) enters (q.unveils + 1)).place
            (unveil_restores g f d v k q hf sealed_first_accepted.looks.frames hd sealed_first_accepted.looks.store) refl
            (omega arith))
        at (no ne) = is_same (enter_stays g q f d v (Clean k) (slot_bytes s d v q) enters (q.unveils + 1) e w he ne)

    did_failed : (act : Asid → Gvpn → Act) → Did g m act (failed (on_tables (with_life d Stopped) q))
    unfolding failed
    did_failed act =
        record {
          accepted = stopped_accepted g q sealed_first_accepted f hf d v hd;
          fate =
              λ e w he.
              is_kept (and_then_holds (sealed_first_quiet e w he) (is_same (stopped_stays g q sealed_first_accepted f hf d v hd e w)));
        }

    pub did_read : (act : Asid → Gvpn → Act) → ((e : Asid) (w : Gvpn) → act e w ≡ kept) → (bytes : Machine → List ℕ)
        → Did g m act (and_then (bring_in g f d v q) (λ n. done n (bytes n)))
    unfolding and_then done failed
    did_read act none bytes =
        bring_in_either g q sealed_first_accepted f hf d v hd (touch_case g m accepted f hf d v hd enough)
        (λ e. Did g m act (and_then e (λ n. done n (bytes n))))
        (λ _ _. did_kept act none q (bytes q) sealed_first_accepted sealed_first_quiet)
        (λ _ _. did_kept act none q (bytes q) sealed_first_accepted sealed_first_quiet)
        (λ k place free _. did_kept act none _ _ (unveiled_accepted g q sealed_first_accepted f hf d v hd k place free)
        (opened_quiet k place free))
        (λ _ _ _ _. did_failed act)

    unfoldable pub writes : Span → List ℕ → Asid → Gvpn → Act
    writes x new e w = cond (is_public (place_of s t d v)) kept (cond (same_number s d v e w) (put x.off new) kept)

    -- bytes stored to the page, Clear in the frame
    did_put : (x : Span) (new : List ℕ) → is_public (place_of s t d v) ≡ false → (o : Machine) → Accepted g o
        → ((e : Asid) (w : Gvpn) → Within s e w → Quiet s e w m o) → (y : Wear) → Holds s o.tables f d v y
        → Did g m (writes x new) (done (marked_dirty s d v (store_span s f x new o)) [])
    unfolding done writes same_number
    did_put x new private o o-accepted moved y holds =
        record {
          accepted = stored_accepted g o o-accepted f hf x new d v y holds;
          fate = λ e w he. rw private (at e w he (eqb (page_number s d v) (page_number s e w)) refl);
        }
      where
        at : (e : Asid) (w : Gvpn) → Within s e w → (b : Bool) → eqb (page_number s d v) (page_number s e w) ≡ b
            → Fate s e w m (marked_dirty s d v (store_span s f x new o)) (cond b (put x.off new) kept)
        at e w he true p =
            let r = number_one s d e v w hd.page he.page (eqb-true _ _ p) in
            rw (← r.0, ← r.1)
            (is_put o f y x.off new (moved d v hd) holds.place (stored_place g o o-accepted f hf x new d v y holds)
            (stored_frame g o o-accepted f hf x new d v y holds))
        at e w he false p =
            is_kept (and_then_holds (moved e w he)
            (is_same (stored_stays g o o-accepted f hf x new d v y holds e w he (λ r. eqb-false _ _ p (sym r)))))

    -- bytes stored to the frame of a Public page
    did_shared : (x : Span) (new : List ℕ) → place_of s q.tables d v ≡ Public → names_of q.tables f ≡ None
        → Did g m (writes x new) (done (marked_dirty s d v (store_span s f x new q)) [])
    unfolding writes
    did_shared x new shared none =
        subst (λ (n : Machine). Did g m (writes x new) (done n [])) (sym (unmarked s d v (store_span s f x new q) still))
        (did_kept (writes x new) (λ e w. rw was) (store_span s f x new q) [] (span_accepted g q sealed_first_accepted f hf x new)
        (λ e w he. and_then_holds (sealed_first_quiet e w he) (is_same (span_stays g q sealed_first_accepted f hf x new none e w he))))
      where
        was : is_public (place_of s t d v) ≡ true
        was = sym (quiet_public s d v m q (sealed_first_quiet d v hd)) ∙ ap is_public shared

        still : place_of s (store_span s f x new q).tables d v ≡ Public
        still = (span_stays g q sealed_first_accepted f hf x new none d v hd).place ∙ shared

    pub did_write : (x : Span) (new : List ℕ)
        → Did g m (writes x new) (and_then (bring_in g f d v q) (λ n. done (marked_dirty s d v (store_span s f x new n)) []))
    unfolding and_then done failed
    did_write x new =
        bring_in_either g q sealed_first_accepted f hf d v hd (touch_case g m accepted f hf d v hd enough)
        (λ e. Did g m (writes x new) (and_then e (λ n. done (marked_dirty s d v (store_span s f x new n)) [])))
        (λ shared none. did_shared x new shared none)
        (λ y holds. did_put x new (was (ap is_public holds.place)) q sealed_first_accepted sealed_first_quiet y holds)
        (λ k place none _.
        did_put x new (was (ap is_public place)) (unveiled g f d v k q)
        (unveiled_accepted g q sealed_first_accepted f hf d v hd k place none)
        (opened_quiet k place none) (Clean k) (opened_holds g q sealed_first_accepted f hf d v hd k place none))
        (λ _ _ _ _. did_failed (writes x new))
      where
        was : is_public (place_of s q.tables d v) ≡ false → is_public (place_of s t d v) ≡ false
        was p = sym (quiet_public s d v m q (sealed_first_quiet d v hd)) ∙ p
