-- What a granted event tells of a page, looking back, is what the event's act on the page makes of it.
use mathlib.Core.Path.{◌≡◌, refl, sym, ap, ◌∙◌}
use mathlib.Core.List.{List, [], ◌∷◌}
use mathlib.Core.Bool.{Bool, true, false, not, cond, true≢false}
use Prim.Native.Nat.{ℕ, ◌+◌, ◌-◌, ◌≤◌}
use native.Mathlib.Omega.{arith}
use lib.ListN.{length, get_or}
use lib.Dec.{T, eqb, leb→le}
use borrow.Author.Tests.{eqb-true, eqb-false, eq-eqb}
use Rattle.rules.specs.Sizes.{page_number}
use Rattle.rules.specs.Records.{Given, Machine, place_of, domain_of, is_public}
use Rattle.rules.specs.Events.{row, span_fits, running, own_place, on_page, touching}
use Rattle.rules.specs.declared.Setup.{Setup}
use Rattle.rules.specs.declared.Tables.{Tables}
use Rattle.rules.specs.declared.Asid.{Asid}
use Rattle.rules.specs.declared.Gvpn.{Gvpn}
use Rattle.rules.specs.declared.Ctc.{Ctc}
use Rattle.rules.specs.declared.Span.{Span}
use Rattle.rules.specs.declared.Place.{Place}
use Rattle.rules.specs.declared.Event.{Event}
use Rattle.rules.specs.declared.Event.TheVariants.{Begin, End, Map, Unmap, KernelRead, KernelWrite, Resume, Spawn, Leave, Cloak, Uncloak}
use Rattle.rules.specs.declared.Event.TheVariants.{Read, Write, Trap}
use Rattle.rules.proofs.PageNumbers.{number_one, same_domain, same_page_holds}
use Rattle.rules.proofs.Tests.{each, all, passes, passed}
use Rattle.rules.proofs.Granting.{Unrefused}
use Rattle.theorem_reached.proofs.FramesAndSlots.{Within}
use Rattle.theorem_reached.proofs.PageFates.{kept, zeroed, dropped, put, same_number, act_of}
use Rattle.theorem_reached.proofs.OwnPages.{OwnPage, cloak_own, uncloak_own, write_own, cloak_runs, uncloak_runs, write_runs}
use Rattle.theorem_freshness.specs.Past.{OfContext, OfPage, shared, same_page, covers, page_after}
use Rattle.theorem_freshness.proofs.ToldPages.{Told, span}

-- two pages are the same by their numbers or by domain and page
same_as : (s : Setup) (d : Asid) (v : Gvpn) (e : Asid) (w : Gvpn) → Within s d v → Within s e w → same_number s d v e w ≡ same_page d v e w
unfolding same_number
same_as s d v e w hd he = at (eqb (page_number s d v) (page_number s e w)) refl (same_page d v e w) refl
  where
    at : (a : Bool) → eqb (page_number s d v) (page_number s e w) ≡ a → (b : Bool) → same_page d v e w ≡ b → a ≡ b
    at true p true q = refl
    at true p false q =
        let k = number_one s d e v w hd.page he.page (eqb-true _ _ p) in
        sym (passes _ (all (eqb d.0 e.0 ∷ eqb v.0 w.0 ∷ [])
        (passed _ (eq-eqb _ _ (ap (λ (x : Asid). x.0) k.0)), (passed _ (eq-eqb _ _ (ap (λ (x : Gvpn). x.0) k.1)), tt)))) ∙ q
    at false p true q =
        let r = each (eqb d.0 e.0 ∷ eqb v.0 w.0 ∷ []) (passed _ q) in
        let ed : d.0 ≡ e.0 = lib.Dec.eqb→eq _ _ r.0 in
        let ev : v.0 ≡ w.0 = lib.Dec.eqb→eq _ _ r.1.0 in
        let n : page_number s d v ≡ page_number s e w = rw (same_domain d e ed, same_page_holds v w ev) in
        absurd (eqb-false _ _ p n)
    at false p false q = refl

module _ (g : Given) (m : Machine) (new : List ℕ) (space : ℕ) (context : Ctc → OfContext)
    (at_home : (c : Ctc) → T (running m.tables c) → (context c).home ≡ domain_of m.tables c) (d : Asid) (v : Gvpn)
    (hd : Within g.setup d v)
    (x : OfPage) (private : x.private ≡ not (is_public (place_of g.setup m.tables d v))) where
  abbrev s : Setup
  s = g.setup

  abbrev t : Tables
  t = m.tables

  abbrev Tells : Event → Type 0
  Tells e = Unrefused g m e (length new) space → Told s.size (act_of s t e new d v) x (page_after e new context d v x)

  -- the page of a running context, by the domain that the past tells
  own_told : (c : Ctc) (w : Gvpn) → OwnPage s t c w → T (running t c)
      → same_number s (domain_of t c) w d v ≡ same_page (context c).home w d v
  own_told c w own r = same_as s (domain_of t c) w d v own.within hd ∙ ap (λ (e : Asid). same_page e w d v) (sym (at_home c r))

  ends : (e : Asid) → Tells (End e)
  unfolding act_of page_after
  ends e p = at (eqb d.0 e.0)
    where
      at : (b : Bool) → Told s.size (cond b dropped kept) x (cond b shared x)
      at true = refl
      at false = (refl, λ _ i. refl)

  cloaks : (c : Ctc) (w : Gvpn) → Tells (Cloak c w)
  unfolding act_of page_after
  cloaks c w p =
      rw (own_told c w (cloak_own g m c w (length new) space p) (cloak_runs g m c w (length new) space p))
      (at (same_page (context c).home w d v))
    where
      at : (b : Bool) → Told s.size (cond b zeroed kept) x (cond b (record { private = true; last_written = λ i. 0 }) x)
      at true = (refl, λ i. refl)
      at false = (refl, λ _ i. refl)

  uncloaks : (c : Ctc) (w : Gvpn) → Tells (Uncloak c w)
  unfolding act_of page_after
  uncloaks c w p =
      rw (own_told c w (uncloak_own g m c w (length new) space p) (uncloak_runs g m c w (length new) space p))
      (at (same_page (context c).home w d v))
    where
      at : (b : Bool) → Told s.size (cond b dropped kept) x (cond b shared x)
      at true = refl
      at false = (refl, λ _ i. refl)

  writes : (c : Ctc) (w : Gvpn) (z : Span) → Tells (Write c w z)
  unfolding act_of page_after row touching on_page own_place span_fits
  writes c w z p =
      rw (own_told c w (write_own g m c w (length new) space z p) r)
      (at (is_public (place_of s t (domain_of t c) w)) refl (same_page (context c).home w d v) refl)
    where
      r : T (running t c)
      r = write_runs g m c w (length new) space z p

      -- a write to this very page, where it is Public
      own : same_page (context c).home w d v ≡ true → place_of s t (domain_of t c) w ≡ place_of s t d v
      own q =
          let k = each (eqb (context c).home.0 d.0 ∷ eqb w.0 v.0 ∷ []) (passed _ q) in
          let ed : domain_of t c ≡ d = sym (at_home c r) ∙ same_domain (context c).home d (lib.Dec.eqb→eq _ _ k.0) in
          let ev : w ≡ v = same_page_holds w v (lib.Dec.eqb→eq _ _ k.1.0) in
          rw (ed, ev)

      after : Bool → OfPage
      after b =
          cond b
          (record { private = x.private; last_written = λ i. cond (covers z i) (get_or new (i - z.off) 0) (x.last_written i) })
          x

      at : (a : Bool) → is_public (place_of s t (domain_of t c) w) ≡ a → (b : Bool) → same_page (context c).home w d v ≡ b
          → Told s.size (cond a kept (cond b (put z.off new) kept)) x (after b)
      at true q true e =
          (refl, λ h i. absurd (true≢false (sym h ∙ private ∙ ap (λ (k : Place). not (is_public k)) (sym (own e)) ∙ ap not q)))
      at true q false e = (refl, λ _ i. refl)
      at false q true e =
          let n : length new ≡ z.len = p.granted.brings in
          let f : z.off + z.len ≤ s.size = leb→le _ _ (each _ p.granted.span).1.0 in
          (omega arith, refl, λ i. ap (λ (k : ℕ). cond (covers (span z.off k) i) (get_or new (i - z.off) 0) (x.last_written i)) (sym n))
      at false q false e = (refl, λ _ i. refl)

  pub tells : (e : Event) → Unrefused g m e (length new) space
      → Told g.setup.size (act_of g.setup m.tables e new d v) x (page_after e new context d v x)
  unfolding act_of page_after
  tells (Begin e c) p = (refl, λ _ i. refl)
  tells (End e) p = ends e p
  tells (Map e w f) p = (refl, λ _ i. refl)
  tells (Unmap e w) p = (refl, λ _ i. refl)
  tells (KernelRead f z) p = (refl, λ _ i. refl)
  tells (KernelWrite f z) p = (refl, λ _ i. refl)
  tells (Resume e c) p = (refl, λ _ i. refl)
  tells (Spawn c u) p = (refl, λ _ i. refl)
  tells (Leave c) p = (refl, λ _ i. refl)
  tells (Cloak c w) p = cloaks c w p
  tells (Uncloak c w) p = uncloaks c w p
  tells (Read c w z) p = (refl, λ _ i. refl)
  tells (Write c w z) p = writes c w z p
  tells (Trap c k mask) p = (refl, λ _ i. refl)
