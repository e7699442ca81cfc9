-- What a seal keeps: the records still agree, the lent memory has its lengths, the count of used signatures has grown by what the seal
-- took, and every other frame's page takes what it took before. So a second frame can be sealed after a first.
use Rattle.std.specs.Prelude.{Option, Some, None}
use mathlib.Core.Path.{◌≡◌, refl, sym, ap, subst, ◌∙◌}
use mathlib.Core.Logic.{◌≢◌, ◌⊎◌, inl, inr, ⊎_elim}
use Prim.Native.Nat.{ℕ, ◌+◌, ◌≤◌, ◌<◌}
use native.Mathlib.Decide.{ℕ_discrete}
use native.Mathlib.Omega.{arith}
use lib.ListN.{length, get_or, length-set}
use lib.Dec.{T, eqb→eq}
use Rattle.rules.specs.Sizes.{page_number, max_domains, max_pages}
use Rattle.std.proofs.lemmas.Option.{none-some}
use Rattle.rules.specs.Records.{Given, Machine, public_page, place_of, names_of, is_clear_in, with_used, with_place}
use Rattle.rules.specs.Sealing.{sealed_with, takes, sealed_tables, seal_page, seal_at, seal_named, seal, takes_at, takes_named}
use Rattle.rules.proofs.Parts.{length_with_part}
use Rattle.rules.proofs.PageNumbers.{number_within}
use Rattle.rules.proofs.Changes.{place_same, page_other, names_same, names_other}
use Rattle.rules.proofs.Facts.{same_frame}
use Rattle.rules.specs.declared.Setup.{Setup}
use Rattle.rules.specs.declared.Tables.{Tables}
use Rattle.rules.specs.declared.PageRecord.{PageRecord}
use Rattle.rules.specs.declared.Asid.{Asid}
use Rattle.rules.specs.declared.Gvpn.{Gvpn}
use Rattle.rules.specs.declared.Gppn.{Gppn}
use Rattle.rules.specs.declared.Wear.{Wear}
use Rattle.rules.specs.declared.Wear.TheVariants.{Dirty, Clean}
use Rattle.rules.specs.declared.Place.{Place}
use Rattle.rules.specs.declared.Place.TheVariants.{Public, Clear, Sealed}
use Rattle.rules.specs.Asked.{Limited}
use Rattle.core_seal.specs.Asked.{Matched}

-- the machine before and after a seal of what is Clear in frame h
pub record Kept (s : Setup) (m n : Machine) (h : Gppn) : Type 0 where
  pub matched : Matched s n.tables
  pub used : n.tables.used ≡ m.tables.used + takes_named s m.tables (names_of m.tables h)
  pub others : (f : Gppn) → f.0 < s.frames → f.0 ≢ h.0
      → takes_named s n.tables (names_of n.tables f) ≡ takes_named s m.tables (names_of m.tables f)
  pub frames_long : length n.frames ≡ length m.frames
  pub store_long : length n.store ≡ length m.store
  pub seals : n.seals ≤ m.seals + 1
  pub unveils : n.unveils ≡ m.unveils

clear_sealed : (p : Place) (f : Gppn) (w : Wear) (k : ℕ) → p ≡ Sealed k → p ≡ Clear f w → ⊥
clear_sealed p f w k a b = let z : ◌≡◌ {A = ℕ} 0 1 = cc in omega arith

clear_home : {p : Place} (f home : Gppn) (w : Wear) → p ≡ Clear home w → T (is_clear_in f p) → home.0 ≡ f.0
clear_home f home w e c = eqb→eq home.0 f.0 (subst (λ (p : Place). T (is_clear_in f p)) e c)

same_sealed : (j k : ℕ) → Sealed j ≡ Sealed k → j ≡ k
same_sealed j k e = cc

-- one page is sealed: the page d, v, which frame h names, Clear with wear w
module _ (s : Setup) (t : Tables) (h : Gppn) (d : Asid) (v : Gvpn) (w : Wear) (home : Gppn) (size : Limited s)
    (ok : Matched s t) (inside : h.0 < s.frames) (names : names_of t h ≡ Some (d, v)) (place : place_of s t d v ≡ Clear home w) where
  abbrev after : Tables
  after = sealed_tables s h d v w t

  domain_in_holds : d.0 < s.domains
  domain_in_holds = (ok.clear h d v inside names).0

  page_in_holds : v.0 < s.pages
  page_in_holds = (ok.clear h d v inside names).1

  listed : page_number s d v < length t.pages
  listed = rw ok.pages_long (number_within s d v page_in_holds max_domains max_pages size.domains size.pages domain_in_holds)

  place_here : place_of s after d v ≡ Sealed (sealed_with t.used w)
  unfolding sealed_tables
  place_here = place_same s (with_used (t.used + takes w) t) d v listed (Sealed (sealed_with t.used w))

  place_there : (e : Asid) (x : Gvpn) → page_number s e x ≢ page_number s d v → place_of s after e x ≡ place_of s t e x
  unfolding sealed_tables
  place_there e x ne = ap (λ (p : PageRecord). p.place) (page_other s (with_used (t.used + takes w) t) d v _ e x ne)

  place_after_holds : (e : Asid) (x : Gvpn) (p : Place) → place_of s after e x ≡ p
      → (p ≡ Sealed (sealed_with t.used w)) ⊎ (place_of s t e x ≡ p)
  place_after_holds e x p q = at (ℕ_discrete (page_number s e x) (page_number s d v))
    where
      at : Dec (page_number s e x ≡ page_number s d v) → (p ≡ Sealed (sealed_with t.used w)) ⊎ (place_of s t e x ≡ p)
      at (yes one) =
          inl (sym q ∙ ap (λ (n : ℕ). (get_or after.pages n public_page).place) one ∙ place_here)
      at (no ne) = inr (sym (place_there e x ne) ∙ q)

  names_here : names_of after h ≡ None
  unfolding sealed_tables
  names_here =
      names_same (with_place s d v (Sealed (sealed_with t.used w)) (with_used (t.used + takes w) t)) h None
      (rw ok.frames_long (omega arith))

  names_there : (f : Gppn) → f.0 ≢ h.0 → names_of after f ≡ names_of t f
  unfolding sealed_tables
  names_there f ne =
      names_other (with_place s d v (Sealed (sealed_with t.used w)) (with_used (t.used + takes w) t)) h None f ne

  used_after : after.used ≡ t.used + takes w
  unfolding sealed_tables
  used_after = refl

  -- another frame's page is another page
  other_page : (f : Gppn) (e : Asid) (x : Gvpn) → f.0 < s.frames → f.0 ≢ h.0 → names_of t f ≡ Some (e, x)
      → page_number s e x ≢ page_number s d v
  other_page f e x hf ne n one =
      let same : place_of s t e x ≡ place_of s t d v = ap (λ (i : ℕ). (get_or t.pages i public_page).place) one in
      ne
      (sym (clear_home f home w (same ∙ place) (ok.clear f e x hf n).2)
      ∙ clear_home h home w place (ok.clear h d v inside names).2)

  signature_counted : (wear : Wear) → place_of s t d v ≡ Clear home wear → sealed_with t.used wear < t.used + takes wear
  unfolding sealed_with takes
  signature_counted Dirty e = omega arith
  signature_counted (Clean k) e = omega (arith, ok.worn d v home k domain_in_holds page_in_holds e)

  still_clear : (f : Gppn) (e : Asid) (x : Gvpn) → f.0 < s.frames → names_of after f ≡ Some (e, x)
      → (e.0 < s.domains) × (x.0 < s.pages) × T (is_clear_in f (place_of s after e x))
  still_clear f e x hf n = at (ℕ_discrete f.0 h.0)
    where
      at : Dec (f.0 ≡ h.0) → (e.0 < s.domains) × (x.0 < s.pages) × T (is_clear_in f (place_of s after e x))
      at (yes one) =
          absurd (none-some (e, x) (sym (ap (names_of after) (same_frame f h one) ∙ names_here) ∙ n))
      at (no ne) =
          let before : names_of t f ≡ Some (e, x) = sym (names_there f ne) ∙ n in
          let c = ok.clear f e x hf before in
          let kept : place_of s t e x ≡ place_of s after e x = sym (place_there e x (other_page f e x hf ne before)) in
          (c.0, c.1, subst (λ (p : Place). T (is_clear_in f p)) kept c.2)

  page_matched : Matched s after
  unfolding sealed_tables
  page_matched =
      record {
        pages_long = rw length-set ok.pages_long;
        frames_long = rw length-set ok.frames_long;
        clear = still_clear;
        held =
            λ e x f u he hx p.
            ⊎_elim (λ q. absurd (clear_sealed _ f u _ q refl)) (λ q. ok.held e x f u he hx q) (place_after_holds e x (Clear f u) p);
        worn =
            λ e x f k he hx p.
            ⊎_elim (λ q. absurd (clear_sealed _ f (Clean k) _ q refl))
            (λ q. omega (arith, ok.worn e x f k he hx q, used_after))
            (place_after_holds e x (Clear f (Clean k)) p);
        sealed =
            λ e x k he hx p.
            ⊎_elim (λ q. omega (arith, same_sealed k _ q, signature_counted w place, used_after))
            (λ q. omega (arith, ok.sealed e x k he hx q, used_after))
            (place_after_holds e x (Sealed k) p);
      }

  others_take : (f : Gppn) → f.0 < s.frames → f.0 ≢ h.0
      → takes_named s after (names_of after f) ≡ takes_named s t (names_of t f)
  unfolding takes_named
  others_take f hf ne = ap (takes_named s after) (names_there f ne) ∙ at (names_of t f) refl
    where
      at : (n : Option (Asid × Gvpn)) → names_of t f ≡ n → takes_named s after n ≡ takes_named s t n
      at None e = refl
      at (Some (e, x)) n = ap takes_at (place_there e x (other_page f e x hf ne n))

-- a seal, by what the frame names and by the page's place
module _ (g : Given) (m : Machine) (h : Gppn) (size : Limited g.setup) (ok : Matched g.setup m.tables)
    (inside : h.0 < g.setup.frames) where
  none_kept : takes_named g.setup m.tables (names_of m.tables h) ≡ 0 → Kept g.setup m m h
  none_kept e =
      record {
        matched = ok;
        used = omega (arith, e);
        others = λ f hf ne. refl;
        frames_long = refl;
        store_long = refl;
        seals = omega arith;
        unveils = refl;
      }

  place_kept : (d : Asid) (v : Gvpn) → names_of m.tables h ≡ Some (d, v)
      → (p : Place) → place_of g.setup m.tables d v ≡ p → Kept g.setup m (seal_at g h d v p m) h
  unfolding seal_at seal_page takes_named takes_at
  place_kept d v n Public e = none_kept (rw (n, e))
  place_kept d v n (Clear home w) e =
      let t = m.tables in
      record {
        matched = page_matched g.setup t h d v w home size ok inside n e;
        used = used_after g.setup t h d v w home size ok inside n e ∙ rw (n, e);
        others = others_take g.setup t h d v w home size ok inside n e;
        frames_long = length_with_part _ _ _ _;
        store_long = length_with_part _ _ _ _;
        seals = omega arith;
        unveils = refl;
      }
  place_kept d v n (Sealed k) e = none_kept (rw (n, e))

  pub seal_kept : Kept g.setup m (seal g h m) h
  unfolding seal seal_named takes_named
  seal_kept = at (names_of m.tables h) refl
    where
      at : (n : Option (Asid × Gvpn)) → names_of m.tables h ≡ n → Kept g.setup m (seal_named g h n m) h
      at None n = none_kept (rw n)
      at (Some (d, v)) n = place_kept d v n (place_of g.setup m.tables d v) refl
