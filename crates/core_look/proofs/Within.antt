-- Laws of a page within a setup whose words may be looked at: its record is in the table, its slot in the store, and the frame that it
-- is Clear in among the frames.
use mathlib.Core.Path.{◌≡◌, refl, sym, ap, ◌∙◌}
use mathlib.Core.List.{List, [], ◌∷◌}
use mathlib.Core.Bool.{Bool, true, false, ◌&&◌, not, cond, and-true}
use Prim.Native.Nat.{ℕ, ◌+◌, ◌*◌, ◌≤◌, ◌<◌}
use lib.ListN.{length, get_or}
use lib.Dec.{ltb, ltb→lt}
use native.Mathlib.Omega.{arith}
use borrow.Author.Tests.{ne_eqb}
use Rattle.rules.specs.Bytes.{all_of}
use Rattle.rules.specs.Sizes.{page_number, domain_in, page_in}
use Rattle.rules.specs.Records.{machine, place_of, is_public, public_page}
use Rattle.rules.specs.Sound.{lookable}
use Rattle.rules.specs.Answers.{check, first_of, look_refusal, contents_at, look}
use Rattle.rules.specs.Refusals.{number_of}
use Rattle.rules.specs.Asked.{Limited}
use Rattle.rules.proofs.Facts.{Lookable, lookable_facts, each, passed}
use Rattle.rules.proofs.PageNumbers.{number_in}
use Rattle.rules.proofs.Parts.{part_fits}
use Rattle.rules.specs.declared.Setup.{Setup}
use Rattle.rules.specs.declared.Asid.{Asid}
use Rattle.rules.specs.declared.Gvpn.{Gvpn}
use Rattle.rules.specs.declared.Gppn.{Gppn}
use Rattle.rules.specs.declared.Wear.{Wear}
use Rattle.rules.specs.declared.Place.{Place}
use Rattle.rules.specs.declared.Refusal.{Refusal}
use Rattle.rules.specs.declared.Place.TheVariants.{Clear}
use Rattle.core_tables.specs.Image.{image_words, tables_in, state_in}
use Rattle.core_answer.specs.Handed.{readable}
use Rattle.core_answer.proofs.Laws.{is_readable}
use Rattle.core_accept.specs.Acceptable.{lookable_in}
use Rattle.core_accept.proofs.Handed.{both_hold}
use Rattle.core_look.specs.Look.{Pointer, past, contents_from, look_from, look_number, look_bytes}

pub record Within (s : Setup) (x y frames store : List ℕ) (d : Asid) (v : Gvpn) : Type 0 where
  pub long : length x ≡ image_words
  pub looks : Lookable s (machine (state_in s x y) frames store)
  pub domain : d.0 < s.domains
  pub page : v.0 < s.pages

-- no refusal has the number 0
numbered : (r : Refusal) → number_of r ≡ 0 → ⊥
numbered r e = grind arith

-- words that may be looked at
module _ (s : Setup) (x y frames store : List ℕ) (is : lookable_in s x y frames store ≡ true) where
  pub limited : Limited s
  limited = (lookable_facts s _ (both_hold (readable s x y) _ is).1).sizes

  pub long : length x ≡ image_words
  long = (is_readable s x y (both_hold (readable s x y) _ is).0).tables_long

module _ (s : Setup) (x y frames store : List ℕ) (d : Asid) (v : Gvpn) where
  -- the checks in their order: 10 first, where the words are no image or what they hold may not be looked at
  pub in_order : look_number s x y frames store d v
      ≡ cond (not (lookable_in s x y frames store)) 10
      (cond (not (ltb d.0 s.domains && ltb v.0 s.pages)) 2 (cond (is_public (place_of s (tables_in s.pages x) d v)) 4 0))
  unfolding look_number look_refusal first_of check all_of domain_in page_in
  in_order = by (readable s x y)
    where
      by : (b : Bool) → cond b (look_refusal s (machine (state_in s x y) frames store) d v) 10
          ≡ cond (not (b && lookable s (machine (state_in s x y) frames store))) 10
          (cond (not (ltb d.0 s.domains && ltb v.0 s.pages)) 2 (cond (is_public (place_of s (tables_in s.pages x) d v)) 4 0))
      by true = rw and-true
      by false = refl

  -- a look that is granted: the page is within the setup, and its bytes are handed back from where they stand
  module _ (z : 0 ≡ look_number s x y frames store d v) where
    pub granted : Within s x y frames store d v
    granted = by (lookable_in s x y frames store) (ltb d.0 s.domains && ltb v.0 s.pages) _ refl refl (z ∙ in_order)
      where
        by : (a b c : Bool) → lookable_in s x y frames store ≡ a → ltb d.0 s.domains && ltb v.0 s.pages ≡ b
            → ◌≡◌ {A = ℕ} 0 (cond (not a) 10 (cond (not b) 2 (cond c 4 0))) → Within s x y frames store d v
        by true true c is within e =
            let r = both_hold (readable s x y) _ is in
            let n = both_hold (ltb d.0 s.domains) _ within in
            record {
              long = (is_readable s x y r.0).tables_long;
              looks = lookable_facts s _ r.1;
              domain = ltb→lt d.0 s.domains n.0;
              page = ltb→lt v.0 s.pages n.1;
            }
        by true false c is within e = absurd (omega arith)
        by false b c is within e = absurd (omega arith)

    read_image : readable s x y ≡ true
    unfolding look_number
    read_image = at (readable s x y) z
      where
        at : (b : Bool) → 0 ≡ cond b (look_refusal s (machine (state_in s x y) frames store) d v) 10 → b ≡ true
        at true q = refl
        at false q = absurd (omega arith)

    pub looked : (at-frames at_store : Pointer) {p : Place} → p ≡ place_of s (tables_in s.pages x) d v
        → (contents_at s d v p (machine (state_in s x y) frames store) ≡ look_bytes s x y frames store d v)
        × (contents_from s d v p at-frames at_store
        ≡ look_from s (look_number s x y frames store d v) x d v at-frames at_store)
    unfolding look_bytes look look_number
    looked at-frames at_store q =
        let none : look_refusal s (machine (state_in s x y) frames store) d v ≡ 0 = rw read_image at (sym z) in
        (rw (read_image, none, q), rw (read_image, none, q))

  -- one that is refused
  pub unlooked : (r : Refusal) → number_of r ≡ look_number s x y frames store d v → (at-frames at_store : Pointer)
      → ([] ≡ look_bytes s x y frames store d v)
      × (past 0 at-frames ≡ look_from s (look_number s x y frames store d v) x d v at-frames at_store)
  unfolding look_bytes look look_number
  unlooked r e at-frames at_store =
      (none (readable s x y) (λ q. numbered r (e ∙ q)), rw (← e, ne_eqb (number_of r) 0 (numbered r)))
    where
      none : (b : Bool) → (cond b (look_refusal s (machine (state_in s x y) frames store) d v) 10 ≡ 0 → ⊥)
          → [] ≡ cond b (look s (machine (state_in s x y) frames store) d v) []
      none true q = rw (ne_eqb _ 0 q)
      none false q = refl

-- the place of a page, by its number
pub place_read : (s : Setup) (x : List ℕ) (d : Asid) (v : Gvpn) {n : ℕ} {p : Place} → n ≡ page_number s d v
    → p ≡ (get_or (tables_in s.pages x).pages n public_page).place
    → p ≡ place_of s (tables_in s.pages x) d v
place_read s x d v is e = e ∙ ap (λ (k : ℕ). (get_or (tables_in s.pages x).pages k public_page).place) is

module _ (s : Setup) (x y frames store : List ℕ) (d : Asid) (v : Gvpn) where
  -- the checks in their order, as the rules list them
  pub number_first : look_number s x y frames store d v
      ≡ first_of
      (check 10 (not (lookable_in s x y frames store))
      ∷ check 2 (not (all_of (domain_in s d ∷ page_in s v ∷ [])))
      ∷ check 4 (is_public (place_of s (tables_in s.pages x) d v))
      ∷ [])
  unfolding look_number look_refusal first_of check
  number_first = by (readable s x y)
    where
      by : (b : Bool) → cond b (look_refusal s (machine (state_in s x y) frames store) d v) 10
          ≡ first_of
          (check 10 (not (b && lookable s (machine (state_in s x y) frames store)))
          ∷ check 2 (not (all_of (domain_in s d ∷ page_in s v ∷ [])))
          ∷ check 4 (is_public (place_of s (tables_in s.pages x) d v))
          ∷ [])
      by true = refl
      by false = refl

  -- the two tests of sizes, made and passed, leave only whether the page is Public
  module _ {a b : Bool} (l : a ≡ lookable_in s x y frames store) (p : a ≡ true)
      (i : b ≡ all_of (domain_in s d ∷ page_in s v ∷ [])) (q : b ≡ true) where
    pub within : Within s x y frames store d v
    unfolding domain_in page_in
    within =
        let e = each _ (passed _ (sym i ∙ q)) in
        let r = both_hold (readable s x y) _ (sym l ∙ p) in
        record {
          long = (is_readable s x y r.0).tables_long;
          looks = lookable_facts s _ r.1;
          domain = ltb→lt d.0 s.domains e.0;
          page = ltb→lt v.0 s.pages e.1.0;
        }

    pub answered : {place : Place} → place ≡ place_of s (tables_in s.pages x) d v
        → cond (is_public place) 4 0 ≡ look_number s x y frames store d v
    unfolding first_of check
    answered at = rw (number_first, ← l, p, ← i, q, at)

module _ {s : Setup} {x y frames store : List ℕ} {d : Asid} {v : Gvpn} (w : Within s x y frames store d v) where
  pub slot_fits : page_number s d v * s.size + s.size ≤ length store
  slot_fits =
      part_fits s.size (page_number s d v) (s.domains * s.pages) (number_in s d v w.page w.domain)
      w.looks.store

  pub frame_fits : {p : Place} → p ≡ place_of s (tables_in s.pages x) d v → {f : Gppn} {h : Wear} → p ≡ Clear f h
      → f.0 * s.size + s.size ≤ length frames
  frame_fits q {f} {h} e =
      part_fits s.size f.0 s.frames (w.looks.agrees.named d v f h w.domain w.page (sym q ∙ e)).0
      w.looks.frames

-- what the tests that are made tell, one after the other
pub ruleset checked = (in_order, limited, long)
