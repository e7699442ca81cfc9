-- Laws of a table whose entries are changed one after the other, over the element: after i turns of the loop its first i entries are
-- changed. And of one entry more that is set in a row.
use mathlib.Core.Path.{◌≡◌, refl, sym, ap, ◌∙◌}
use mathlib.Core.List.{List, [], ◌∷◌, map}
use Prim.Native.Nat.{ℕ, zero, suc, ◌+◌, ◌-◌, ◌*◌, ◌≤◌, ◌<◌}
use native.Mathlib.Nat.{mul-le-mul, mul-le-mul_right, add-zero, add-suc, suc-add, zero-add, not-suc-le-zero, le_of_suc-le-suc}
use native.Mathlib.Numerals.{add-one}
use native.Mathlib.Omega.{arith}
use lib.ListN.{length, get_or, set, replicate}
use lib.Seq.{sets, set-get_or}
use Rattle.rules.specs.Sizes.{max_domains, max_pages}
use Rattle.rules.specs.Bytes.{map_from}

module _ {A : Type 0} (f : ℕ → A → A) where
  -- the first i entries changed by their places, counted from k
  unfoldable pub map_up_to : ℕ → ℕ → List A → List A
  map_up_to k zero l = l
  map_up_to k (suc i) [] = []
  map_up_to k (suc i) (x ∷ xs) = f k x ∷ map_up_to (suc k) i xs

  -- the next entry is still as it was
  pub up_to_next : (z : A) (k i : ℕ) (l : List A) → get_or (map_up_to k i l) i z ≡ get_or l i z
  unfolding map_up_to
  up_to_next z k zero l = refl
  up_to_next z k (suc i) [] = refl
  up_to_next z k (suc i) (x ∷ xs) = up_to_next z (suc k) i xs

  up_to_suc : (z : A) (k i : ℕ) (l : List A) → i < length l → set (map_up_to k i l) i (f (k + i) (get_or l i z)) ≡ map_up_to k (suc i) l
  unfolding map_up_to
  up_to_suc z k i [] h = absurd (not-suc-le-zero h)
  up_to_suc z k zero (x ∷ xs) h = rw add-zero
  up_to_suc z k (suc i) (x ∷ xs) h =
      ap (λ (l : List A). f k x ∷ l) (rw (add-suc, ← suc-add) (up_to_suc z (suc k) i xs (le_of_suc-le-suc h)))

  pub up_to_more : (z : A) (i : ℕ) (l : List A) → i < length l → set (map_up_to 0 i l) i (f i (get_or l i z)) ≡ map_up_to 0 (i + 1) l
  up_to_more z i l h = rw add-one (rw zero-add at (up_to_suc z 0 i l h))

  -- a turn of the loop: entry i, as it stands, is changed
  pub turn : (z : A) (i : ℕ) (l n : List A) {x : A} → i < length l → n ≡ map_up_to 0 i l → x ≡ f i (get_or n i z)
      → set n i x ≡ map_up_to 0 (i + 1) l
  turn z i l n h e q = rw (q, e, up_to_next z 0 i l) (up_to_more z i l h)

  -- or, where its change is none, stays
  pub stay : (z : A) (i : ℕ) (l n : List A) → i < length l → n ≡ map_up_to 0 i l → get_or n i z ≡ f i (get_or n i z)
      → n ≡ map_up_to 0 (i + 1) l
  stay z i l n h e q = sym (set-get_or n i z) ∙ turn z i l n h e q

  pub up_to_all : (k i : ℕ) (l : List A) → length l ≤ i → map_up_to k i l ≡ map_from f k l
  unfolding map_up_to map_from
  up_to_all k zero [] h = refl
  up_to_all k (suc i) [] h = refl
  up_to_all k zero (x ∷ xs) h = absurd (not-suc-le-zero h)
  up_to_all k (suc i) (x ∷ xs) h = ap (λ (l : List A). f k x ∷ l) (up_to_all (suc k) i xs (le_of_suc-le-suc h))

  -- the same where the entries from i on stay as they are
  pub up_to_rest : (z : A) (k i : ℕ) (l : List A) → ((j : ℕ) → i ≤ j → j < length l → f (k + j) (get_or l j z) ≡ get_or l j z)
      → map_up_to k i l ≡ map_from f k l
  unfolding map_up_to map_from
  up_to_rest z k zero [] h = refl
  up_to_rest z k (suc i) [] h = refl
  up_to_rest z k zero (x ∷ xs) h =
      rw (rw add-zero at (h 0 (omega arith) (omega arith)))
      (ap (λ (l : List A). x ∷ l)
      (up_to_rest z (suc k) zero xs (λ j a b. rw (add-suc, ← suc-add) at (h (suc j) (omega arith) (omega arith)))))
  up_to_rest z k (suc i) (x ∷ xs) h =
      ap (λ (l : List A). f k x ∷ l)
      (up_to_rest z (suc k) i xs (λ j a b. rw (add-suc, ← suc-add) at (h (suc j) (omega arith) (omega arith))))

-- a change that does not go by the place is `map`
pub map_from_holds : {A : Type 0} (f : A → A) (k : ℕ) (l : List A) → map_from (λ _. f) k l ≡ map f l
unfolding map_from
map_from_holds f k [] = refl
map_from_holds f k (x ∷ xs) = ap (λ l. f x ∷ l) (map_from_holds f (suc k) xs)

pub up_to_map : {A : Type 0} (f : A → A) (i : ℕ) (l : List A) → length l ≤ i → map_up_to (λ _. f) 0 i l ≡ map f l
up_to_map f i l h = up_to_all (λ _. f) 0 i l h ∙ map_from_holds f 0 l

sets_suc : {A : Type 0} (a : A) (l : List A) (at i : ℕ) → set (sets l at (replicate i a)) (at + i) a ≡ sets l at (replicate (suc i) a)
sets_suc a l at zero = rw add-zero
sets_suc a l at (suc i) = rw (add-suc, ← suc-add) (sets_suc a (set l at a) (suc at) i)

pub sets_more : {A : Type 0} (a : A) (l : List A) (at i : ℕ) → at ≤ i
    → set (sets l at (replicate (i - at) a)) i a ≡ sets l at (replicate (i + 1 - at) a)
sets_more a l at i h =
    let here : i ≡ at + (i - at) = omega arith in
    let next : suc (i - at) ≡ i + 1 - at = omega arith in
    ap (λ (n : ℕ). set (sets l at (replicate (i - at) a)) n a) here
    ∙ sets_suc a l at (i - at)
    ∙ ap (λ (n : ℕ). sets l at (replicate n a)) next

-- a domain's pages end within the table
pub slots_fit : (d domains pages : ℕ) → d < domains → domains ≤ max_domains → pages ≤ max_pages
    → d * pages + pages ≤ max_domains * max_pages
slots_fit d domains pages h few small = omega (arith, mul-le-mul_right pages h, mul-le-mul few small)
