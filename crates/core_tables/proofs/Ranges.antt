-- Which words are the one coding of what they decode to: those in range.
use mathlib.Core.Path.{◌≡◌, refl, ◌∙◌}
use mathlib.Core.Bool.{Bool, true, false}
use Prim.Native.Nat.{ℕ, zero, suc, ◌+◌, ◌*◌, ◌-◌, ◌/◌, ◌%◌, ◌≤◌, ◌<◌}
use native.Mathlib.Omega.{arith}
use native.Mathlib.Nat.{div-add-mod'}
use lib.Dec.{eqb}
use borrow.Author.Tests.{eqb-true, ne_eqb}
use Rattle.core_tables.specs.Words.{life_in, life_word, activity_as, activity_in, activity_word, names_in, names_word, mapping_in}
use Rattle.core_tables.specs.Words.{mapping_word, wear_in, hidden_in, place_in, home_word, sign_word}

-- lives
pub life_kept : (w : ℕ) → w ≤ 2 → life_word (life_in w) ≡ w
unfolding life_in life_word
life_kept zero h = refl
life_kept (suc zero) h = refl
life_kept (suc (suc zero)) h = refl
life_kept (suc (suc (suc w))) h = absurd (omega arith)

pub life_small : (w : ℕ) → life_word (life_in w) ≡ w → w ≤ 2
unfolding life_in life_word
life_small w e = by (eqb w 0) (eqb w 1) refl refl
  where
    by : (a b : Bool) → eqb w 0 ≡ a → eqb w 1 ≡ b → w ≤ 2
    by true b p q = omega (arith, eqb-true w 0 p)
    by false true p q = omega (arith, eqb-true w 1 q)
    by false false p q = omega (arith, rw (p, q) at e)

-- contexts
acts_word : (kind d : ℕ) → kind < 3 → activity_word (activity_as kind (record { 0 = d })) ≡ 1 + 3 * d + kind
unfolding activity_as activity_word
acts_word zero d h = omega arith
acts_word (suc zero) d h = omega arith
acts_word (suc (suc zero)) d h = omega arith
acts_word (suc (suc (suc k))) d h = absurd (omega arith)

pub some_acts : (w : ℕ) → 0 < w → activity_word (activity_in w) ≡ 1 + 3 * ((w - 1) / 3 % 256) + (w - 1) % 3
unfolding activity_in
some_acts w h = rw (ne_eqb w 0 (λ e. omega arith)) (acts_word ((w - 1) % 3) ((w - 1) / 3 % 256) (omega arith))

pub activity_kept : (w : ℕ) → w ≤ 768 → activity_word (activity_in w) ≡ w
unfolding activity_in activity_word
activity_kept zero h = refl
activity_kept (suc w) h = some_acts (suc w) (omega arith) ∙ omega arith

-- mappings
pub mapping_kept : (w : ℕ) → w ≤ 256 → mapping_word (mapping_in w) ≡ w
unfolding mapping_in mapping_word
mapping_kept zero h = refl
mapping_kept (suc w) h = rw (ne_eqb (suc w) 0 (λ e. omega arith)) (omega arith)

pub mapping_small : (w : ℕ) → mapping_word (mapping_in w) ≡ w → w ≤ 256
unfolding mapping_in mapping_word
mapping_small zero e = omega arith
mapping_small (suc w) e = let q = rw (ne_eqb (suc w) 0 (λ e. omega arith)) at e in omega arith

-- places
sign_hidden : (k : ℕ) → (home_word (hidden_in k) ≡ 0) × (sign_word (hidden_in k) ≡ k)
unfolding hidden_in home_word sign_word
sign_hidden zero = (refl, refl)
sign_hidden (suc k) = rw (ne_eqb (suc k) 0 (λ e. omega arith)) (refl, omega arith)

pub home_kept : (h k : ℕ) → h ≤ 256 → home_word (place_in h k) ≡ h
unfolding place_in home_word
home_kept zero k b = (sign_hidden k).0
home_kept (suc h) k b = rw (ne_eqb (suc h) 0 (λ e. omega arith)) (omega arith)

pub home_small : (h k : ℕ) → home_word (place_in h k) ≡ h → h ≤ 256
unfolding place_in home_word
home_small zero k e = omega arith
home_small (suc h) k e = let q = rw (ne_eqb (suc h) 0 (λ e. omega arith)) at e in omega arith

pub sign_kept : (h k : ℕ) → sign_word (place_in h k) ≡ k
unfolding place_in wear_in sign_word
sign_kept zero k = (sign_hidden k).1
sign_kept (suc h) zero = rw (ne_eqb (suc h) 0 (λ e. omega arith))
sign_kept (suc h) (suc k) =
    rw (ne_eqb (suc h) 0 (λ e. omega arith), ne_eqb (suc k) 0 (λ e. omega arith)) (omega arith)

-- frames
pub names_kept : (v w : ℕ) → (w - 1) / v < 256 → names_word v (names_in v w) ≡ w
unfolding names_in names_word
names_kept v zero b = refl
names_kept v (suc w) b =
    let low : (suc w - 1) / v % 256 ≡ (suc w - 1) / v = omega arith in
    let less : suc w - 1 ≡ w = omega arith in
    rw (ne_eqb (suc w) 0 (λ e. omega arith), low, less) (omega (arith, div-add-mod' w v))

pub some_names : (v w : ℕ) → 0 < w → names_word v (names_in v w) ≡ 1 + ((w - 1) / v % 256 * v + (w - 1) % v)
unfolding names_in names_word
some_names v w h = rw (ne_eqb w 0 (λ e. omega arith))
