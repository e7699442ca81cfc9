-- Tests that choose by another test, as facts.
use mathlib.Core.Path.{◌≡◌, refl, sym, ap}
use mathlib.Core.Bool.{Bool, true, false, ◌&&◌, ◌||◌, not, cond}
use mathlib.Core.List.{List, [], ◌∷◌}
use Prim.Native.Nat.{ℕ, suc, ◌+◌, ◌≤◌, ◌<◌}
use native.Mathlib.Nat.{add-zero, add-suc, suc-add, zero-add}
use native.Mathlib.Omega.{arith}
use lib.Dec.{T, eqb, ltb}
use lib.ListN.{length, get_or}
use borrow.Author.Tests.{eqb-true, eqb-false, eq-eqb, ne_eqb, ltb-true, ltb-false, lt-ltb, le-ltb}
use Rattle.rules.specs.Bytes.{all_from}

clash : true ≡ false → ⊥
clash e = let z : ◌≡◌ {A = ℕ} 0 1 = cc in omega arith

-- by a test
choose : (c a b : Bool) → (c ≡ true → T a) → (c ≡ false → T b) → T (cond c a b)
choose true a b p q = p refl
choose false a b p q = q refl

yes_part : (c a b : Bool) → T (cond c a b) → c ≡ true → T a
yes_part true a b t e = t
yes_part false a b t e = absurd (clash (sym e))

no_part : (c a b : Bool) → T (cond c a b) → c ≡ false → T b
no_part true a b t e = absurd (clash e)
no_part false a b t e = t

either : (c b : Bool) → (c ≡ false → T b) → T (c || b)
either true b q = tt
either false b q = q refl

or_else : (c b : Bool) → T (c || b) → c ≡ false → T b
or_else true b t e = absurd (clash e)
or_else false b t e = t

-- by a number that is 0 or not
module _ (w : ℕ) (a b : Bool) where
  pub by_zero : (w ≡ 0 → T a) → ((w ≡ 0 → ⊥) → T b) → T (cond (eqb w 0) a b)
  by_zero p q = choose (eqb w 0) a b (λ e. p (eqb-true w 0 e)) (λ e. q (eqb-false w 0 e))

  pub if_zero : T (cond (eqb w 0) a b) → w ≡ 0 → T a
  if_zero t e = yes_part (eqb w 0) a b t (eq-eqb w 0 e)

  pub if_some : T (cond (eqb w 0) a b) → (w ≡ 0 → ⊥) → T b
  if_some t ne = no_part (eqb w 0) a b t (ne_eqb w 0 ne)

module _ (w : ℕ) (b : Bool) where
  pub zero_or : ((w ≡ 0 → ⊥) → T b) → T (eqb w 0 || b)
  zero_or q = either (eqb w 0) b (λ e. q (eqb-false w 0 e))

  pub some_or : T (eqb w 0 || b) → (w ≡ 0 → ⊥) → T b
  some_or t ne = or_else (eqb w 0) b t (ne_eqb w 0 ne)

  pub some_nor : ((w ≡ 0 → T b)) → T (not (eqb w 0) || b)
  some_nor q = either (not (eqb w 0)) b (λ e. q (eqb-true w 0 (flip (eqb w 0) e)))
    where
      flip : (c : Bool) → not c ≡ false → c ≡ true
      flip true e = refl
      flip false e = sym e

  pub zero_nor : T (not (eqb w 0) || b) → w ≡ 0 → T b
  zero_nor t e = or_else (not (eqb w 0)) b t (ap not (eq-eqb w 0 e))

-- by a number that is within a size or not
module _ (i n : ℕ) (a b : Bool) where
  pub by_size : (i < n → T a) → (n ≤ i → T b) → T (cond (ltb i n) a b)
  by_size p q = choose (ltb i n) a b (λ e. p (ltb-true i n e)) (λ e. q (ltb-false i n e))

  pub if_within : T (cond (ltb i n) a b) → i < n → T a
  if_within t h = yes_part (ltb i n) a b t (lt-ltb i n h)

  pub if_past : T (cond (ltb i n) a b) → n ≤ i → T b
  if_past t h = no_part (ltb i n) a b t (le-ltb i n h)

module _ (i n : ℕ) (b : Bool) where
  pub within_or : (n ≤ i → T b) → T (ltb i n || b)
  within_or q = either (ltb i n) b (λ e. q (ltb-false i n e))

  pub past_or : T (ltb i n || b) → n ≤ i → T b
  past_or t h = or_else (ltb i n) b t (le-ltb i n h)

pub zero_told : (w : ℕ) → T (eqb w 0) → w ≡ 0
zero_told w t = by (eqb w 0) refl t
  where
    by : (c : Bool) → eqb w 0 ≡ c → T c → w ≡ 0
    by true e t = eqb-true w 0 e
    by false e t = absurd t

-- both of two
pub both_true : (a b : Bool) → T a → T b → T (a && b)
both_true true b p q = q
both_true false b p q = absurd p

pub first_true : (a b : Bool) → T (a && b) → T a
first_true true b t = tt
first_true false b t = absurd t

pub second_true : (a b : Bool) → T (a && b) → T b
second_true true b t = t
second_true false b t = absurd t

-- a test of each element, from the elements
each_from : {A : Type 0} (test : ℕ → A → Bool) (z : A) (l : List A) (k : ℕ)
    → ((i : ℕ) → i < length l → T (test (k + i) (get_or l i z))) → T (all_from test k l)
unfolding all_from
each_from test z [] k p = tt
each_from test z (a ∷ l) k p =
    both_true (test k a) (all_from test (suc k) l) (rw add-zero at (p 0 (omega arith)))
    (each_from test z l (suc k) (λ i h. rw (add-suc, ← suc-add) at (p (suc i) (omega arith))))

pub each_element : {A : Type 0} (test : ℕ → A → Bool) (z : A) (l : List A)
    → ((i : ℕ) → i < length l → T (test i (get_or l i z))) → T (all_from test 0 l)
each_element test z l p = each_from test z l 0 (λ i h. rw zero-add (p i h))
