-- The fewest digits in base 10 that hold a number are its decimal digits, so that the kit's promise of `decimal` is ours.
use mathlib.Core.Path.{◌≡◌, refl, ap, ◌∙◌}
use mathlib.Core.List.{List, [], ◌∷◌, ◌++◌}
use Prim.Native.Nat.{ℕ, zero, suc, ◌+◌, ◌-◌, ◌*◌, ◌/◌, ◌%◌, ◌^◌, ◌≤◌, ◌<◌}
use native.Mathlib.Nat.{not-suc-le-zero, mod-eq_of_lt, pow-suc, div-lt_iff_lt-mul, le-div_iff_mul-le, div-lt_self, one-le-pow}
use native.Mathlib.Nat.{pow-le-pow_right}
use native.Mathlib.Decide.{dec_le}
use native.Mathlib.Omega.{arith}
use lib.Dec.{lit<}
use borrow.Author.Tests.{lt-ltb, le-ltb}
use Rattle.io.specs.Digits.{hex_digit_ascii, last_digits, IsDigitCount}
use Rattle.listing_line.specs.Lines.{decimal_in, decimal}

one_digit : (fuel n : ℕ) → n < 10 → hex_digit_ascii n ∷ [] ≡ decimal_in fuel n
unfolding decimal_in
one_digit zero n h = refl
one_digit (suc f) n h = rw (lt-ltb n 10 h) refl

pub small : (n : ℕ) → n < 10 → (48 + n) ∷ [] ≡ decimal n
unfolding decimal
small n h = rw (lt-ltb n 10 h) at (one_digit n n h)

-- a number of two digits or more is at least 10, and its front has one digit less
at_least_ten : (k n : ℕ) → 10 ^ suc k ≤ n → 10 ≤ n
at_least_ten k n l =
    let some : 1 ≤ 10 ^ k = one-le-pow k 10 (lit< tt) in
    let whole : 10 ^ k * 10 ≤ n = rw (pow-suc 10 k) at l in
    omega arith

front_below : (k n : ℕ) → n < 10 ^ suc (suc k) → n / 10 < 10 ^ suc k
front_below k n h = (div-lt_iff_lt-mul {k = 10} {x = n} {y = 10 ^ suc k} (lit< tt)).1 (rw (pow-suc 10 (suc k)) at h)

front_least : (k n : ℕ) → 10 ^ suc k ≤ n → 10 ^ k ≤ n / 10
front_least k n l = (le-div_iff_mul-le {k = 10} {x = 10 ^ k} {y = n} (lit< tt)).1 (rw (pow-suc 10 k) at l)

-- by the number of digits; there is a step for each unit of the number, which is more than enough
digits_in : (k fuel n : ℕ) → n ≤ fuel → n < 10 ^ suc k → (1 < suc k → 10 ^ k ≤ n) → last_digits 10 (suc k) n ≡ decimal_in fuel n
unfolding decimal_in
digits_in zero fuel n f h l =
    let below : n < 10 = rw (pow-suc 10 0) at h in
    ap (λ (d : ℕ). hex_digit_ascii d ∷ []) (mod-eq_of_lt below) ∙ one_digit fuel n below
digits_in (suc k) zero n f h l =
    let ten : 10 ≤ n = at_least_ten k n (l (omega arith)) in
    absurd (omega arith)
digits_in (suc k) (suc fuel) n f h l =
    let ten : 10 ≤ n = at_least_ten k n (l (omega arith)) in
    let less : n / 10 ≤ fuel = omega (arith, div-lt_self {n = n} {k = 10} (omega arith) (lit< tt)) in
    let front : last_digits 10 (suc k) (n / 10) ≡ decimal_in fuel (n / 10) =
    digits_in k fuel (n / 10) less (front_below k n h) (λ m. front_least k n (l (omega arith))) in
    rw (le-ltb n 10 ten) (ap (λ (d : List ℕ). d ++ (hex_digit_ascii (n % 10) ∷ [])) front)

pub fewest : (k n : ℕ) → IsDigitCount 10 1 n k → last_digits 10 k n ≡ decimal n
unfolding decimal
fewest zero n f = absurd (not-suc-le-zero f.0)
fewest (suc k) n f =
    let e : suc k - 1 ≡ k = omega arith in
    digits_in k n n (omega arith) f.1 (rw e at f.2)

-- a 64-bit number has at most twenty
pub few : (k n : ℕ) → n < 2 ^ 64 → IsDigitCount 10 1 n k → k ≤ 20
few k n h f = go (dec_le k 20)
  where
    go : Dec (k ≤ 20) → k ≤ 20
    go (yes le) = le
    go (no gt) =
        let more : 20 ≤ k - 1 = omega arith in
        let least : 10 ^ 20 ≤ 10 ^ (k - 1) = pow-le-pow_right {n = 10} (lit< tt) more in
        absurd (omega (arith, f.2 (omega arith)))
