-- The laws of `join` and `split`, once, over any list of widths: each undoes the other, what is split off fits, and what
-- is joined has no more bits than its fields.
use mathlib.Core.Path.{◌≡◌, refl, sym, ap, ap₂, ◌∙◌, subst}
use mathlib.Core.List.{List, [], ◌∷◌}
use Prim.Native.Nat.{ℕ, ◌+◌, ◌-◌, ◌*◌, ◌/◌, ◌%◌, ◌^◌, ◌≤◌, ◌<◌}
use native.Mathlib.Nat.{add_comm, add_assoc, add-zero, div-one, div-eq_of_lt, div-add-mod', mod-lt, mod-eq_of_lt}
use native.Mathlib.Nat.{mul-add-div_right, mul-add-mod_self_right, lt_of_lt_of_le}
use native.Mathlib.Nat.{lt_of_le_of_lt, mod-eq-sub-div-mul, div-mul-le_self}
use lib.Arith.{digits_lt}
use lib.Pow.{pow-add, pow_pos, pow_mono, shr-shr}
use Rattle.trace_bits.specs.Packing.{total, join, split, Fit, Longer}
use Rattle.trace_bits.specs.Packing.Fit.{fit_none, fit_one}
use Rattle.trace_bits.specs.declared.Packed.{Packed}

-- a number with one field more
pub wider : (a n w v : ℕ) → n < 2 ^ a → v < 2 ^ w → n * 2 ^ w + v < 2 ^ (a + w)
wider a n w v hn hv = subst (λ (x : ℕ). n * 2 ^ w + v < x) (sym (pow-add 2 a w)) (digits_lt hn hv)

pub wider_within : (a n w v b : ℕ) → n < 2 ^ a → v < 2 ^ w → a + w ≤ b → n * 2 ^ w + v < 2 ^ b
wider_within a n w v b hn hv h = lt_of_lt_of_le (wider a n w v hn hv) (pow_mono {i = a + w} {j = b} h)

-- dividing by 2 ^ (w + t) is dividing by 2 ^ t and then by 2 ^ w
pub div_pow : (n w t : ℕ) → n / 2 ^ (w + t) ≡ n / 2 ^ t / 2 ^ w
div_pow n w t = ap (λ (x : ℕ). n / 2 ^ x) (add_comm w t) ∙ sym (shr-shr n t w)

-- what stands before the fields is what they were written behind
pub join_front : (n : ℕ) {ws vs : List ℕ} → Fit ws vs → join n ws vs / 2 ^ total ws ≡ n
join_front n fit_none = div-one n
join_front n (fit_one {w = w} {v = v} {ws = ws} {vs = vs} h f) =
    div_pow (join (n * 2 ^ w + v) ws vs) w (total ws)
    ∙ ap (λ (x : ℕ). x / 2 ^ w) (join_front (n * 2 ^ w + v) f)
    ∙ mul-add-div_right (pow_pos w) n v
    ∙ ap (λ (x : ℕ). n + x) (div-eq_of_lt h)
    ∙ add-zero n

pub split_join : (n : ℕ) {ws vs : List ℕ} → Fit ws vs → split ws (join n ws vs) ≡ vs
split_join n fit_none = refl
split_join n (fit_one {w = w} {v = v} {ws = ws} {vs = vs} h f) =
    ap₂ (λ (x : ℕ) (l : List ℕ). x ∷ l)
    (ap (λ (x : ℕ). x % 2 ^ w) (join_front (n * 2 ^ w + v) f)
    ∙ mul-add-mod_self_right n (2 ^ w) v
    ∙ mod-eq_of_lt h)
    (split_join (n * 2 ^ w + v) f)

-- n is what stands before the fields of m
pub join_split : (ws : List ℕ) (m n : ℕ) → n ≡ m / 2 ^ total ws → join n ws (split ws m) ≡ m
join_split [] m n e = e ∙ div-one m
join_split (w ∷ ws) m n e =
    join_split ws m (n * 2 ^ w + m / 2 ^ total ws % 2 ^ w)
    (ap (λ (x : ℕ). x * 2 ^ w + m / 2 ^ total ws % 2 ^ w) (e ∙ div_pow m w (total ws))
    ∙ div-add-mod' (m / 2 ^ total ws) (2 ^ w))

pub split_fit : (ws : List ℕ) (n : ℕ) → Fit ws (split ws n)
split_fit [] n = fit_none
split_fit (w ∷ ws) n = fit_one (mod-lt (n / 2 ^ total ws) (pow_pos w)) (split_fit ws n)

pub join_below : (a n : ℕ) {ws vs : List ℕ} → n < 2 ^ a → Fit ws vs → join n ws vs < 2 ^ (a + total ws)
join_below a n h fit_none = rw add-zero h
join_below a n h (fit_one {w = w} {v = v} {ws = ws} hv f) =
    rw (← add_assoc a w (total ws)) (join_below (a + w) (n * 2 ^ w + v) (wider a n w v h hv) f)

-- one field more, behind a number that is known
pub longer : {p q : Packed} (w v n : ℕ) → Longer p w v q → p.number ≡ n → q.number ≡ n * 2 ^ w + v
longer w v n l e = l.number ∙ ap (λ (x : ℕ). x * 2 ^ w + v) e

-- a field's value is below its width's bound, and below any wider one's
pub mod_below : (r n w b : ℕ) → r ≡ n % 2 ^ w → w ≤ b → r < 2 ^ b
mod_below r n w b e h =
    subst (λ (x : ℕ). x < 2 ^ b) (sym e) (lt_of_lt_of_le (mod-lt n (pow_pos w)) (pow_mono {i = w} {j = b} h))

-- q without its last w bits, by a shift there and back
shifted_back : (q w : ℕ) → q < 2 ^ 64 → q / 2 ^ w * 2 ^ w % 2 ^ 64 ≡ q / 2 ^ w * 2 ^ w
shifted_back q w h = mod-eq_of_lt (lt_of_le_of_lt (div-mul-le_self q (2 ^ w)) h)

pub shifted_back_le : (q w : ℕ) → q < 2 ^ 64 → q / 2 ^ w * 2 ^ w % 2 ^ 64 ≤ q
shifted_back_le q w h = rw (shifted_back q w h) (div-mul-le_self q (2 ^ w))

pub last_bits : (q w : ℕ) → q < 2 ^ 64 → q - q / 2 ^ w * 2 ^ w % 2 ^ 64 ≡ q % 2 ^ w
last_bits q w h = ap (λ (x : ℕ). q - x) (shifted_back q w h) ∙ sym (mod-eq-sub-div-mul q (2 ^ w))
