-- Laws of `number` and `big_endian`: a byte more, their bounds and lengths, and that each undoes the other.
use mathlib.Core.Path.{◌≡◌, refl, sym, ap, ap₂, ◌∙◌}
use mathlib.Core.List.{List, [], ◌∷◌, ◌++◌}
use Prim.Native.Nat.{ℕ, zero, suc, ◌+◌, ◌*◌, ◌/◌, ◌%◌, ◌^◌, ◌<◌, zero-le}
use native.Mathlib.Nat.{add_assoc, add-mul, mul_assoc, pow-suc, pow-succ', pow-le-pow_right, mod-lt, mod-eq_of_lt}
use native.Mathlib.Nat.{div-div-eq-div-mul, mul-add-div_right, mul-add-mod_self_right}
use native.Mathlib.Omega.{arith}
use lib.Arith.{digits_lt, digits_div, mod-mul}
use lib.Dec.{lit<}
use lib.ListN.{length, take, drop, length-append}
use lib.Seq.{get_or-drop}
use lib.Pow.{pow-add}
use Rattle.rules.specs.Bytes.{Bytes, big_endian, number}

-- the bits of i bytes
pub bits_of_bytes : (i : ℕ) → 2 ^ (8 * i) ≡ 256 ^ i
bits_of_bytes zero = refl
bits_of_bytes (suc i) =
    let e : 8 * suc i ≡ 8 * i + 8 = omega arith in
    rw (e, pow-add 2 (8 * i) 8, bits_of_bytes i) (sym (pow-suc 256 i))

-- number: bytes behind others, and one byte more
pub number_append : (xs ys : List ℕ) → number (xs ++ ys) ≡ number xs * 256 ^ length ys + number ys
unfolding number
number_append [] ys = omega arith
number_append (x ∷ xs) ys =
    rw (number_append xs ys, length-append xs ys, pow-add, ← mul_assoc, add-mul, add_assoc)

pub number_more : (xs : List ℕ) (b : ℕ) → number (xs ++ (b ∷ [])) ≡ number xs * 256 + b
unfolding number
number_more xs b = number_append xs (b ∷ []) ∙ omega arith

-- a number of i bytes with one byte more
pub below_more : {n b : ℕ} (i : ℕ) → n < 256 ^ i → b < 256 → n * 256 + b < 256 ^ suc i
below_more i h k = rw pow-suc (digits_lt h k)

-- what is left of x without its last i bytes, and without one more
pub quotient_more : (x i : ℕ) → x / 256 ^ i / 256 ≡ x / 256 ^ suc i
quotient_more x i = rw (pow-suc, div-div-eq-div-mul)

-- parts of bytes are bytes
pub bytes_drop : (k : ℕ) (s : List ℕ) → Bytes s → Bytes (drop k s)
bytes_drop k s b i = rw get_or-drop (b (k + i))

pub bytes_take : (k : ℕ) (s : List ℕ) → Bytes s → Bytes (take k s)
bytes_take zero s b i = lit< tt
bytes_take (suc k) [] b i = lit< tt
bytes_take (suc k) (x ∷ s) b zero = b 0
bytes_take (suc k) (x ∷ s) b (suc i) = bytes_take k s (λ j. b (suc j)) i

pub number_below : (xs : List ℕ) → Bytes xs → number xs < 256 ^ length xs
unfolding number
number_below [] b = lit< tt
number_below (x ∷ xs) b =
    rw pow-succ' (digits_lt (b 0) (number_below xs (λ i. b (suc i))))

pub length_big_endian : (n x : ℕ) → length (big_endian n x) ≡ n
unfolding big_endian
length_big_endian zero x = refl
length_big_endian (suc n) x = ap suc (length_big_endian n x)

pub big_endian_bytes : (n x : ℕ) → Bytes (big_endian n x)
unfolding big_endian
big_endian_bytes zero x i = lit< tt
big_endian_bytes (suc n) x zero = mod-lt (x / 256 ^ n) (lit< tt)
big_endian_bytes (suc n) x (suc i) = big_endian_bytes n x i

positive : (n : ℕ) → 0 < 256 ^ n
positive n = pow-le-pow_right {n = 256} (lit< tt) {i = 0} {j = n} zero-le

-- the last n bytes of x are the number of its n bytes
number_big_endian_mod : (n x : ℕ) → number (big_endian n x) ≡ x % 256 ^ n
unfolding number big_endian
number_big_endian_mod zero x = omega arith
number_big_endian_mod (suc n) x =
    rw (length_big_endian n x, number_big_endian_mod n x, pow-succ')
    (sym (mod-mul x (lit< tt) (positive n)))

pub number_big_endian : (n x : ℕ) → x < 256 ^ n → number (big_endian n x) ≡ x
number_big_endian n x h = number_big_endian_mod n x ∙ mod-eq_of_lt h

-- bytes in front do not count
big_endian_behind : (n x y : ℕ) → big_endian n (x * 256 ^ n + y) ≡ big_endian n y
unfolding big_endian
big_endian_behind zero x y = refl
big_endian_behind (suc n) x y =
    let e : x * 256 ^ suc n ≡ x * 256 * 256 ^ n = rw (pow-succ', mul_assoc) in
    rw e
    (ap₂ ◌∷◌
    (ap (λ (q : ℕ). q % 256) (mul-add-div_right (positive n) (x * 256) y) ∙ mul-add-mod_self_right x 256 (y / 256 ^ n))
    (big_endian_behind n (x * 256) y))

pub big_endian_number : (xs : List ℕ) → Bytes xs → big_endian (length xs) (number xs) ≡ xs
unfolding number big_endian
big_endian_number [] b = refl
big_endian_number (x ∷ xs) b =
    let rest : Bytes xs = λ i. b (suc i) in
    ap₂ ◌∷◌
    (ap (λ (q : ℕ). q % 256) (digits_div x (number_below xs rest)) ∙ mod-eq_of_lt (b 0))
    (big_endian_behind (length xs) x (number xs) ∙ big_endian_number xs rest)
