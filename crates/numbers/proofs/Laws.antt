-- What a turn of each loop does; and that the number of the first k bytes is left where those behind them are shifted out.
use mathlib.Core.Path.{◌≡◌, refl, ap, ap₂, ◌∙◌}
use mathlib.Core.List.{List, ◌∷◌, ◌++◌}
use Rattle.std.specs.Int.{from_be_bytes, w64}
use Prim.Native.Nat.{ℕ, suc, ◌+◌, ◌-◌, ◌*◌, ◌/◌, ◌%◌, ◌^◌, ◌≤◌, ◌<◌}
use native.Mathlib.Numerals.{add-one}
use native.Mathlib.Omega.{arith}
use lib.Arith.{digits_div}
use lib.Dec.{lit<}
use lib.ListN.{length, get_or, set, take, drop, length-set, length-drop}
use lib.Seq.{take-suc, take_all, take-add, length-take-le, drop-cons, drop-set-lt, get_or-set_same}
use Rattle.rules.specs.Bytes.{Bytes, big_endian, number}
use Rattle.rules.proofs.BigEndian.{bits_of_bytes, number_append, number_more, number_below, bytes_take, bytes_drop}
use Rattle.rules.proofs.BigEndian.{quotient_more}

-- loading: n is the number of the first i bytes
pub load_turn : (bytes : List ℕ) (i n : ℕ) → i < length bytes → n ≡ number (take i bytes)
    → n * 256 + get_or bytes i 0 ≡ number (take (i + 1) bytes)
load_turn bytes i n inside e = rw (add-one i, take-suc bytes i 0 inside, number_more, e)

pub load_front : (s : List ℕ) (k : ℕ) → k ≤ 8 → 8 ≤ length s → Bytes s
    → number (take 8 s) / 2 ^ (64 - 8 * k) ≡ number (take k s)
load_front s k h long b =
    let j : ℕ = 8 - k in
    let rest : List ℕ = take j (drop k s) in
    let both : 8 ≡ k + j = omega arith in
    let bits : 64 - 8 * k ≡ 8 * j = omega arith in
    let size : length rest ≡ j = length-take-le j (drop k s) (omega (arith, length-drop k s)) in
    let below : number rest < 256 ^ j =
    rw size at (number_below rest (bytes_take j (drop k s) (bytes_drop k s b))) in
    ap₂ (λ (x y : ℕ). number (take x s) / 2 ^ y) both bits
    ∙ rw (take-add k j s, number_append, size, bits_of_bytes j) (digits_div (number (take k s)) below)

-- loading eight at once
pub eight_bytes : (s : List ℕ) → length s ≡ 8 → from_be_bytes w64 s ≡ number s
unfolding number
eight_bytes s long =
    let turn : (i : ℕ) → i < 8 → number (take i s) * 256 + get_or s i 0 ≡ number (take (i + 1) s) =
    λ i more. load_turn s i (number (take i s)) (omega arith) refl in
    omega (
      arith,
      turn 0 (lit< tt),
      turn 1 (lit< tt),
      turn 2 (lit< tt),
      turn 3 (lit< tt),
      turn 4 (lit< tt),
      turn 5 (lit< tt),
      turn 6 (lit< tt),
      turn 7 (lit< tt),
      ap number (take_all 8 s (omega arith)),
    )

-- storing: the last i of the k bytes are written, and rest is n without them
written : (l : List ℕ) (j v : ℕ) → j < length l → drop j (set l j v) ≡ v ∷ drop (suc j) l
written l j v h =
    let fits : j < length (set l j v) = rw length-set h in
    rw (drop-cons (set l j v) j 0 fits, get_or-set_same l j v 0 h)
    (ap (λ (t : List ℕ). v ∷ t) (drop-set-lt (suc j) l j v (omega arith)))

pub store_turn : (k n i rest : ℕ) (out old : List ℕ) → 0 < i → i ≤ k → k ≤ length out
    → rest ≡ n / 256 ^ (k - i) → drop i out ≡ big_endian (k - i) n ++ old
    → (rest / 256 ≡ n / 256 ^ (k - (i - 1)))
    × (drop (i - 1) (set out (i - 1) (rest % 256)) ≡ big_endian (k - (i - 1)) n ++ old)
unfolding big_endian
store_turn k n i rest out old some more fits er eo =
    let next : k - (i - 1) ≡ suc (k - i) = omega arith in
    let last : suc (i - 1) ≡ i = omega arith in
    (rw (next, er) (quotient_more n (k - i)), rw (next, written out (i - 1) (rest % 256) (omega arith), last, eo, er))
