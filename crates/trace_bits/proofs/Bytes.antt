-- A number's fields against its bytes, where both have the same bits: what is packed from fields to bytes and back, or the
-- other way round, comes back unchanged, and a first field of at most a byte stands in the first byte.
use mathlib.Core.Path.{◌≡◌, sym, ap, subst, ◌∙◌}
use mathlib.Core.List.{List, [], ◌∷◌}
use Prim.Native.Nat.{ℕ, zero, suc, ◌+◌, ◌-◌, ◌*◌, ◌/◌, ◌%◌, ◌^◌, ◌≤◌, ◌<◌}
use native.Mathlib.Nat.{zero-add, div-eq_of_lt, not-suc-le-zero, le_of_suc-le-suc}
use native.Mathlib.Omega.{arith}
use lib.Arith.{digits_div}
use lib.Dec.{lit<}
use lib.ListN.{length, take, get_or}
use lib.Pow.{shr_mod}
use lib.Seq.{length-take-le}
use Rattle.rules.specs.Bytes.{Bytes, big_endian, number}
use Rattle.rules.proofs.BigEndian.{bits_of_bytes, number_below, number_big_endian, big_endian_number, bytes_take}
use Rattle.trace_bits.specs.Packing.{total, join, split, Fit}
use Rattle.trace_bits.proofs.Laws.{div_pow, split_join, join_split, join_below}

-- fields that take k bytes
module _ (ws : List ℕ) (k : ℕ) (bits : total ws ≡ 8 * k) where
  bound : 2 ^ total ws ≡ 256 ^ k
  bound = ap (λ (n : ℕ). 2 ^ n) bits ∙ bits_of_bytes k

  pub unpacked : {vs : List ℕ} → Fit ws vs → split ws (number (big_endian k (join 0 ws vs))) ≡ vs
  unpacked {vs} f =
      let below : join 0 ws vs < 256 ^ k = rw (zero-add, bound) at (join_below 0 0 (lit< tt) f) in
      ap (split ws) (number_big_endian k (join 0 ws vs) below) ∙ split_join 0 f

  pub repacked : (s : List ℕ) → length s ≡ k → Bytes s → big_endian k (join 0 ws (split ws (number s))) ≡ s
  repacked s size b =
      let below : number s < 2 ^ total ws = rw (bound, ← size) (number_below s b) in
      ap (big_endian k) (join_split ws (number s) 0 (sym (div-eq_of_lt below)))
      ∙ rw (← size) (big_endian_number s b)

-- ws are the fields behind the first, which is w bits wide
pub first_field : (w : ℕ) (ws : List ℕ) (k : ℕ) (s : List ℕ) → 1 ≤ k → k ≤ length s → w ≤ 8 → w + total ws ≡ 8 * k → Bytes s
    → number (take k s) / 2 ^ total ws % 2 ^ w ≡ get_or s 0 0 / 2 ^ (8 - w)
unfolding number
first_field w ws zero s h g hw e b = absurd (not-suc-le-zero h)
first_field w ws (suc k) [] h g hw e b = absurd (not-suc-le-zero g)
first_field w ws (suc k) (x ∷ s) h g hw e b =
    let rest : List ℕ = take k s in
    let size : length rest ≡ k = length-take-le k s (le_of_suc-le-suc g) in
    let below : number rest < 256 ^ k = rw size at (number_below rest (bytes_take k s (λ i. b (suc i)))) in
    let behind : total ws ≡ 8 - w + 8 * k = omega arith in
    let byte : w + (8 - w) ≡ 8 = omega arith in
    let n : ℕ = x * 256 ^ k + number rest in
    rw (size, behind)
    (ap (λ (q : ℕ). q % 2 ^ w)
    (div_pow n (8 - w) (8 * k)
    ∙ ap (λ (q : ℕ). q / 2 ^ (8 - w)) (ap (λ (m : ℕ). n / m) (bits_of_bytes k) ∙ digits_div x below))
    ∙ shr_mod {n = x} w (8 - w) (subst (λ (m : ℕ). x < 2 ^ m) (sym byte) (b 0)))
