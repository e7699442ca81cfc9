-- A decimal number and a space, put as two bytes, or by the kit's digits and one byte more.
use mathlib.Core.Path.{◌≡◌, ap, ◌∙◌, subst}
use mathlib.Core.List.{List, [], ◌∷◌, ◌++◌}
use Prim.Native.Nat.{ℕ, ◌+◌, ◌<◌}
use native.Mathlib.Nat.{add_assoc}
use native.Mathlib.Omega.{arith}
use lib.ListN.{length, set}
use Rattle.io.specs.Digits.{last_digits, IsDigitCount}
use Rattle.rules.specs.Bytes.{overlay}
use Rattle.listing_line.specs.Lines.{space, decimal, field_then, Put}
use Rattle.listing_line.proofs.Puts.{put_then, put_one}
use Rattle.listing_line.proofs.Decimals.{small, fewest}

module _ (at n : ℕ) where
  pub small_put : {r : ℕ} {before after : List ℕ} → n < 10 → Put at ((48 + n) ∷ space ∷ []) before r after
      → Put at (field_then (decimal n) []) before r after
  small_put {r} {before} {after} h p = subst (λ (l : List ℕ). Put at (l ++ (space ∷ [])) before r after) (small n h) p

  pub number_put : (k : ℕ) (text before between : List ℕ) → IsDigitCount 10 1 n k → text ≡ last_digits 10 k n → k ≡ length text
      → between ≡ overlay at text before
      → Put at (field_then (decimal n) []) before (at + (k + 1)) (set between (at + k) space)
  number_put k text before between least spells long e =
      let is : text ≡ decimal n = spells ∙ fewest k n least in
      let front : Put at (decimal n) before (at + k) between =
      record { ends = omega (arith, ap length is); bytes = e ∙ ap (λ (l : List ℕ). overlay at l before) is } in
      rw (← add_assoc at k 1) (put_then front (put_one (at + k) space between))
