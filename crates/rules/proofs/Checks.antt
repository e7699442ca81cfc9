-- Laws of a list of checks, of which the first that applies is answered.
use mathlib.Core.Path.{◌≡◌, refl}
use mathlib.Core.Logic.{◌≢◌}
use mathlib.Core.List.{List, ◌∷◌}
use mathlib.Core.Bool.{Bool, true, false}
use Prim.Native.Nat.{ℕ}
use Rattle.rules.specs.Answers.{Check, check, first_of}

-- where the answer is 0, the first check does not apply, nor does any after it
pub first_passed : (n : ℕ) (b : Bool) (cs : List Check) → first_of (check n b ∷ cs) ≡ 0 → (n ≡ 0 → ⊥) → (b ≡ false) × (first_of cs ≡ 0)
unfolding first_of check
first_passed n true cs e some = absurd (some e)
first_passed n false cs e some = (refl, e)

-- a check that does not apply leaves the answer to those after it
pub first_skipped : (n : ℕ) (b : Bool) (cs : List Check) → b ≡ false → first_of (check n b ∷ cs) ≡ first_of cs
unfolding first_of check
first_skipped n b cs e = rw e

-- a number that neither the first check nor any after it answers is not the answer
pub first_other : (k n : ℕ) (b : Bool) (cs : List Check) → n ≢ k → first_of cs ≢ k → first_of (check n b ∷ cs) ≢ k
unfolding first_of check
first_other k n true cs here rest = here
first_other k n false cs here rest = rest
