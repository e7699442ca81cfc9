-- A copy that is refused where the lengths differ.
use Rattle.std.specs.Prelude.{List, cond, ℕ, length, eqb}

-- what is left in the place of dst
unfoldable pub copied : List ℕ → List ℕ → List ℕ
copied src dst = cond (eqb (length src) (length dst)) src dst
