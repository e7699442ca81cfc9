-- Document 01, "The trace form": fields are packed most significant bit first. The binary digits of a number that fields
-- spell are theirs, one field behind the other.
use Rattle.std.specs.Prelude.{List, [], ◌∷◌, ◌≡◌, ℕ, ◌+◌, ◌*◌, ◌/◌, ◌%◌, ◌^◌, ◌<◌}
use Rattle.trace_bits.specs.declared.Packed.{Packed}

-- the bits of all the fields
abbrev pub total : List ℕ → ℕ
total [] = 0
total (w ∷ ws) = w + total ws

-- the number that the fields' values spell, written behind the number n
abbrev pub join : ℕ → List ℕ → List ℕ → ℕ
join n [] vs = n
join n (w ∷ ws) [] = join (n * 2 ^ w) ws []
join n (w ∷ ws) (v ∷ vs) = join (n * 2 ^ w + v) ws vs

-- the values of the fields that the number n ends in
abbrev pub split : List ℕ → ℕ → List ℕ
split [] n = []
split (w ∷ ws) n = n / 2 ^ total ws % 2 ^ w ∷ split ws n

-- there are as many values as fields, and each fits its own
pub data Fit : List ℕ → List ℕ → Type 0 where
  fit_none : Fit [] []
  fit_one : {w v : ℕ} {ws vs : List ℕ} → v < 2 ^ w → Fit ws vs → Fit (w ∷ ws) (v ∷ vs)

-- a number that is being written, field by field: it has no more bits than it says
pub record Sized (p : Packed) : Type 0 where
  pub within : p.number < 2 ^ p.bits

-- nothing packed yet
pub record Bare (p : Packed) : Type 0 where
  pub number : p.number ≡ 0
  pub bits : p.bits ≡ 0
  pub sized : Sized p

-- one more field, and what it has room for
pub record Room (p : Packed) (width value : ℕ) : Type 0 where
  pub sized : Sized p
  pub fits : value < 2 ^ width
  pub room : p.bits + width < 64

pub record Longer (p : Packed) (width value : ℕ) (q : Packed) : Type 0 where
  pub number : q.number ≡ p.number * 2 ^ width + value
  pub bits : q.bits ≡ p.bits + width
  pub sized : Sized q
