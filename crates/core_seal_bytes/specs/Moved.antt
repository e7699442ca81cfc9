-- The bytes that a seal and an unveiling leave.
use Rattle.std.specs.Prelude.{◌≡◌, List, Bool, cond, ℕ}
use Rattle.rules.specs.Bytes.{part, with_part, same_bytes}

-- frame f went to the slot, and signature k is in its place
pub record SealedBytes (size f slot k : ℕ) (supply frames store frames' store' : List ℕ) : Type 0 where
  pub frames_left : frames' ≡ with_part size f (part size k supply) frames
  pub store_left : store' ≡ with_part size slot (part size f frames) store

-- whether frame f held signature k, and only then the slot is in its place
pub record UnveiledBytes (size f slot k : ℕ) (supply store frames : List ℕ) (held : Bool) (frames' : List ℕ) : Type 0 where
  pub compared : held ≡ same_bytes (part size f frames) (part size k supply)
  pub frames_left : frames' ≡ cond held (with_part size f (part size slot store) frames) frames
