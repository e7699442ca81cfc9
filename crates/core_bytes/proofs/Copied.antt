-- Laws of bytes that are held at the front of others, and taken from there.
use mathlib.Core.Path.{◌≡◌}
use mathlib.Core.List.{List, ◌++◌}
use Prim.Native.Nat.{ℕ, ◌-◌, ◌≤◌}
use native.Mathlib.Omega.{arith}
use lib.ListN.{length, length-append}
use lib.Seq.{take_at}
use borrow.Rule.Slice.PartMut.{mid_of}

-- there are as many as were put there
pub front_fits : (src held : List ℕ) {front : List ℕ} → front ≡ src → length src ≤ length (front ++ held)
front_fits src held e = rw (e, length-append) (omega arith)

-- and they are those
pub front_is : (src held : List ℕ) {front : List ℕ} → front ≡ src → mid_of 0 (length src - 0) (front ++ held) ≡ src
front_is src held e = rw e (take_at src held (length src - 0) (omega arith))
