-- A span's end is tested without the sum of its numbers.
use mathlib.Core.Path.{◌≡◌, sym, ◌∙◌}
use Prim.Native.Nat.{ℕ, ◌+◌, ◌-◌, ◌≤◌}
use native.Mathlib.Decide.{dec_le}
use native.Mathlib.Omega.{arith}
use lib.Dec.{leb}
use borrow.Author.Tests.{le-leb, lt-leb}

pub sum_fits : (off len size : ℕ) → len ≤ size → leb off (size - len) ≡ leb (off + len) size
sum_fits off len size h = go (dec_le off (size - len))
  where
    go : Dec (off ≤ size - len) → leb off (size - len) ≡ leb (off + len) size
    go (yes p) = le-leb off (size - len) p ∙ sym (le-leb (off + len) size (omega arith))
    go (no p) = lt-leb off (size - len) (omega arith) ∙ sym (lt-leb (off + len) size (omega arith))
