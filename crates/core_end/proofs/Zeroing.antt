-- Laws of `zero_named`, a frame at a time: a turn of the loop, and its end.
use mathlib.Core.Path.{◌≡◌}
use mathlib.Core.List.{List}
use mathlib.Core.Bool.{cond}
use Prim.Native.Nat.{ℕ, ◌+◌, ◌*◌, ◌≤◌, ◌<◌}
use native.Mathlib.Nat.{mul-le-mul, mul-le-mul_right, mul_assoc}
use native.Mathlib.Numerals.{add-one}
use native.Mathlib.Omega.{arith}
use lib.ListN.{length, drop, get_or, drop_of_length-le}
use lib.Seq.{drop-cons}
use Rattle.rules.specs.Sizes.{max_pages, max_size}
use Rattle.rules.specs.Bytes.{with_part, zeros}
use Rattle.rules.specs.Records.{open_frame, names_in}
use Rattle.rules.specs.Events.{zero_named}
use Rattle.rules.specs.declared.Setup.{Setup}
use Rattle.rules.specs.declared.Asid.{Asid}
use Rattle.rules.specs.declared.FrameRecord.{FrameRecord}

module _ (s : Setup) (d : Asid) (named : List FrameRecord) where
  pub zero_turn : (k : ℕ) (bytes : List ℕ) {next : List ℕ} → k < length named
      → next
      ≡ cond (names_in d (get_or named k open_frame).names) (with_part s.size k (zeros s.size) bytes) bytes
      → zero_named s d (k + 1) (drop (k + 1) named) next ≡ zero_named s d k (drop k named) bytes
  unfolding zero_named
  zero_turn k bytes h e = rw (e, add-one, drop-cons named k open_frame h)

  pub zero_done : (k : ℕ) (bytes : List ℕ) → length named ≤ k → zero_named s d k (drop k named) bytes ≡ bytes
  unfolding zero_named
  zero_done k bytes h = rw (drop_of_length-le named h)

-- the slots of a domain lie within the store
pub slots_within : (d domains pages size : ℕ) → d < domains → d * (pages * size) + pages * size ≤ domains * pages * size
slots_within d domains pages size h = omega (arith, mul-le-mul_right (pages * size) h, mul_assoc domains pages size)

-- and are so few that their size is a number of the machine's
pub slots_small : (pages size : ℕ) → pages ≤ max_pages → size ≤ max_size → pages * size ≤ max_pages * max_size
slots_small pages size few small = omega (arith, mul-le-mul few small)
