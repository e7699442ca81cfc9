-- A part that was lent, and what comes back of it, in the words of the rules: `part`, `overlay` and `with_part`.
use mathlib.Core.Path.{◌≡◌, ap}
use mathlib.Core.List.{List, ◌++◌, append_assoc}
use Prim.Native.Nat.{ℕ, ◌+◌, ◌-◌, ◌*◌, ◌≤◌}
use native.Mathlib.Nat.{add-sub_cancel_left}
use native.Mathlib.Omega.{arith}
use lib.ListN.{length, take, length-take, length-drop}
use borrow.Rule.Slice.PartMut.{put_mid, mid_of, Post-is}
use Rattle.rules.specs.Bytes.{part, overlay, with_part}
use Rattle.rules.proofs.Parts.{overlay_is}

-- the bytes from at to end: how many there are at most, and that two of one length have as many there
pub length_mid : (at end most : ℕ) (bytes : List ℕ) → end ≤ at + most → length (mid_of at (end - at) bytes) ≤ most
length_mid at end most bytes h = rw length-take (omega arith)

pub length_mids : (at end : ℕ) (a b : List ℕ) → length a ≡ length b
    → length (mid_of at (end - at) a) ≡ length (mid_of at (end - at) b)
length_mids at end a b e = simp (length-take, length-drop, e)

-- the bytes from at to end, replaced
pub put_overlay : (at end : ℕ) (new bytes : List ℕ) {left : List ℕ} → left ≡ new → end ≡ at + length new
    → end ≤ length bytes → put_mid at (end - at) bytes left ≡ overlay at new bytes
put_overlay at end new bytes e long fits =
    rw (e, overlay_is at new bytes (omega arith), ← long, append_assoc)
    (ap (λ (l : List ℕ). take at bytes ++ (new ++ l)) (Post-is at end bytes (omega arith)))

-- page k, read and replaced
module _ (p k : ℕ) where
  pub mid_part : (bytes : List ℕ) → mid_of (k * p) (k * p + p - k * p) bytes ≡ part p k bytes
  unfolding part
  mid_part bytes = rw add-sub_cancel_left

  pub put_part : (new bytes : List ℕ) {left : List ℕ} → left ≡ new → length new ≡ p → k * p + p ≤ length bytes
      → put_mid (k * p) (k * p + p - k * p) bytes left ≡ with_part p k new bytes
  unfolding with_part
  put_part new bytes e long fits = put_overlay (k * p) (k * p + p) new bytes e (omega arith) fits
