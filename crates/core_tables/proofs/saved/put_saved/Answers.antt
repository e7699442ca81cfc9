-- `saved::put_saved` meets its contract.
use Prim.Native.Nat.{◌+◌, ◌*◌}
use native.Mathlib.Omega.{arith}
use Rattle.core_bytes.proofs.Lent.{put_overlay}
use Rattle.core_tables.proofs.Registers.{put_saved}
use Rattle.core_tables.proofs.saved.put_saved.Goals as goal

pub returns : goal.returns
returns c = let h = c.requires in
    rw (put_overlay (8 * c.args.i) (8 * c.args.i + 8) c.args.words.now c.args.saved.now c.copy_from_slice.ensures.after
    (omega (arith, h.3)) (omega (arith, h.0, h.1, h.2)))
    (put_saved _ _ h.3 _ _ h.2 h.0)
