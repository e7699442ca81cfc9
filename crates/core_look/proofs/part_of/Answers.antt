-- `part_of` meets its contract: the part is as long as its bounds are apart.
use Prim.Native.Nat.{◌*◌}
use native.Mathlib.Nat.{add-sub_cancel_left}
use Rattle.rules.specs.Bytes.{part}
use Rattle.core_look.proofs.part_of.Goals as goal

pub returns-clause-holds : goal.returns-clause-holds
unfolding part
returns-clause-holds c =
    let a = c.args in
    rw (add-sub_cancel_left (a.k * a.size) a.size)
