use Rattle.std.proofs.Common.{refl, arith}
use Rattle.core_bytes.proofs.Lent.{put_overlay}
use Rattle.core_bytes.proofs.put.Goals as goal

pub returns : goal.returns
returns c =
    let a = c.args in
    put_overlay a.at _ a.src.now _ c.copy.ensures refl (omega arith)
