use Rattle.std.proofs.Common.{length, ap, arith}
use Rattle.rules.proofs.Parts.{length_part}
use Rattle.core_bytes.proofs.give_span.Goals as goal

pub slice_bounds-put-end : goal.slice_bounds-put-end
slice_bounds-put-end c =
    let a = c.args in
    omega (arith, ap length c.page-from.ensures, length_part a.size a.k a.bytes.now (omega arith))
