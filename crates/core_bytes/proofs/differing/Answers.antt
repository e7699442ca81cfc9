use Rattle.std.proofs.Common.{◌∙◌}
use Rattle.core_bytes.proofs.Compare.{same_next}
use Rattle.core_bytes.proofs.differing.Goals as goal

pub loop-x-preserved : goal.loop-x-preserved
loop-x-preserved c =
    let l = c.loop-x in
    let step = c.in-Some.ensures.steps in
    let next = same_next l.bits _ _ step.0 step.1 l.invariant.0 in
    (next.0, next.1 ∙ l.invariant.1)
