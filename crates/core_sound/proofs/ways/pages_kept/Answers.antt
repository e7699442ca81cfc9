use Rattle.std.proofs.Common.{arith}
use Rattle.core_sound.proofs.Telling.{each_none, each_more, kept_tells, counted_zero}
use Rattle.core_sound.proofs.ways.pages_kept.Goals as goal

pub loop-i-init : goal.loop-i-init
loop-i-init c = each_none _ _

pub loop-i-preserved : goal.loop-i-preserved
loop-i-preserved c =
    let l = c.loop-i in
    each_more _ _ l.i (omega arith) l.invariant
    (kept_tells c.args.tables.now _ _ l.i c.saturating_sub-mapped.ensures c.saturating_sub-sign.ensures)

pub returns : goal.returns
returns c = counted_zero (omega arith) c.loop-i.invariant
