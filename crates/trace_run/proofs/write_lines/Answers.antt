use Rattle.std.proofs.Common.{arith}
use Rattle.listing.specs.Promises.{lent_point}
use Rattle.listing.proofs.Openings.{start_counted}
use Rattle.listing.proofs.Fillings.{left_counted, left_further}
use Rattle.trace_run.proofs.write_lines.Goals as goal

pub loop-run-init : goal.loop-run-init
loop-run-init g c =
    record {
      counted = start_counted c.args.trace.now c.args.opened.setup c.args.opened.records _ _ _ _ c.start-run.ensures;
      wide = c.requires;
    }

pub loop-run-smaller : goal.loop-run-smaller
loop-run-smaller g c =
    let l = c.loop-run in
    let i = l.invariant in
    let p = lent_point c.args.trace.now l.run l.lent in
    let further = left_further p l.out i.counted c.fill-filled.ensures.lists c.loop-run-test.true i.wide in
    omega arith

pub loop-run-preserved : goal.loop-run-preserved
loop-run-preserved g c =
    let l = c.loop-run in
    let p = lent_point c.args.trace.now l.run l.lent in
    record { counted = left_counted p l.out l.invariant.counted c.fill-filled.ensures.lists; wide = omega arith }
