use Rattle.std.proofs.Common.{◌≤◌, ◌-◌, ◌<◌, length, arith, rules}
use Rattle.listing.specs.Filling.{line_room}
use Rattle.listing.proofs.Fillings.{written_none, turn_further, turn_inside, written_more, written_all, filled_not}
use Rattle.listing.proofs.Lending.{lent_itself, lent_on, given_back}
use Rattle.listing.proofs.fill.Goals as goal

pub returns-then-run-clause-lists : goal.returns-then-run-clause-lists
returns-then-run-clause-lists c = filled_not _ c.args.out.now c.if-run.true

pub loop-filled-init : goal.loop-filled-init
loop-filled-init c = record { written = written_none _ c.args.out.now c.if-run.false; same = lent_itself _ }

pub loop-filled-smaller : goal.loop-filled-smaller
loop-filled-smaller c =
    let l = c.loop-filled in
    let w = l.invariant.written in
    let on : (l.filled.run.place < length c.args.trace.now) × (line_room (length l.lent.answer.now) ≤ length l.out - l.filled.count) =
    (c.loop-filled-test.true, omega arith) in
    let turned = c.turn-filled.ensures.lists in
    omega (arith, turn_further w on turned, turn_inside w on turned)

pub loop-filled-preserved : goal.loop-filled-preserved
loop-filled-preserved c =
    let l = c.loop-filled in
    record {
      written =
          written_more l.invariant.written (c.loop-filled-test.true, omega arith) c.turn-filled.ensures.lists c.turn-filled.ensures.within;
      same = lent_on l.invariant.same c.turn-filled.ensures.same;
    }

pub returns-else-longest-out-clause-lists : goal.returns-else-longest-out-clause-lists
returns-else-longest-out-clause-lists c =
    let i = c.loop-filled.invariant in
    given_back i.same (written_all _ c.args.out.now c.if-run.false i.written (λ h. omega arith)) (search rules) (search rules)
    (search rules)
    (search rules)
    (search rules)

pub returns-after-loop-filled-clause-lists : goal.returns-after-loop-filled-clause-lists
returns-after-loop-filled-clause-lists c =
    let i = c.loop-filled.invariant in
    given_back i.same (written_all _ c.args.out.now c.if-run.false i.written (λ h. absurd (omega arith))) (search rules) (search rules)
    (search rules)
    (search rules)
    (search rules)
