-- Every output that is filled brings the run further, whose index is at most its place; and the output has room for the longest line.
use Rattle.std.proofs.Common.{◌-◌, ◌≤◌, length}
use Rattle.listing.specs.Filling.{line_room}
use Rattle.trace_run.proofs.write_lines.Given as goal

abbrev pub invariant-loop-run : goal.invariant-loop-run
invariant-loop-run g l =
    record { counted : l.run.index ≤ l.run.place; wide : line_room (length l.lent.answer.now) ≤ length l.out }

abbrev pub decreases-loop-run : goal.decreases-loop-run
decreases-loop-run g l = length l.trace - l.run.place
