-- The loop's invariant: what is gathered is 0 where, and only where, each word passed is at most top.
use Rattle.std.proofs.Common.{◌≤◌, ◌+◌}
use Rattle.core_tables.specs.Image.{word_at}
use Rattle.core_sound.specs.Told.{Tells, Each}
use Rattle.core_sound.proofs.loops.over.Given as goal

abbrev pub invariant-loop-w : goal.invariant-loop-w
invariant-loop-w l = Tells (Each (λ k. word_at l.tables k ≤ l.top) l.a (l.a + l.w-index)) l.any
