-- The loop's invariant: what is gathered is 0 where, and only where, no context passed is in the domain.
use Rattle.std.proofs.Common.{◌≤◌, ◌<◌, ◌+◌}
use Rattle.core_tables.specs.Image.{word_at, contexts_at}
use Rattle.core_sound.specs.Told.{Tells, Each}
use Rattle.core_sound.proofs.loops.deserted.Given as goal

abbrev pub invariant-loop-w : goal.invariant-loop-w
invariant-loop-w l =
    Tells (Each (λ k. l.low < word_at l.tables k → word_at l.tables k ≤ l.low + 3 → ⊥) contexts_at (contexts_at + l.w-index)) l.any
