-- The first i registers are as they are to be shown, and the others as they were.
use Rattle.std.proofs.Common.{◌≡◌, ◌++◌, take, drop, cond}
use Rattle.rules.specs.Bytes.{map_from}
use Rattle.rules.specs.Events.{shows, shown}
use Rattle.core_registers.proofs.shown.Given as goal

abbrev pub invariant-loop-i : goal.invariant-loop-i
invariant-loop-i l =
    take l.i l.word-items ++ map_from (λ i x. cond (shows l.kind l.mask i) x 0) l.i (drop l.i l.word-items)
    ≡ shown l.kind l.mask l.fn.registers.words
