-- The bytes of the first i registers stand before what the buffer held.
use Rattle.std.proofs.Common.{◌≡◌, ◌++◌, ◌*◌, take, drop}
use Rattle.rules.specs.Bytes.{bytes_of}
use Rattle.core_registers.proofs.give.Given as goal

abbrev pub invariant-loop-i : goal.invariant-loop-i
invariant-loop-i l = l.answer ≡ bytes_of (take l.i l.x-items) ++ drop (l.i * 8) l.initial.answer
