-- The first i registers are those of the bytes.
use Rattle.std.proofs.Common.{◌≡◌, take}
use Rattle.rules.specs.Bytes.{words_in}
use Rattle.core_registers.proofs.load.Given as goal

abbrev pub invariant-loop-i : goal.invariant-loop-i
invariant-loop-i l = take l.i l.register-items ≡ words_in l.i l.bytes
