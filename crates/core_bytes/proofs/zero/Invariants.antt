use Rattle.std.proofs.Common.{◌≡◌, take, replicate}
use Rattle.core_bytes.proofs.zero.Given as goal

abbrev pub invariant-loop-byte : goal.invariant-loop-byte
invariant-loop-byte l = take l.byte-index l.byte-items ≡ replicate l.byte-index 0
