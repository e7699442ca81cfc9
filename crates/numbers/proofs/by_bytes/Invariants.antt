use Rattle.std.proofs.Common.{◌≡◌, ◌^◌, ◌<◌, take}
use Rattle.rules.specs.Bytes.{number}
use Rattle.numbers.proofs.by_bytes.Given as goal

abbrev pub invariant-loop-b : goal.invariant-loop-b
invariant-loop-b l = (l.n ≡ number (take l.b-index (take l.k l.bytes))) × (l.n < 256 ^ l.b-index)
