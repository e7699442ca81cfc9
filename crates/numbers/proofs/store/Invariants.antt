-- The bytes from i to k are written, those behind the k as they were, and the rest is n without the bytes written.
use Rattle.std.proofs.Common.{◌≡◌, ◌++◌, ◌-◌, ◌/◌, ◌^◌, drop}
use Rattle.rules.specs.Bytes.{big_endian}
use Rattle.numbers.proofs.store.Given as goal

abbrev pub invariant-loop-i : goal.invariant-loop-i
invariant-loop-i l =
    (l.rest ≡ l.n / 256 ^ (l.k - l.i)) × (drop l.i l.out ≡ big_endian (l.k - l.i) l.n ++ drop l.k l.initial.out)
