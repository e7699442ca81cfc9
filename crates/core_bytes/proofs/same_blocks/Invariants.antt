-- As many blocks are left in both, and all is the same where they and what is left over behind them are.
use Rattle.std.proofs.Common.{◌≡◌, length}
use Rattle.rules.specs.Bytes.{same_bytes}
use Rattle.core_bytes.proofs.Compare.{joined}
use Rattle.core_bytes.proofs.same_blocks.Given as goal

abbrev pub invariant-loop-p : goal.invariant-loop-p
invariant-loop-p g l =
    let a = l.p-iterator.a.rest.now in
    let b = l.p-iterator.b.rest.now in
    (length a ≡ length b) × (same_bytes (joined a l.x) (joined b l.y) ≡ same_bytes l.a l.b)
