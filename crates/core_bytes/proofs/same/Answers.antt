use Rattle.std.proofs.Common.{sym}
use Rattle.core_bytes.proofs.Compare.{same_length}
use Rattle.core_bytes.proofs.same.Goals as goal

pub returns-then-count-b : goal.returns-then-count-b
returns-then-count-b c = sym (same_length _ _ c.if-count-b.true)
