use Rattle.std.proofs.Common.{arith}
use Rattle.core_bytes.proofs.Lent.{put_part}
use Rattle.core_bytes.proofs.copy_page.Goals as goal

pub returns : goal.returns
returns c = put_part _ _ _ _ c.copy.ensures (omega arith) (omega arith)
