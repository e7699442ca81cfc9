use Rattle.core_bytes.proofs.Lent.{mid_part}
use Rattle.core_bytes.proofs.page.Goals as goal

pub returns : goal.returns
returns c = mid_part _ _ _
