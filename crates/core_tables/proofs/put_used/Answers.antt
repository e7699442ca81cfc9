use Rattle.core_tables.proofs.Puts.{put_used}
use Rattle.core_tables.proofs.put_used.Goals as goal

pub returns : goal.returns
returns c = λ v. put_used v _ c.requires _
