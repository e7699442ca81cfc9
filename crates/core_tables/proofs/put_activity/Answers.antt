use Rattle.core_tables.proofs.Puts.{put_activity}
use Rattle.core_tables.proofs.put_activity.Goals as goal

pub returns : goal.returns
returns c = λ v. put_activity v _ c.requires.0 _ _ _ c.requires.1 c.activity_word.ensures
