use Rattle.core_tables.proofs.Puts.{put_life}
use Rattle.core_tables.proofs.put_life.Goals as goal

pub returns : goal.returns
returns c = λ v. put_life v _ c.requires.0 _ _ _ c.requires.1 c.life_word.ensures
