use Rattle.core_tables.proofs.Puts.{put_mapping}
use Rattle.core_tables.proofs.put_mapping.Goals as goal

pub returns : goal.returns
returns c = λ v. put_mapping v _ c.requires.0 _ _ _ c.requires.1 c.mapping_word.ensures
