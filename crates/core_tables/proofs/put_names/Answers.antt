use Rattle.core_tables.proofs.Puts.{put_names}
use Rattle.core_tables.proofs.put_names.Goals as goal

pub returns : goal.returns
returns c = put_names _ _ c.requires.0 _ _ _ c.requires.3 c.names_word.ensures
