use Rattle.core_sound.proofs.Telling.{section_tells}
use Rattle.core_sound.proofs.loops.section.Goals as goal

pub returns : goal.returns
returns c = section_tells _ _ _ _ _ c.requires.0 c.over.ensures c.over-2.ensures
