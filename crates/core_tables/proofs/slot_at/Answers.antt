use Rattle.core_tables.proofs.Slots.{slot_word}
use Rattle.core_tables.proofs.slot_at.Goals as goal

pub returns : goal.returns
returns c = λ v h. slot_word v _ _ c.requires.1 h
