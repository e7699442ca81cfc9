use Rattle.std.proofs.Common.{sym, ap, ◌∙◌}
use Rattle.rules.specs.declared.FrameRecord.{FrameRecord}
use Rattle.core_tables.proofs.Reading.{frame_there}
use Rattle.core_tables.proofs.names_at.Goals as goal

pub returns : goal.returns
returns c = c.names_in.ensures ∙ sym (ap (λ (r : FrameRecord). r.names) (frame_there _ _ _ c.requires.3))
