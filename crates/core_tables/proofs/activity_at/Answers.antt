use Rattle.std.proofs.Common.{sym, ap, ◌∙◌}
use Rattle.rules.specs.declared.ContextRecord.{ContextRecord}
use Rattle.core_tables.proofs.Reading.{context_there}
use Rattle.core_tables.proofs.activity_at.Goals as goal

pub returns : goal.returns
returns c = λ v. c.activity_in.ensures ∙ sym (ap (λ (r : ContextRecord). r.activity) (context_there v _ _ c.requires.1))
