use Rattle.std.proofs.Common.{sym, ap, ◌∙◌}
use Rattle.rules.specs.declared.DomainRecord.{DomainRecord}
use Rattle.core_tables.proofs.Reading.{domain_there}
use Rattle.core_tables.proofs.life_at.Goals as goal

pub returns : goal.returns
returns c = λ v. c.life_in.ensures ∙ sym (ap (λ (r : DomainRecord). r.life) (domain_there v _ _ c.requires.1))
