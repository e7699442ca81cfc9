use Rattle.std.proofs.Common.{sym, ap, ◌∙◌}
use Rattle.rules.specs.declared.PageRecord.{PageRecord}
use Rattle.core_tables.proofs.Reading.{page_there}
use Rattle.core_tables.proofs.place_at.Goals as goal

pub returns : goal.returns
returns c = λ v. c.place_in.ensures ∙ sym (ap (λ (r : PageRecord). r.place) (page_there v _ _ c.requires.1))
