use Rattle.core_tables.proofs.Puts.{then_place}
use Rattle.core_tables.proofs.put_page.Goals as goal

pub returns : goal.returns
returns c = λ v. then_place v _ _ c.requires.1 (c.put_mapping.ensures v) (c.put_place.ensures v)
