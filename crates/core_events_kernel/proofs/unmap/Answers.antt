-- `unmap` meets its contract, as `map` does.
use mathlib.Core.Path.{◌∙◌}
use Rattle.core_answer.proofs.Laws.{found}
use Rattle.core_events_kernel.proofs.Mapping.{unmap_numbered, unmap_steps}
use Rattle.core_events_kernel.proofs.unmap.Goals as goal

pub page_number-number-requires : goal.page_number-number-requires
page_number-number-requires c =
    unmap_numbered c.args.given _ _ _ _ _ _ _ c.requires

pub put_mapping-requires : goal.put_mapping-requires
put_mapping-requires c =
    ((found _ c.requires).tables_long, c.page_number-number.ensures.listed)

pub told-requires : goal.told-requires
told-requires c =
    c.put_mapping.auto.tables ∙ (found _ c.requires).tables_long

pub returns : goal.returns
returns c =
    unmap_steps c.args.given _ _ _ _ _ _ _ c.requires _ c.page_number-number.ensures c.put_mapping.ensures c.told.ensures
