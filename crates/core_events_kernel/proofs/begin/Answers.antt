-- `begin` meets its contract: the domain is Live and the context Running in it.
use mathlib.Core.Path.{◌∙◌}
use Rattle.core_answer.proofs.Laws.{found}
use Rattle.core_events_kernel.proofs.Contexts.{begin_lives, begin_runs, begin_steps}
use Rattle.core_events_kernel.proofs.begin.Goals as goal

pub put_life-requires : goal.put_life-requires
put_life-requires c =
    begin_lives c.args.given _ _ _ _ _ _ c.args.c c.requires

pub put_activity-requires : goal.put_activity-requires
put_activity-requires c =
    begin_runs c.args.given _ _ _ _ _ c.args.d _ c.requires c.put_life.auto.tables

pub told-requires : goal.told-requires
told-requires c =
    c.put_activity.auto.tables ∙ c.put_life.auto.tables ∙ (found _ c.requires).tables_long

pub returns : goal.returns
returns c =
    begin_steps c.args.given _ _ _ _ _ _ _ c.requires _ _ c.put_life.ensures c.put_activity.ensures c.told.ensures
