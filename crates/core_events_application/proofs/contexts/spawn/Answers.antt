-- `spawn` meets its contract: the other context runs where this one does.
use mathlib.Core.Path.{◌∙◌}
use Rattle.core_answer.proofs.Laws.{found}
use Rattle.core_events_application.proofs.Activities.{spawn_reads, spawn_runs, spawn_steps}
use Rattle.core_events_application.proofs.contexts.spawn.Goals as goal

pub activity_at-activity-requires : goal.activity_at-activity-requires
activity_at-activity-requires c =
    spawn_reads c.args.given _ _ _ _ _ _ c.args.u c.requires

pub put_activity-requires : goal.put_activity-requires
put_activity-requires c =
    spawn_runs c.args.given _ _ _ _ _ c.args.c _ c.requires

pub told-requires : goal.told-requires
told-requires c =
    c.put_activity.auto.tables ∙ (found _ c.requires).tables_long

pub returns : goal.returns
returns c =
    spawn_steps c.args.given _ _ _ _ _ _ _ c.requires _ c.activity_at-activity.ensures c.domain-d.ensures
    c.put_activity.ensures c.told.ensures
