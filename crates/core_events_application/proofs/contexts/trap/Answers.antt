-- `trap` meets its contract: the registers kept are all, and those given are those shown.
use mathlib.Core.Path.{◌∙◌}
use Rattle.core_answer.proofs.Laws.{found}
use Rattle.core_events_application.proofs.Activities.{trap_stops, trap_brings, trap_room, trap_kept, trap_steps}
use Rattle.core_events_application.proofs.contexts.trap.Goals as goal

pub activity_at-activity-requires : goal.activity_at-activity-requires
activity_at-activity-requires c =
    trap_stops c.args.given _ _ _ _ _ _ c.args.kind c.args.mask c.requires

pub load-registers-requires : goal.load-registers-requires
load-registers-requires c =
    trap_brings c.args.given _ _ _ _ _ c.args.c c.args.kind c.args.mask c.requires

pub give-requires : goal.give-requires
give-requires c =
    trap_room c.args.given _ _ _ _ _ c.args.c c.args.kind c.args.mask c.requires

pub put_activity-requires : goal.put_activity-requires
put_activity-requires c =
    trap_stops c.args.given _ _ _ _ _ _ c.args.kind c.args.mask c.requires

pub put_saved-requires : goal.put_saved-requires
put_saved-requires c =
    trap_kept c.args.given _ _ _ _ _ _ c.args.kind c.args.mask c.requires c.load-registers.ensures

pub told-requires : goal.told-requires
told-requires c =
    c.put_activity.auto.tables ∙ (found _ c.requires).tables_long

pub returns : goal.returns
returns c =
    trap_steps c.args.given _ _ _ _ _ _ _ _ c.requires _ _ c.activity_at-activity.ensures c.domain-d.ensures
    c.load-registers.ensures c.shown-shown.ensures c.give.ensures
    c.put_activity.ensures c.put_saved.ensures c.put_saved.auto.saved c.told.ensures
