-- `leave` meets its contract: the context is Free and keeps no registers.
use mathlib.Core.Path.{◌∙◌}
use Rattle.core_answer.proofs.Laws.{found}
use Rattle.core_events_application.proofs.Activities.{leave_kept, leave_frees, leave_steps}
use Rattle.core_events_application.proofs.contexts.leave.Goals as goal

pub put_activity-requires : goal.put_activity-requires
put_activity-requires c =
    leave_frees c.args.given _ _ _ _ _ _ c.requires

pub clear_saved-requires : goal.clear_saved-requires
clear_saved-requires c =
    leave_kept c.args.given _ _ _ _ _ _ c.requires

pub told-requires : goal.told-requires
told-requires c =
    c.put_activity.auto.tables ∙ (found _ c.requires).tables_long

pub returns : goal.returns
returns c =
    leave_steps c.args.given _ _ _ _ _ _ c.requires _ _ c.put_activity.ensures c.clear_saved.ensures
    c.clear_saved.auto.saved c.told.ensures
