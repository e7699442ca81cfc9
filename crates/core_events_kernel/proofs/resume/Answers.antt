-- `resume` meets its contract: the registers given are those that were kept, and they are kept no longer.
use mathlib.Core.Path.{◌∙◌}
use Rattle.core_answer.proofs.Laws.{found}
use Rattle.core_events_kernel.proofs.Contexts.{resume_kept, resume_runs, resume_brings, resume_room, resume_steps}
use Rattle.core_events_kernel.proofs.resume.Goals as goal

pub activity_at-activity-requires : goal.activity_at-activity-requires
activity_at-activity-requires c =
    resume_runs c.args.given _ _ _ _ _ c.args.d _ c.requires

pub registers_at-registers-requires : goal.registers_at-registers-requires
registers_at-registers-requires c =
    resume_kept c.args.given _ _ _ _ _ c.args.d _ c.requires

pub word-x-requires : goal.word-x-requires
word-x-requires c =
    resume_brings c.args.given _ _ _ _ _ c.args.d _ c.requires

pub give-requires : goal.give-requires
give-requires c =
    resume_room c.args.given _ _ _ _ _ c.args.d _ c.requires

pub put_activity-requires : goal.put_activity-requires
put_activity-requires c =
    resume_runs c.args.given _ _ _ _ _ c.args.d _ c.requires

pub clear_saved-requires : goal.clear_saved-requires
clear_saved-requires c =
    resume_kept c.args.given _ _ _ _ _ c.args.d _ c.requires

pub told-requires : goal.told-requires
told-requires c =
    c.put_activity.auto.tables ∙ (found _ c.requires).tables_long

pub returns : goal.returns
returns c =
    resume_steps c.args.given _ _ _ _ _ _ _ c.requires _ _ c.activity_at-activity.ensures c.registers_at-registers.ensures
    c.word-x.ensures c.resumed-given.ensures c.give.ensures
    c.put_activity.ensures c.clear_saved.ensures c.clear_saved.auto.saved c.told.ensures
