-- `end` meets its contract: what `core_end::end` leaves is the rules' ended machine, and its words are canonical.
use mathlib.Core.Path.{sym, ap, ◌∙◌}
use Rattle.core_answer.specs.Handed.{ends}
use Rattle.core_answer.proofs.Laws.{found}
use Rattle.core_events_kernel.proofs.Ending.{endable, end_leaves}
use Rattle.core_events_kernel.proofs.end.Goals as goal

pub end-requires : goal.end-requires
end-requires c =
    endable c.args.given _ _ _ _ _ _ c.requires

pub told-requires : goal.told-requires
told-requires c =
    c.end.auto.tables ∙ (found _ c.requires).tables_long

pub returns : goal.returns
returns c =
    let was = found _ c.requires in
    let ended = c.end.ensures in
    let long = c.end.auto.saved ∙ was.saved_long in
    c.told.ensures c.args.given.setup _ _ _ _ (ended.canonical was.canonical) long
    ∙ ap (λ m. ends c.args.given.setup 0 m c.args.answer.now) ended.is
    ∙ sym (end_leaves c.args.given _ _ _ _ _ _ c.requires)
