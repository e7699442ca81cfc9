-- `step` meets its contract: what is refused leaves all as it was, and what is not is done.
use mathlib.Core.Path.{refl}
use Rattle.core_answer.specs.Handed.{Handed, handed}
use Rattle.core_entry.proofs.Steps.{ten, tested, later, refused_by}
use Rattle.core_entry.proofs.step.Goals as goal
use Rattle.core_entry.proofs.step.Goals.{Start}

-- what is handed in
abbrev handed_in : Start → Handed
handed_in s =
    let a = s.args in
    handed a.setup a.tables.now a.saved.now a.frames.now a.store.now a.supply.now a.event
    a.«data».now a.answer.now

pub returns-then-not-acceptable : goal.returns-then-not-acceptable
returns-then-not-acceptable c =
    let h = handed_in (goal.at.returns-then-not-acceptable c).Start in
    ten h c.acceptable.ensures c.if-not-acceptable.true (rw c.into.ensures at (c.refused.ensures h refl))

pub refusal-requires : goal.refusal-requires
refusal-requires c = tested (handed_in (goal.at.refusal-requires c).Start) c.acceptable.ensures c.if-not-acceptable.false

pub perform-requires : goal.perform-requires
perform-requires c =
    later (handed_in (goal.at.perform-requires c).Start) c.acceptable.ensures c.if-not-acceptable.false c.in_default.ensures

pub refused-requires-in-Err : goal.refused-requires-in-Err
refused-requires-in-Err c =
    λ some. (tested (handed_in (goal.at.refused-requires-in-Err c).Start) c.acceptable.ensures c.if-not-acceptable.false).long

pub returns-in-Err : goal.returns-in-Err
returns-in-Err c =
    let h = handed_in (goal.at.returns-in-Err c).Start in
    refused_by h c.acceptable.ensures c.if-not-acceptable.false _ c.in-Err.ensures
    (rw c.into-in-Err.ensures at (c.refused-in-Err.ensures h refl))
