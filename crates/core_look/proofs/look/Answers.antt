-- `look` meets its contract. A place that is found tells that the page is within the setup, so its slot and its frame are there;
-- what is handed back is then the part that the rules name, and where they name it.
use mathlib.Core.Path.{sym, ◌∙◌}
use Rattle.rules.specs.Answers.{contents_at}
use Rattle.core_look.proofs.Within.{granted, looked, unlooked, slot_fits, frame_fits}
use Rattle.core_look.proofs.look.Goals as goal

pub returns-in_default : goal.returns-in_default
returns-in_default c =
    let a = c.args in
    let l = unlooked _ _ _ _ _ _ _ _ c.in_default.ensures.answers a.frames.ref_ptr a.store.ref_ptr in
    record { bytes = l.0; stands = l.1 }

pub part_of-requires : goal.part_of-requires
part_of-requires c =
    let found = c.in-Ok.ensures in
    rw c.from.ensures (frame_fits (granted _ _ _ _ _ _ _ found.answers) found.found c.in-Clear.is)

pub page_number-requires : goal.page_number-requires
page_number-requires c =
    let w = granted _ _ _ _ _ _ _ c.in-Ok.ensures.answers in
    (w.looks.sizes, w.domain, w.page)

pub part_of-requires-in-Sealed : goal.part_of-requires-in-Sealed
part_of-requires-in-Sealed c = rw c.page_number.ensures.is (slot_fits (granted _ _ _ _ _ _ _ c.in-Ok.ensures.answers))

pub returns-in-Public : goal.returns-in-Public
unfolding contents_at
returns-in-Public c =
    let a = c.args in
    let found = c.in-Ok.ensures in
    let l = looked _ _ _ _ _ _ _ found.answers a.frames.ref_ptr a.store.ref_ptr (sym c.in-Public.is ∙ found.found) in
    record { bytes = l.0; stands = l.1 }

pub returns-in-Clear : goal.returns-in-Clear
unfolding contents_at
returns-in-Clear c =
    let a = c.args in
    let found = c.in-Ok.ensures in
    let l = looked _ _ _ _ _ _ _ found.answers a.frames.ref_ptr a.store.ref_ptr (sym c.in-Clear.is ∙ found.found) in
    let part = rw c.from.ensures at c.part_of.ensures in
    record { bytes = part.holds ∙ l.0; stands = part.stands ∙ l.1 }

pub returns-in-Sealed : goal.returns-in-Sealed
unfolding contents_at
returns-in-Sealed c =
    let a = c.args in
    let found = c.in-Ok.ensures in
    let l = looked _ _ _ _ _ _ _ found.answers a.frames.ref_ptr a.store.ref_ptr (sym c.in-Sealed.is ∙ found.found) in
    let slot = rw c.page_number.ensures.is at c.part_of-in-Sealed.ensures in
    record { bytes = slot.holds ∙ l.0; stands = slot.stands ∙ l.1 }
