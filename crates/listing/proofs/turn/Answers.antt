use Rattle.std.proofs.Common.{Ok, ap, ◌∙◌}
use Rattle.listing.specs.Listing.{Point}
use Rattle.listing.specs.Promises.{lent_point}
use Rattle.listing.proofs.Turns.{record_turns, record_further, refused_turns, end_turns}
use Rattle.listing.proofs.turn.Goals as goal
use Rattle.listing.proofs.turn.Goals.{Start}

abbrev stands : Start → Point
stands s =
    let a = s.args in
    lent_point a.trace.now a.run a.lent.now

pub event_turn-requires : goal.event_turn-requires
event_turn-requires c =
    let p = stands (goal.at.event_turn-requires c).Start in
    let h = c.in-Ok-Some in
    (record_further p c.record_at-found.ensures (h.is ∙ ap Ok (rw h.is at h.field-0-is)) c.requires.counted, c.requires.wide)

pub returns-in-Ok-Some-clause-lists : goal.returns-in-Ok-Some-clause-lists
returns-in-Ok-Some-clause-lists c =
    let p = stands (goal.at.returns-in-Ok-Some-clause-lists c).Start in
    let h = c.in-Ok-Some in
    let is = h.is ∙ ap Ok (rw h.is at h.field-0-is) in
    c.event_turn.ensures.lists
    ∙ record_turns p c.record_at-found.ensures is c.args.at c.args.out.now (rw is at c.data_of-new.ensures)

pub returns-in-Ok-None-clause-lists : goal.returns-in-Ok-None-clause-lists
returns-in-Ok-None-clause-lists c =
    let p = stands (goal.at.returns-in-Ok-None-clause-lists c).Start in
    let h = c.in-Ok-None in
    end_turns p c.record_at-found.ensures c.args.at c.args.out.now c.ended.ensures (h.is ∙ ap Ok (rw h.is at h.field-0-is))

pub returns-in-Err-clause-lists : goal.returns-in-Err-clause-lists
returns-in-Err-clause-lists c =
    let p = stands (goal.at.returns-in-Err-clause-lists c).Start in
    refused_turns p c.record_at-found.ensures c.args.at c.args.out.now c.ended-in-Err.ensures c.in-Err.is c.into.ensures
    c.used-told.ensures c.refused_line-count.ensures.put
