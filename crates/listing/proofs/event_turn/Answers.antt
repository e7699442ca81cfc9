-- What the core leaves is what the listing's step leaves, and what the line shows of the answer fits its buffer.
use Rattle.std.proofs.Common.{refl}
use Rattle.listing.specs.Listing.{Point}
use Rattle.listing.specs.Promises.{lent_point}
use Rattle.listing.proofs.Turns.{shows, event_turns}
use Rattle.listing.proofs.event_turn.Goals as goal
use Rattle.listing.proofs.event_turn.Goals.{Start}

abbrev stands : Start → Point
stands s =
    let a = s.args in
    lent_point a.trace.now a.run a.lent.now

pub shown-shown-requires : goal.shown-shown-requires
shown-shown-requires c =
    let a = c.args in
    (shows (stands (goal.at.shown-shown-requires c).Start) a.found.event a.found.next a.«data».now _ c.supply-supply.ensures
    c.step-told.ensures c.shown_length.ensures).within

pub returns-clause-lists : goal.returns-clause-lists
returns-clause-lists c =
    let a = c.args in
    event_turns (stands (goal.at.returns-clause-lists c).Start) a.found.event a.found.next a.«data».now _ c.supply-supply.ensures
    c.step-told.ensures c.shown_length.ensures c.kind.ensures (rw c.shown-shown.ensures at c.event_line-count.ensures.put) c.behind.ensures

pub returns-clause-same : goal.returns-clause-same
returns-clause-same c =
    let a = c.args in
    record {
      tables = refl;
      saved = refl;
      frames = refl;
      store = refl;
      answer = refl;
      long =
          (shows (stands (goal.at.returns-clause-same c).Start) a.found.event a.found.next a.«data».now _ c.supply-supply.ensures
          c.step-told.ensures c.shown_length.ensures).long;
    }
