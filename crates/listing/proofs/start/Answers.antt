use Rattle.listing.proofs.Openings.{opens}
use Rattle.listing.proofs.start.Goals as goal

pub returns : goal.returns
returns c =
    let a = c.args in
    opens a.trace.now a.setup a.place a.tables.now a.saved.now a.frames.now a.store.now
    c.supply.ensures c.start.ensures
