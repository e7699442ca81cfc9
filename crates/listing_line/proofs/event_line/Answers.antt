use Rattle.std.proofs.Common.{rules}
use Rattle.listing_line.specs.Lines.{decimal, line}
use Rattle.listing_line.proofs.Puts.{field_then_holds, counts_then_holds, given_back}
use Rattle.listing_line.proofs.event_line.Goals as goal

pub returns-clause-put : goal.returns-clause-put
unfolding line
returns-clause-put c =
    let a = c.args in
    given_back
    (field_then_holds (decimal a.index) c.number.ensures
    (field_then_holds (decimal a.kind) c.number-2.ensures
    (counts_then_holds a.answer c.counts.ensures c.last.ensures)))
    (search rules)
