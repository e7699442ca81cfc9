use Rattle.std.proofs.Common.{rules}
use Rattle.listing_line.specs.Lines.{dash, decimal, line, refused_line}
use Rattle.listing_line.proofs.Puts.{field_then_holds, counts_then_holds, given_back}
use Rattle.listing_line.proofs.refused_line.Goals as goal

pub returns-clause-put : goal.returns-clause-put
unfolding refused_line line
returns-clause-put c =
    let a = c.args in
    given_back
    (field_then_holds (decimal a.index) c.number.ensures
    (field_then_holds dash c.pair.ensures (counts_then_holds _ c.counts.ensures c.pair-2.ensures)))
    (search rules)
