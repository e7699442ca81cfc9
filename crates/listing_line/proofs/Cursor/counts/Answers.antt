use Rattle.listing_line.specs.Lines.{decimal, counts_then}
use Rattle.listing_line.proofs.Puts.{field_then_holds}
use Rattle.listing_line.proofs.Cursor.counts.Goals as goal

pub returns : goal.returns
unfolding counts_then
returns c =
    let a = c.args.answer in
    field_then_holds (decimal a.number) c.number.ensures
    (field_then_holds (decimal a.seals) c.number-2.ensures
    (field_then_holds (decimal a.unveils) c.number-3.ensures c.number-4.ensures))
