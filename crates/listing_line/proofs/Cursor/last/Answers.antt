use Rattle.std.proofs.Common.{arith, ◌∙◌, ◌≡◌, length, length-set, eqb-true, sym}
use borrow.Author.Tests.{eqb-false}
use Rattle.listing_line.specs.Lines.{newline}
use Rattle.listing_line.proofs.Puts.{put_then, put_one, last_none, last_some}
use Rattle.listing_line.proofs.Cursor.last.Goals as goal

pub returns-then-is_empty : goal.returns-then-is_empty
returns-then-is_empty c =
    let shown = c.args.shown.now in
    let none : length shown ≡ 0 = eqb-true (length shown) 0 (sym (c.is_empty.ensures) ∙ c.if-is_empty.true) in
    let w = c.pair.ensures in
    record {
      put = rw (← last_none shown none) w.put;
      within = omega arith;
      long = w.long;
      same_reference = w.same_reference;
    }

pub returns : goal.returns
returns c =
    let shown = c.args.shown.now in
    let w = c.hex.ensures in
    let some = last_some shown (eqb-false (length shown) 0 (sym (c.is_empty.ensures) ∙ c.if-is_empty.false)) in
    record {
      put = rw some at (put_then w.put (put_one c.hex.new.self.at newline c.hex.new.self.out.now));
      within = omega arith;
      long = length-set _ _ _ ∙ w.long;
      same_reference = w.same_reference;
    }
