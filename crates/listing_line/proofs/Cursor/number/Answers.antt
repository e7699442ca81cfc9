use Rattle.std.proofs.Common.{refl, arith, ap, ◌∙◌, ◌≤◌, length, length-set}
use Rattle.rules.proofs.Parts.{length_overlay}
use Rattle.listing_line.proofs.Decimals.{few}
use Rattle.listing_line.proofs.Numbers.{small_put, number_put}
use Rattle.listing_line.proofs.Cursor.number.Goals as goal

pub returns-then-n-lt10 : goal.returns-then-n-lt10
returns-then-n-lt10 c =
    let w = c.pair.ensures in
    record {
      put = small_put c.args.self.now.at c.args.n c.if-n-lt10.true w.put;
      within = omega arith;
      long = w.long;
      same_reference = w.same_reference;
    }

pub returns : goal.returns
returns c =
    let a = c.args in
    let k = c.decimal-count.result in
    let d = c.decimal-count.ensures in
    let at_most : k ≤ 20 = few k a.n c.ranges.n.fits d.len in
    record {
      put = number_put a.self.now.at a.n k _ a.self.now.out.now c.put.new.dst d.len d.digits d.in_bounds.1 c.put.ensures;
      within = omega arith;
      long = length-set _ _ _ ∙ ap length c.put.ensures ∙ length_overlay _ _ _;
      same_reference = refl;
    }
