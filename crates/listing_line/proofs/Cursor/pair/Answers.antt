use Rattle.std.proofs.Common.{refl, arith, length-set}
use Rattle.listing_line.proofs.Puts.{put_two}
use Rattle.listing_line.proofs.Cursor.pair.Goals as goal

pub returns : goal.returns
returns c =
    record {
      put = put_two c.args.self.now.at c.args.first c.args.second c.args.self.now.out.now;
      within = omega arith;
      long = simp length-set;
      same_reference = refl;
    }
