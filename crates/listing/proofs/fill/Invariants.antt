-- Between two turns the text that is written and the lines from where the run has come to are those from its start.
use Rattle.std.proofs.Common.{◌-◌, length}
use Rattle.listing.specs.Promises.{SameLent, lent_point}
use Rattle.listing.proofs.Fillings.{Written}
use Rattle.listing.proofs.fill.Given as goal

abbrev pub invariant-loop-filled : goal.invariant-loop-filled
invariant-loop-filled l =
    let i = l.initial in
    record {
      written : Written (lent_point l.trace i.filled.run i.lent) (lent_point l.trace l.filled.run l.lent) i.out l.out l.filled.count;
      same : SameLent i.lent l.lent;
    }

abbrev pub decreases-loop-filled : goal.decreases-loop-filled
decreases-loop-filled l = length l.trace - l.filled.run.place
