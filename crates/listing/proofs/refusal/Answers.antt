use Rattle.rules.specs.Bytes.{overlay}
use Rattle.listing.proofs.Openings.{no_room, room_for_it}
use Rattle.listing.proofs.refusal.Goals as goal

pub returns-then-out-lt-LINE-clause-wrote : goal.returns-then-out-lt-LINE-clause-wrote
unfolding overlay
returns-then-out-lt-LINE-clause-wrote c = no_room c.args.number c.args.out.now c.if-out-lt-LINE.true

pub returns-clause-wrote : goal.returns-clause-wrote
returns-clause-wrote c =
    room_for_it c.args.number c.args.out.now c.if-out-lt-LINE.false c.refused_line.ensures.put
