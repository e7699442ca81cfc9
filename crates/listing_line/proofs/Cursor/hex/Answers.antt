use Rattle.std.proofs.Common.{refl, sym, arith, add-zero, length, take, take_all, ◌≡◌}
use Rattle.rules.specs.Bytes.{overlay}
use Rattle.listing_line.specs.Lines.{hex}
use Rattle.listing_line.proofs.Puts.{hex_turn}
use Rattle.listing_line.proofs.Cursor.hex.Goals as goal

pub loop-b-init : goal.loop-b-init
unfolding overlay hex
loop-b-init c =
    record { put = record { ends = sym (add-zero _); bytes = refl }; within = omega arith; long = refl; same_reference = refl }

pub loop-b-preserved : goal.loop-b-preserved
loop-b-preserved c =
    let l = c.loop-b in
    hex_turn c.args.bytes.now l.b-index (omega arith) l.invariant c.digit.ensures c.digit-in-loop-b.ensures c.pair.ensures

pub returns : goal.returns
returns c =
    let l = c.loop-b in
    let b = c.args.bytes.now in
    let all : l.b-index ≡ length b = omega arith in
    let whole : take (length b) b ≡ b = take_all (length b) b (omega arith) in
    rw whole at (rw all at l.invariant)
