-- The first bytes are written.
use Rattle.std.proofs.Common.{◌*◌, take}
use Rattle.listing_line.specs.Lines.{hex}
use Rattle.listing_line.specs.Writing.{Writes}
use Rattle.listing_line.proofs.Cursor.hex.Given as goal

abbrev pub invariant-loop-b : goal.invariant-loop-b
invariant-loop-b l = Writes (hex (take l.b-index l.bytes)) (2 * l.b-index) l.initial.self l.self
