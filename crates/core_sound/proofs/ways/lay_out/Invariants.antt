-- The loop's invariant: held has the names of the frames passed, and what is gathered is 0 where, and only where, each of them names
-- no page or one that is Clear in it.
use Rattle.std.proofs.Common.{◌≡◌, length}
use Rattle.core_sound.specs.Told.{Tells, Each, Holds, NamesHome}
use Rattle.core_sound.proofs.ways.lay_out.Given as goal

abbrev pub invariant-loop-f : goal.invariant-loop-f
invariant-loop-f l =
    (length l.held ≡ 257) × Holds l.tables l.f l.held × Tells (Each (NamesHome l.tables) 0 l.f) l.any
