-- The loop's invariant: what is gathered is 0 where, and only where, the words of each page passed are in range and its home is held's.
use Rattle.core_sound.specs.Told.{Tells, Each, Kept}
use Rattle.core_sound.proofs.ways.pages_kept.Given as goal

abbrev pub invariant-loop-i : goal.invariant-loop-i
invariant-loop-i l = Tells (Each (Kept l.tables l.held l.frames) 0 l.i) l.any
