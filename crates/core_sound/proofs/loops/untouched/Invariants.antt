-- The loop's invariant: what is gathered is 0 where, and only where, each page passed is as freshly started.
use Rattle.core_sound.specs.Told.{Tells, Each, Untouched}
use Rattle.core_sound.proofs.loops.untouched.Given as goal

abbrev pub invariant-loop-i : goal.invariant-loop-i
invariant-loop-i l = Tells (Each (Untouched l.tables) l.a l.i) l.any
