use mathlib.Core.Path.{◌≡◌}
use Prim.Native.Nat.{ℕ}
use Rattle.core_tables.specs.Image.{tables_in, saved_in}
use Rattle.core_end.specs.Ending.{cleared_of}
use Rattle.core_end.proofs.Laws.{map_up_to}
use Rattle.core_end.proofs.clear_saved.Given as goal

abbrev pub invariant-loop-i : goal.invariant-loop-i
invariant-loop-i l =
    (v : ℕ) → saved_in l.n l.saved
    ≡ map_up_to (cleared_of l.d (tables_in v l.tables).contexts) 0 l.i (saved_in l.n l.initial.saved)
