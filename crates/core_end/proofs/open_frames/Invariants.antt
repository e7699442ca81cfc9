use Rattle.core_tables.specs.Image.{tables_in}
use Rattle.core_tables.specs.Put.{Put}
use Rattle.core_end.specs.Ending.{opened_of, with_frames}
use Rattle.core_end.proofs.Laws.{map_up_to}
use Rattle.core_end.proofs.open_frames.Given as goal

abbrev pub invariant-loop-i : goal.invariant-loop-i
invariant-loop-i l =
    Put l.pages l.initial.tables l.tables
    (with_frames (map_up_to (λ _. opened_of l.d) 0 l.i (tables_in l.pages l.initial.tables).frames)
    (tables_in l.pages l.initial.tables))
