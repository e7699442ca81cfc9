use Prim.Native.Nat.{ℕ}
use Rattle.core_tables.specs.Image.{tables_in}
use Rattle.core_tables.specs.Put.{Put}
use Rattle.core_end.specs.Ending.{freed_of, with_contexts}
use Rattle.core_end.proofs.Laws.{map_up_to}
use Rattle.core_end.proofs.free_contexts.Given as goal

abbrev pub invariant-loop-i : goal.invariant-loop-i
invariant-loop-i l =
    (v : ℕ) → Put v l.initial.tables l.tables
    (with_contexts (map_up_to (λ _. freed_of l.d) 0 l.i (tables_in v l.initial.tables).contexts) (tables_in v l.initial.tables))
