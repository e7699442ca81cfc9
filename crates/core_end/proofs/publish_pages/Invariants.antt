use Prim.Native.Nat.{ℕ, ◌-◌}
use lib.ListN.{replicate}
use lib.Seq.{sets}
use Rattle.rules.specs.Records.{public_page}
use Rattle.core_tables.specs.Image.{tables_in}
use Rattle.core_tables.specs.Put.{Put}
use Rattle.core_end.specs.Ending.{with_pages}
use Rattle.core_end.proofs.publish_pages.Given as goal

abbrev pub invariant-loop-i : goal.invariant-loop-i
invariant-loop-i l =
    (v : ℕ) → Put v l.initial.tables l.tables
    (with_pages (sets (tables_in v l.initial.tables).pages l.first (replicate (l.i - l.first) public_page))
    (tables_in v l.initial.tables))
