use mathlib.Core.Path.{◌≡◌}
use lib.ListN.{drop}
use Rattle.rules.specs.Events.{zero_named}
use Rattle.core_tables.specs.Image.{tables_in}
use Rattle.core_end.proofs.zero_frames.Given as goal

abbrev pub invariant-loop-k : goal.invariant-loop-k
invariant-loop-k l =
    zero_named l.setup l.d l.k (drop l.k (tables_in l.setup.pages l.tables).frames) l.frames
    ≡ zero_named l.setup l.d 0 (tables_in l.setup.pages l.tables).frames l.initial.frames
