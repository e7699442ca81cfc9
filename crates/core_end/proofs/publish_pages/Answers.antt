-- The loop's invariant: the pages from the first up to i are Public and unmapped.
use mathlib.Core.Path.{◌∙◌}
use native.Mathlib.Omega.{arith}
use Rattle.core_tables.specs.Words.{PlaceFits, sign_word}
use Rattle.core_end.proofs.Turns.{turn_pages}
use Rattle.core_end.proofs.publish_pages.Goals as goal

pub put_page-requires : goal.put_page-requires
unfolding PlaceFits sign_word
put_page-requires c = (c.loop-i.auto.tables ∙ c.requires.0, omega arith, omega arith)

pub loop-i-preserved : goal.loop-i-preserved
loop-i-preserved c =
    let l = c.loop-i in
    λ v. turn_pages v _ _ _ l.i (omega arith) (l.invariant v) (c.put_page.ensures v)
