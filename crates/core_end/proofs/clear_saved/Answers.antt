-- The loop's invariant: the first i contexts' registers are changed.
use mathlib.Core.Path.{refl, ◌∙◌}
use native.Mathlib.Omega.{arith}
use Rattle.core_end.proofs.Laws.{map_up_to}
use Rattle.core_end.proofs.Turns.{saved_cleared, saved_stays, all_cleared}
use Rattle.core_end.proofs.clear_saved.Goals as goal
use Rattle.core_end.proofs.clear_saved.Goals.{then-is_in, else-is_in}

pub loop-i-init : goal.loop-i-init
unfolding map_up_to
loop-i-init c = λ v. refl

pub loop-i-preserved : goal.loop-i-preserved
loop-i-preserved c =
    let few = c.requires.2 in
    let l = c.loop-i in
    λ v.
    let is = rw (c.activity_at.ensures v) at c.is_in.ensures in
    elim c.if-is_in.branch [
      | then-is_in w ↦
          rw w.saved-is (saved_cleared _ v _ _ _ _ l.i few (omega arith) (l.invariant v) is _ w.if-is_in.true w.clear_saved.ensures)
      | else-is_in w ↦ rw w.saved-is (saved_stays _ v _ _ _ _ l.i few (omega arith) (l.invariant v) is w.if-is_in.false)
    ]

pub returns : goal.returns
returns c =
    let l = c.loop-i in
    λ v. l.invariant v ∙ all_cleared _ v _ _ _ l.i c.requires.2 (omega arith)
