-- The loop's invariant: the image holds the table with the first i records changed.
use native.Mathlib.Omega.{arith}
use Rattle.core_tables.specs.Image.{tables_in}
use Rattle.core_tables.proofs.Reading.{long}
use Rattle.core_end.specs.Ending.{freed_of}
use Rattle.core_end.proofs.Laws.{map_up_to, up_to_map}
use Rattle.core_end.proofs.Turns.{same, context_freed, context_stays}
use Rattle.core_end.proofs.free_contexts.Goals as goal
use Rattle.core_end.proofs.free_contexts.Goals.{then-is_in, else-is_in}

pub loop-i-init : goal.loop-i-init
unfolding map_up_to
loop-i-init c = λ v. same v _

pub loop-i-preserved : goal.loop-i-preserved
loop-i-preserved c =
    let l = c.loop-i in
    λ v.
    let is = rw (c.activity_at.ensures v) at c.is_in.ensures in
    elim c.if-is_in.branch [
      | then-is_in w ↦
          rw w.tables-is (context_freed v _ _ l.i _ (omega arith) (l.invariant v) is w.if-is_in.true (w.put_activity.ensures v))
      | else-is_in w ↦ rw w.tables-is (context_stays v _ _ l.i _ (omega arith) (l.invariant v) is w.if-is_in.false)
    ]

pub returns : goal.returns
returns c =
    let l = c.loop-i in
    let x = c.args.tables.now in
    λ v. rw (up_to_map (freed_of c.args.d) l.i (tables_in v x).contexts
    (rw (long v x).contexts (omega arith))) at (l.invariant v)
