-- The loop's invariant: what is left to be zeroed, from frame k on, leads to the same bytes.
use mathlib.Core.Path.{refl, sym, ◌∙◌}
use native.Mathlib.Omega.{arith}
use Rattle.core_tables.proofs.Reading.{long}
use Rattle.core_end.proofs.Zeroing.{zero_turn, zero_done}
use Rattle.core_end.proofs.Turns.{named_fits}
use Rattle.core_end.proofs.zero_frames.Goals as goal
use Rattle.core_end.proofs.zero_frames.Goals.{then-names_in, else-names_in}

pub zero_page-requires : goal.zero_page-requires
zero_page-requires c =
    let p = c.requires in
    let l = c.loop-k in
    let is = c.names_in.ensures _ (named_fits _ c.args.tables.now l.k p.1 (omega arith)) (c.slot_at.ensures _ p.3) in
    rw l.auto.frames (p.4.fits l.k (omega arith) (rw (sym is ∙ c.if-names_in.true) tt))

pub loop-k-preserved : goal.loop-k-preserved
loop-k-preserved c =
    let p = c.requires in
    let l = c.loop-k in
    let is = c.names_in.ensures _ (named_fits _ c.args.tables.now l.k p.1 (omega arith)) (c.slot_at.ensures _ p.3) in
    zero_turn _ _ _ l.k l.frames (rw (long _ _).frames (omega arith))
    (elim c.if-names_in.branch [
      | then-names_in w ↦ w.frames-is ∙ rw (sym is ∙ w.if-names_in.true) w.zero_page.ensures
      | else-names_in w ↦ w.frames-is ∙ rw (sym is ∙ w.if-names_in.false) refl
    ])
    ∙ l.invariant

pub returns : goal.returns
returns c =
    let l = c.loop-k in
    sym (zero_done _ _ _ l.k l.frames (rw (long _ _).frames (omega arith))) ∙ l.invariant
