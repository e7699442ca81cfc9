-- The loop's invariant: the image holds the table with the first i records changed.
use mathlib.Core.Path.{◌∙◌}
use native.Mathlib.Omega.{arith}
use Rattle.core_tables.specs.Words.{NamesFit}
use Rattle.core_tables.specs.Image.{tables_in}
use Rattle.core_tables.proofs.Reading.{long}
use Rattle.core_end.specs.Ending.{opened_of}
use Rattle.core_end.proofs.Laws.{map_up_to, up_to_map}
use Rattle.core_end.proofs.Turns.{same, frame_opened, frame_stays, named_fits}
use Rattle.core_end.proofs.open_frames.Goals as goal
use Rattle.core_end.proofs.open_frames.Goals.{then-names_in, else-names_in}

pub loop-i-init : goal.loop-i-init
unfolding map_up_to
loop-i-init c = same _ _

pub put_names-requires : goal.put_names-requires
unfolding NamesFit
put_names-requires c =
    let p = c.requires in
    (c.loop-i.auto.tables ∙ p.0, p.1, p.2, omega arith, tt)

pub loop-i-preserved : goal.loop-i-preserved
loop-i-preserved c =
    let p = c.requires in
    let l = c.loop-i in
    let is = c.names_in.ensures _ (named_fits _ l.tables l.i p.1 (omega arith)) (c.slot_at.ensures _ (l.invariant.canonical p.3)) in
    elim c.if-names_in.branch [
      | then-names_in w ↦ rw w.tables-is (frame_opened _ _ _ l.i _ (omega arith) l.invariant is w.if-names_in.true w.put_names.ensures)
      | else-names_in w ↦ rw w.tables-is (frame_stays _ _ _ l.i _ (omega arith) l.invariant is w.if-names_in.false)
    ]

pub returns : goal.returns
returns c =
    let l = c.loop-i in
    let a = c.args in
    rw (up_to_map (opened_of a.d) l.i (tables_in a.pages a.tables.now).frames
    (rw (long a.pages a.tables.now).frames (omega arith))) at l.invariant
