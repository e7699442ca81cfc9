use Rattle.std.proofs.Common.{◌≡◌, ℕ, length-set, arith}
use lib.ListN.{length-replicate}
use Rattle.core_sound.proofs.Telling.{each_none, each_more, counted_zero}
use Rattle.core_sound.proofs.LaidOut.{holds_none, holds_more, names_home}
use Rattle.core_sound.proofs.ways.lay_out.Goals as goal

pub loop-f-init : goal.loop-f-init
loop-f-init c =
    let r = c.requires in
    (rw r.2 (length-replicate {A = ℕ} 257 0), holds_none _ _ 257 r.2, each_none _ _)

pub offset_bounds-held-k : goal.offset_bounds-held-k
offset_bounds-held-k c = omega (arith, c.requires.3 c.loop-f.f (omega arith))

pub bounds-held-k : goal.bounds-held-k
bounds-held-k c = omega (arith, c.requires.3 c.loop-f.f (omega arith))

pub overflow_add-home : goal.overflow_add-home
overflow_add-home c = omega (arith, c.requires.3 c.loop-f.f (omega arith))

pub overflow_sub-home : goal.overflow_sub-home
overflow_sub-home c = omega (arith, c.requires.3 c.loop-f.f (omega arith))

pub offset_bounds-tables-home : goal.offset_bounds-tables-home
offset_bounds-tables-home c = omega (arith, c.requires.3 c.loop-f.f (omega arith))

pub bounds-tables-home : goal.bounds-tables-home
bounds-tables-home c = omega (arith, c.requires.3 c.loop-f.f (omega arith))

pub loop-f-preserved : goal.loop-f-preserved
loop-f-preserved c =
    let l = c.loop-f in (
      rw length-set l.invariant.0,
      holds_more _ _ l.f l.invariant.1 (omega (arith, c.requires.3 l.f (omega arith))),
      each_more _ _ l.f (omega arith) l.invariant.2 (names_home c.args.tables.now l.f c.differing-any.ensures),
    )

pub returns : goal.returns
returns c =
    let l = c.loop-f in
    let e : l.f ≡ c.args.frames = omega arith in
    (rw e at l.invariant.1, counted_zero e l.invariant.2)
