use Rattle.std.proofs.Common.{◌≤◌, ◌-◌, add-zero, arith}
use Rattle.core_sound.proofs.Telling.{each_none, word_more, words_all, excess_tells}
use Rattle.core_sound.proofs.loops.over.Goals as goal

pub loop-w-init : goal.loop-w-init
loop-w-init c = rw add-zero (each_none _ _)

pub loop-w-preserved : goal.loop-w-preserved
loop-w-preserved c =
    let a = c.args in
    let l = c.loop-w in
    word_more (λ w. w ≤ a.top) _ a.a (a.e - a.a) l.w-index c.loop-w-test.true l.invariant
    (excess_tells _ _ c.saturating_sub-any.ensures)

pub returns : goal.returns
returns c =
    let a = c.args in
    let l = c.loop-w in
    words_all (λ w. w ≤ a.top) _ a.a (a.e - a.a) l.w-index (omega arith) (omega arith) l.auto.w-index-end c.loop-w-test.false
    l.invariant
