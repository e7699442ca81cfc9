use Rattle.std.proofs.Common.{◌≤◌, ◌<◌, ◌+◌, refl, arith}
use Rattle.rules.specs.Sizes.{max_contexts}
use Rattle.core_tables.specs.Image.{contexts_at, frames_at}
use Rattle.core_sound.proofs.Telling.{each_none, word_more, words_all, counted}
use Rattle.core_sound.proofs.loops.deserted.Goals as goal

pub loop-w-init : goal.loop-w-init
loop-w-init c = each_none _ _

pub loop-w-preserved : goal.loop-w-preserved
loop-w-preserved c =
    let low = c.args.low in
    let l = c.loop-w in
    word_more (λ w. low < w → w ≤ low + 3 → ⊥) _ contexts_at max_contexts l.w-index c.loop-w-test.true l.invariant
    c.inside-any.ensures

pub returns : goal.returns
returns c =
    let low = c.args.low in
    let l = c.loop-w in
    counted {e = frames_at} refl
    (words_all (λ w. low < w → w ≤ low + 3 → ⊥) _ contexts_at max_contexts l.w-index refl (omega arith) l.auto.w-index-end
    c.loop-w-test.false l.invariant)
