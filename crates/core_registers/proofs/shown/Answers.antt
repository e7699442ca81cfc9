use Rattle.std.proofs.Common.{◌≡◌, length, rules, sym, ◌∙◌, arith}
use Rattle.core_registers.proofs.Laws.{mapped_more, mapped_all}
use Rattle.core_registers.proofs.shown.Goals as goal

pub loop-i-preserved : goal.loop-i-preserved
loop-i-preserved c =
    let l = c.loop-i in
    mapped_more _ l.word-items l.i (omega arith) c.seen.ensures ∙ l.invariant

pub returns : goal.returns
returns c =
    let l = c.loop-i in
    let eight : length l.word-items ≡ 8 = search rules in
    sym (mapped_all _ l.word-items l.i (omega arith)) ∙ l.invariant
