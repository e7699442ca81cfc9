use Rattle.std.proofs.Common.{◌≡◌, length, rules, arith}
use Rattle.core_registers.proofs.Laws.{give_all, give_more}
use Rattle.core_registers.proofs.give.Goals as goal

pub loop-i-preserved : goal.loop-i-preserved
loop-i-preserved c =
    let a = c.args in
    let l = c.loop-i in
    give_more a.registers.words a.answer.now l.i (omega arith) l.answer _ l.invariant c.store.ensures

pub returns : goal.returns
returns c =
    let a = c.args in
    let l = c.loop-i in
    let eight : length a.registers.words ≡ 8 = search rules in
    give_all a.registers.words a.answer.now l.answer l.i (omega arith) (omega arith) l.invariant
