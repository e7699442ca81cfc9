use Rattle.std.proofs.Common.{arith}
use Rattle.numbers.proofs.Laws.{store_turn}
use Rattle.numbers.proofs.store.Goals as goal

pub loop-i-preserved : goal.loop-i-preserved
loop-i-preserved c =
    let a = c.args in
    let l = c.loop-i in
    store_turn a.k a.n l.i l.rest l.out _ c.loop-i-test.true (omega arith) (omega arith) l.invariant.0 l.invariant.1
