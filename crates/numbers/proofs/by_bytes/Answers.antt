use Rattle.std.proofs.Common.{take}
use native.Mathlib.Numerals.{add-one}
use Rattle.rules.proofs.BigEndian.{below_more, bytes_take}
use Rattle.numbers.proofs.Laws.{load_turn}
use Rattle.numbers.proofs.by_bytes.Goals as goal

pub loop-b-preserved : goal.loop-b-preserved
loop-b-preserved c =
    let a = c.args in
    let l = c.loop-b in (
      load_turn (take a.k a.bytes.now) l.b-index l.n c.loop-b-test.true l.invariant.0,
      rw (add-one l.b-index)
          (below_more l.b-index l.invariant.1 (bytes_take a.k a.bytes.now (λ i. (c.type_inv.bytes i).fits) l.b-index)),
    )
