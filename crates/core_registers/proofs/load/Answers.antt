use Rattle.std.proofs.Common.{arith}
use native.Mathlib.Nat.{add-sub_cancel_left}
use native.Mathlib.Numerals.{add-one}
use lib.Seq.{take-suc-set}
use Rattle.core_registers.proofs.Laws.{words_more}
use Rattle.core_registers.proofs.load.Goals as goal

pub loop-i-preserved : goal.loop-i-preserved
loop-i-preserved c =
    let l = c.loop-i in
    rw (
      add-one l.i,
      take-suc-set l.register-items l.i c.word.result (omega arith),
      words_more l.i,
      l.invariant,
      c.word.ensures,
      add-sub_cancel_left,
    )
