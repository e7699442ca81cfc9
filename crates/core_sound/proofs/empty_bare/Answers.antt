use Rattle.std.proofs.Common.{arith}
use Rattle.core_sound.proofs.Telling.{each_none, each_more, each_free, told, counted_zero}
use Rattle.core_sound.proofs.empty_bare.Goals as goal
use Rattle.core_sound.proofs.empty_bare.Goals.{then-tables-d-eq0, else-tables-d-eq0}

pub loop-d-init : goal.loop-d-init
loop-d-init c = each_none _ _

pub loop-d-preserved : goal.loop-d-preserved
loop-d-preserved c =
    let l = c.loop-d in
    elim c.if-tables-d-eq0.branch [
      | then-tables-d-eq0 w ↦
          rw w.any-is
          (each_more _ _ l.d (omega arith) l.invariant (told (λ b z. b) (λ p. p w.if-tables-d-eq0.true) w.domain_bare-any.ensures))
      | else-tables-d-eq0 w ↦ rw w.any-is (each_free l.d (λ z. absurd (w.if-tables-d-eq0.false z)) l.invariant)
    ]

pub returns : goal.returns
returns c = counted_zero (omega arith) c.loop-d.invariant
