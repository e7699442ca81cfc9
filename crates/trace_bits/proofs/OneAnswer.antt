-- Each function's contract leaves one answer.
use mathlib.Core.Path.{◌≡◌, sym, ◌∙◌}
use Rattle.trace_bits.specs.declared.Packed.{Packed}
use Rattle.rules.specs.OneAnswer.{OneAnswer}
use Rattle.trace_bits.proofs.field as field
use Rattle.trace_bits.proofs.Packed.none as none
use Rattle.trace_bits.proofs.Packed.with as with

same : (p q : Packed) → p.number ≡ q.number → p.bits ≡ q.bits → p ≡ q
same p q n b = λ i. record { number = n i; bits = b i }

pub field_one : OneAnswer 0 field.Kinds.ps field.Kinds.r field.Reads.Learnt
field_one κs a x y e f p q = p ∙ sym q

pub none_one : OneAnswer 0 none.Kinds.ps none.Kinds.r none.Reads.Learnt
none_one κs a x y e f p q = same x y (p.number ∙ sym q.number) (p.bits ∙ sym q.bits)

pub with_one : OneAnswer 0 with.Kinds.ps with.Kinds.r with.Reads.Learnt
with_one κs a x y e f p q = same x y (p.number ∙ sym q.number) (p.bits ∙ sym q.bits)
