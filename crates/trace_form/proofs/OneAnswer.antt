-- Each public function's contract leaves one answer: it is an equation for the result.
use mathlib.Core.Path.{sym, ◌∙◌}
use Rattle.rules.specs.OneAnswer.{OneAnswer}
use Rattle.trace_form.proofs.Form.widths as widths
use Rattle.trace_form.proofs.Form.head as head
use Rattle.trace_form.proofs.Fields.of as fields
use Rattle.trace_form.proofs.event_of as event-of
use Rattle.trace_form.proofs.Head.padding_in as padding-in
use Rattle.trace_form.proofs.Head.fields_in as fields_in
use Rattle.trace_form.proofs.Head.packed as packed

pub widths_one : OneAnswer 0 widths.Kinds.ps widths.Kinds.r widths.Reads.Learnt
widths_one κs a x y e f p q = p ∙ sym q

pub head_one : OneAnswer 0 head.Kinds.ps head.Kinds.r head.Reads.Learnt
head_one κs a x y e f p q = p ∙ sym q

pub fields_one : OneAnswer 0 fields.Kinds.ps fields.Kinds.r fields.Reads.Learnt
fields_one κs a x y e f p q = p ∙ sym q

pub event_of_one : OneAnswer 0 event-of.Kinds.ps event-of.Kinds.r event-of.Reads.Learnt
event_of_one κs a x y e f p q = p ∙ sym q

pub padding_in_one : OneAnswer 0 padding-in.Kinds.ps padding-in.Kinds.r padding-in.Reads.Learnt
padding_in_one κs a x y e f p q = p ∙ sym q

pub fields_in_one : OneAnswer 0 fields_in.Kinds.ps fields_in.Kinds.r fields_in.Reads.Learnt
fields_in_one κs a x y e f p q = p ∙ sym q

pub packed_one : OneAnswer 0 packed.Kinds.ps packed.Kinds.r packed.Reads.Learnt
packed_one κs a x y e f p q = p ∙ sym q
