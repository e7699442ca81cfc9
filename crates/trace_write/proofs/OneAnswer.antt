-- Each public function's contract leaves one answer: one number, one count and one output.
use mathlib.Core.Path.{sym, ◌∙◌}
use Rattle.rules.specs.OneAnswer.{OneSight}
use Rattle.trace_write.specs.Writing.{Written, left}
use Rattle.trace_write.proofs.write_header as write-header
use Rattle.trace_write.proofs.write_record as write-record

pub write_header_one : OneSight 2 write-header.Kinds.ps write-header.Kinds.r write-header.Reads.Learnt Written
    (λ κs x e. left x e.1.1.0.now)
write_header_one κs a x y e f p q = p ∙ sym q

pub write_record_one : OneSight 2 write-record.Kinds.ps write-record.Kinds.r write-record.Reads.Learnt Written
    (λ κs x e. left x e.1.1.0.now)
write_record_one κs a x y e f p q = p ∙ sym q
