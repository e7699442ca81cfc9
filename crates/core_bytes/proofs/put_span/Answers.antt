use Rattle.std.proofs.Common.{ap, ◌∙◌, arith}
use Rattle.rules.specs.Bytes.{overlay}
use Rattle.rules.proofs.Parts.{length_part, length_overlay}
use Rattle.core_bytes.proofs.Lent.{mid_part, put_part}
use Rattle.core_bytes.proofs.put_span.Goals as goal

pub returns : goal.returns
returns c =
    let a = c.args in
    put_part _ _ _ _
    (c.put.ensures ∙ ap (overlay a.off a.new.now) (mid_part a.size a.k _))
    (length_overlay _ _ _ ∙ length_part _ _ _ (omega arith)) (omega arith)
