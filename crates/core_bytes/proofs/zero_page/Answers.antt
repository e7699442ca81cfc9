use Rattle.std.proofs.Common.{◌≡◌, length, ap, ◌∙◌, arith}
use Rattle.rules.specs.Bytes.{part, zeros}
use Rattle.rules.proofs.Parts.{length_part, length_zeros}
use Rattle.core_bytes.proofs.Lent.{mid_part, put_part}
use Rattle.core_bytes.proofs.zero_page.Goals as goal

pub returns : goal.returns
returns c =
    let a = c.args in
    let long : length (part a.size a.k a.bytes.now) ≡ a.size = length_part _ _ _ (omega arith) in
    put_part _ _ _ _ (c.zero.ensures ∙ ap zeros (ap length (mid_part a.size a.k _) ∙ long))
    (length_zeros _) (omega arith)
