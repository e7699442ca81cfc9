use Rattle.std.proofs.Common.{◌∙◌}
use Rattle.core_bytes.proofs.Compare.{front_same, front_differs}
use Rattle.core_bytes.proofs.same_few.Goals as goal

pub returns-else-same_blocks : goal.returns-else-same_blocks
returns-else-same_blocks c =
    let x = c.split_at.ensures in
    let y = c.split_at-2.ensures in
    front_differs _ _ _ c.requires x.front x.back y.front y.back c.same_blocks.ensures c.if-same_blocks.false

pub returns-else-is_empty : goal.returns-else-is_empty
returns-else-is_empty c =
    let x = c.split_at.ensures in
    let y = c.split_at-2.ensures in
    c.same_blocks-else-is_empty.ensures
    ∙ front_same _ _ _ c.requires x.front x.back y.front y.back c.same_blocks.ensures c.if-same_blocks.true
