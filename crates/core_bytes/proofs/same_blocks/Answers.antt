use Rattle.std.proofs.Common.{rules, ◌≡◌, ◌/◌, length, take, sym, ap, ap₂, ◌∙◌, arith}
use lib.Seq.{take_all}
use Rattle.rules.specs.Bytes.{same_bytes}
use Rattle.core_bytes.proofs.Compare.{joined_all, block_same, block_differs}
use Rattle.core_bytes.proofs.same_blocks.Goals as goal

pub loop-p-init : goal.loop-p-init
loop-p-init g c =
    let a = c.args.a.now in
    let b = c.args.b.now in
    let xs = c.as_chunks.ensures in
    let ys = c.as_chunks-2.ensures in
    let left = c.into_iter-p-iterator.result in
    let of_a : left.a.rest.now ≡ c.as_chunks.result.0.now = cc in
    let of_b : left.b.rest.now ≡ c.as_chunks-2.result.0.now = cc in
    let long_a : length c.as_chunks.result.0.now ≡ length a / g.row.N = xs.front_len in
    let long_b : length c.as_chunks-2.result.0.now ≡ length (take (length a) b) / g.row.N = ys.front_len in
    let cut : take (length a) b ≡ b = take_all (length a) b (omega arith) in (
      ap length of_a ∙ long_a ∙ ap (λ n. n / g.row.N) (omega (arith, ap length cut)) ∙ sym (ap length of_b ∙ long_b),
      ap₂ same_bytes (joined_all _ _ a (of_a ∙ xs.front) xs.back)
          (joined_all _ _ (take (length a) b) (of_b ∙ ys.front) ys.back ∙ cut),
    )

pub returns-then-differing-ne0 : goal.returns-then-differing-ne0
returns-then-differing-ne0 g c =
    let step = c.in-Some.ensures.steps in
    block_differs c.differing.result _ _ step.0 step.1 c.differing.ensures (search rules) c.if-differing-ne0.true ∙ c.loop-p.invariant.1

pub loop-p-preserved : goal.loop-p-preserved
loop-p-preserved g c =
    let step = c.in-Some.ensures.steps in
    let inv = c.loop-p.invariant in (
      omega (arith, ap length step.0, ap length step.1),
      block_same c.differing.result _ _ step.0 step.1 c.differing.ensures (search rules) c.if-differing-ne0.false ∙ inv.1,
    )
