-- `numbers::load` meets its contract: shifting out the bytes behind the k leaves the number of the k.
use Rattle.std.proofs.Common.{◌≡◌, ◌≤◌, ℕ, ◌-◌, ◌*◌, ◌/◌, ◌^◌, length, take, ap, ◌∙◌, length-take, arith}
use Rattle.rules.specs.Bytes.{number}
use Rattle.numbers.proofs.Laws.{eight_bytes, load_front}
use Rattle.numbers.proofs.load.Goals as goal

pub returns-in-Some : goal.returns-in-Some
returns-in-Some c =
    let a = c.args in
    let first = c.in-Some.ensures.cases in
    let enough : 8 ≤ length a.bytes.now = first.enough in
    let eight : c.in-Some.eight.now ≡ take 8 a.bytes.now = first.same in
    let long : length c.in-Some.eight.now ≡ 8 = rw (eight, length-take) (omega arith) in
    ap (λ (x : ℕ). x / 2 ^ (64 - 8 * a.k)) (c.from_be_bytes.ensures ∙ eight_bytes c.in-Some.eight.now long ∙ ap number eight)
    ∙ load_front a.bytes.now a.k c.requires.1 enough (λ i. (c.type_inv.bytes i).fits)
