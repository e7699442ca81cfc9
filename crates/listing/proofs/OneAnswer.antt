-- Document 01, "What the promises have to say": each public function's promise leaves one answer, and one set of words
-- and bytes. Stated over what the checker itself reads of the function's `ensures`.
use Rattle.std.proofs.Common.{ℕ, List, [], sym, ap, ◌∙◌}
use Rattle.rules.specs.OneAnswer.{OneAnswer, OneSight}
use Rattle.listing.specs.Listing.{Point, point}
use Rattle.listing.specs.Filling.{Fills, Wrote, left}
use Rattle.listing.proofs.opening as opening
use Rattle.listing.proofs.refusal as refusal
use Rattle.listing.proofs.start as start
use Rattle.listing.proofs.fill as fill

abbrev wrote_as : ℕ → List ℕ → Wrote
wrote_as count out = record { count = count; out = out }

-- what is told of a point and of a filled output, but for the trace, which no call changes
abbrev told : Point → Point
told p = point [] p.run p.tables p.saved p.frames p.store p.buffer

abbrev told_fills : Fills → Fills
told_fills f = record { count = f.count; end = told f.end; out = f.out }

pub opening_one : OneAnswer 1 opening.Kinds.ps opening.Kinds.r opening.Reads.Learnt
opening_one κs a x y e f p q = p ∙ sym q

pub refusal_one : OneSight 1 refusal.Kinds.ps refusal.Kinds.r refusal.Reads.Learnt Wrote (λ κs x e. wrote_as x e.1.0.now)
refusal_one κs a x y e f p q = p.0 ∙ sym q.0

pub start_one : OneSight 5 start.Kinds.ps start.Kinds.r start.Reads.Learnt Point
    (λ κs x e.
    let lent = e.1.1.1 in
    point [] x lent.0.now lent.1.0.now lent.1.1.0.now lent.1.1.1.0.now [])
start_one κs a x y e f p q = ap told (p ∙ sym q)

pub fill_one : OneSight 7 fill.Kinds.ps fill.Kinds.r fill.Reads.Learnt Fills
    (λ κs x e.
    let lent = e.1.1 in
    let bytes = lent.1.1 in
    left x [] lent.0.now lent.1.0.now bytes.0.now bytes.1.0.now bytes.1.1.0.now
    bytes.1.1.1.0.now)
fill_one κs a x y e f p q = ap told_fills (p.0 ∙ sym q.0)
