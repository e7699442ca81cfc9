-- Words out of range are refused before any is used as an index, and the rest is told by the pages and by the Empty domains.
use Rattle.std.proofs.Common.{arith}
use Rattle.core_sound.proofs.Room.{room}
use Rattle.core_sound.proofs.Telling.{both, right_of, early_of, late_of}
use Rattle.core_sound.proofs.Meaning.{right_image, image_right, answer, refused}
use Rattle.core_sound.proofs.sound.Goals as goal

pub returns-then-early-ne0 : goal.returns-then-early-ne0
returns-then-early-ne0 c =
    let r = room _ c.requires.1 in
    λ y. refused _ _ c.early.ensures c.if-early-ne0.true (λ t. early_of _ _ (image_right _ _ y r c.requires.0 t))

pub overflow_mul-all : goal.overflow_mul-all
overflow_mul-all c = let r = room _ c.requires.1 in omega arith

pub late-late-requires : goal.late-late-requires
late-late-requires c =
    let r = room _ c.requires.1 in
    (c.requires.0, r.frames, r.all, (c.early.ensures.holds c.if-early-ne0.false).frames.below)

pub empty_bare-empty-requires : goal.empty_bare-empty-requires
empty_bare-empty-requires c =
    let r = room _ c.requires.1 in
    (c.requires.0, r.pages, r.domains)

pub returns : goal.returns
returns c =
    let r = room _ c.requires.1 in
    let early = c.early.ensures.holds c.if-early-ne0.false in
    λ y. answer _ _ (both c.late-late.ensures c.empty_bare-empty.ensures)
    (λ p. right_image _ _ y r c.requires.0 (right_of _ _ early p.0 p.1))
    (λ t. let q = image_right _ _ y r c.requires.0 t in (late_of _ _ q, q.empty))
