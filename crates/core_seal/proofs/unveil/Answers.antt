-- By what comparing the frame with the signature came to.
use native.Mathlib.Omega.{arith}
use Rattle.core_tables.specs.Words.{PlaceFits, NamesFit, sign_word}
use Rattle.core_seal.proofs.Fits.{all_fit}
use Rattle.core_seal.proofs.Steps.{unveil_done, unveil_failed}
use Rattle.core_seal.proofs.unveil.Goals as goal

pub unveil_bytes-requires : goal.unveil_bytes-requires
unveil_bytes-requires c =
    let h = c.requires in
    all_fit _ h.0.lent h.0.frame c.page_number-slot.ensures.slot h.1

pub put_move-requires : goal.put_move-requires
unfolding PlaceFits NamesFit sign_word
put_move-requires c =
    let h = c.requires in (
      h.0.lent.words_long,
      h.0.lent.some_pages,
      h.0.limited.pages,
      c.page_number-slot.ensures.listed,
      omega (arith, h.0.frame, h.0.limited.frames),
      omega (arith, h.1, h.0.limited.signatures),
      h.0.page,
    )

pub returns-then-not-unveil_bytes : goal.returns-then-not-unveil_bytes
returns-then-not-unveil_bytes c =
    let bytes = c.unveil_bytes.ensures in
    let marked = c.put_life.ensures c.args.setup.pages in
    λ z. record {
      is =
          unveil_failed _ _ _ _ _ c.args.work _ _ _ z _ c.page_number-slot.ensures.is
          bytes.compared bytes.frames_left
          c.if-not-unveil_bytes.true
          marked;
      canonical = marked.canonical;
    }

pub returns : goal.returns
returns c =
    let bytes = c.unveil_bytes.ensures in
    let moved = c.put_move.ensures in
    λ z. record {
      is =
          unveil_done _ _ _ _ _ c.args.work _ _ _ z _ c.page_number-slot.ensures.is
          bytes.compared bytes.frames_left
          c.if-not-unveil_bytes.false
          moved;
      canonical = moved.canonical;
    }
