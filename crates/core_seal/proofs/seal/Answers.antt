-- Where the frame's word is 0 it names no page, and where its page is not Clear nothing is sealed either: all is left as it was, and so
-- does the rule. Else there is a signature for the page; the bytes and the words left are those of `seal_clear`.
use mathlib.Core.Path.{◌≡◌, sym, ◌∙◌}
use mathlib.Core.List.{List}
use Prim.Native.Nat.{ℕ, ◌-◌, ◌*◌, ◌<◌}
use native.Mathlib.Omega.{arith}
use native.Mathlib.Nat.{mul-le-mul}
use lib.ListN.{get_or}
use Rattle.rules.specs.Records.{public_page, names_of, place_of}
use Rattle.rules.specs.Sealing.{sealed_with}
use Rattle.rules.specs.declared.Setup.{Setup}
use Rattle.rules.specs.declared.Gppn.{Gppn}
use Rattle.rules.specs.declared.Wear.{Wear}
use Rattle.rules.specs.declared.Place.{Place}
use Rattle.rules.specs.declared.Place.TheVariants.{Clear}
use Rattle.rules.proofs.PageNumbers.{number_in}
use Rattle.core_tables.specs.Words.{names_word, PlaceFits, NamesFit, sign_word}
use Rattle.core_tables.specs.Image.{max_entries, tables_in}
use Rattle.core_tables.proofs.Slots.{Slot, slot_none, slot_some}
use Rattle.core_seal.specs.declared.Work.{Work}
use Rattle.core_seal.specs.Asked.{Sealable}
use Rattle.core_seal.proofs.Fits.{all_fit}
use Rattle.core_seal.proofs.Steps.{place_read, seal_unnamed, seal_named_holds, seal_none, seal_clear}
use Rattle.core_seal.proofs.seal.Goals as goal

-- of a frame whose word is w, and not 0: the page that it names
module _ (s : Setup) (work : Work) {x frames store supply : List ℕ} (f : Gppn) (h : Sealable s work x frames store supply f)
    {w : ℕ} (is : w ≡ names_word s.pages (names_of (tables_in s.pages x) f)) (some : w ≡ 0 → ⊥) where
  named : Slot s (names_of (tables_in s.pages x) f) (w - 1)
  named = slot_some s _ (w - 1) (sym is ∙ omega arith)

  few : w - 1 < s.domains * s.pages
  few =
      let n = named in
      omega (
        arith,
        n.number,
        number_in s n.domain n.page (h.ready.page n.domain n.page n.names) (h.ready.domain n.domain n.page n.names),
      )

  listed : w - 1 < max_entries
  listed = let l = h.limited in omega (arith, few, mul-le-mul l.domains l.pages)

  -- where its place was read, and is Clear, there is a signature to seal it with
  module _ {p : Place} {home : Gppn} {wear : Wear} (read : p ≡ (get_or (tables_in s.pages x).pages (w - 1) public_page).place)
      (clear : p ≡ Clear home wear) where
    placed_clear : place_of s (tables_in s.pages x) named.domain named.page ≡ Clear home wear
    placed_clear = sym (place_read s x _ _ named.number read) ∙ clear

    enough : sealed_with (tables_in s.pages x).used wear < s.signatures
    enough = h.ready.signature _ _ _ _ named.names placed_clear

    signed : {used k : ℕ} → used ≡ (tables_in s.pages x).used → k ≡ sealed_with used wear → k < s.signatures
    signed eu ek = rw (ek, eu) enough

pub returns-then-named-eq0 : goal.returns-then-named-eq0
returns-then-named-eq0 c =
    λ z. record {
      is = seal_unnamed _ _ _ (slot_none c.args.setup.pages _
          (sym (c.slot_at-named.ensures c.args.setup.pages c.requires.lent.canonical) ∙ c.if-named-eq0.true));
      canonical = λ h. h;
    }

pub place_at-requires : goal.place_at-requires
place_at-requires c =
    let v = c.args.setup.pages in
    let h = c.requires in
    let w = c.slot_at-named.ensures v h.lent.canonical in
    let some = c.if-named-eq0.false in
    (h.lent.words_long, listed _ _ _ h w some)

pub returns-in_default : goal.returns-in_default
returns-in_default c =
    let a = c.args in
    let v = a.setup.pages in
    let h = c.requires in
    let w = c.slot_at-named.ensures v h.lent.canonical in
    let some = c.if-named-eq0.false in
    let n = named _ _ _ h w some in
    let not-clear = rw (place_read a.setup a.tables.now _ _ n.number (c.place_at.ensures v)) at c.in_default.not-Clear in
    λ z. record { is = seal_named_holds _ _ _ _ _ n.names (seal_none _ _ _ _ _ _ not-clear); canonical = λ m. m }

pub seal_bytes-requires : goal.seal_bytes-requires
seal_bytes-requires c =
    let v = c.args.setup.pages in
    let h = c.requires in
    let w = c.slot_at-named.ensures v h.lent.canonical in
    let some = c.if-named-eq0.false in
    let k = signed _ _ _ h w some (c.place_at.ensures v) c.in-Clear.is (c.used_at-used.ensures v) c.sealed_with-k.ensures in
    all_fit _ h.lent h.frame (few _ _ _ h w some) k

pub put_move-requires : goal.put_move-requires
unfolding PlaceFits NamesFit sign_word
put_move-requires c =
    let v = c.args.setup.pages in
    let h = c.requires in
    let w = c.slot_at-named.ensures v h.lent.canonical in
    let some = c.if-named-eq0.false in
    let k = signed _ _ _ h w some (c.place_at.ensures v) c.in-Clear.is (c.used_at-used.ensures v) c.sealed_with-k.ensures in (
      h.lent.words_long,
      h.lent.some_pages,
      h.limited.pages,
      listed _ _ _ h w some,
      omega (arith, h.frame, h.limited.frames),
      omega (arith, k, h.limited.signatures),
      tt,
    )

pub used_after-requires : goal.used_after-requires
used_after-requires c =
    let v = c.args.setup.pages in
    let h = c.requires in
    let w = c.slot_at-named.ensures v h.lent.canonical in
    let some = c.if-named-eq0.false in
    rw (c.used_at-used.ensures v)
    (omega (arith, enough _ _ _ h w some (c.place_at.ensures v) c.in-Clear.is, h.limited.signatures))

pub returns : goal.returns
returns c =
    let v = c.args.setup.pages in
    let h = c.requires in
    let w = c.slot_at-named.ensures v h.lent.canonical in
    let some = c.if-named-eq0.false in
    let n = named _ _ _ h w some in
    let clear = placed_clear _ _ _ h w some (c.place_at.ensures v) c.in-Clear.is in
    let used = c.used_at-used.ensures v in
    let bytes = c.seal_bytes.ensures in
    let moved = c.put_move.ensures in
    let counted = c.put_used.ensures v in
    λ z. record {
      is =
          seal_named_holds _ _ _ _ _ n.names
          (seal_clear _ _ _ _ _ c.args.work _ _ _ z _ _ n.number clear
          (rw used at c.sealed_with-k.ensures)
          bytes.frames_left
          bytes.store_left
          (rw used at c.used_after.ensures)
          moved
          counted);
      canonical = λ m. counted.canonical (moved.canonical m);
    }
