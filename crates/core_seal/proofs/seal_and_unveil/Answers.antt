-- After the seal the page's place is read again: in the `else` it is not Sealed, and the rule unveils nothing; past it its
-- signature is one of those used, and so one of the setup's.
use mathlib.Core.Path.{◌≡◌, sym, ◌∙◌}
use mathlib.Core.List.{List, []}
use Prim.Native.Nat.{ℕ}
use Rattle.rules.specs.Records.{place_of}
use Rattle.rules.specs.declared.Place.TheVariants.{Sealed}
use Rattle.core_tables.specs.Image.{tables_in}
use Rattle.core_seal.proofs.Steps.{place_read}
use Rattle.core_seal.proofs.Order.{brought_open, brought_unveiled}
use Rattle.core_seal.proofs.Enough.{first_sealable, unveil_asked}
use Rattle.core_seal.proofs.seal_and_unveil.Goals.{In-Sealed}
use Rattle.core_seal.proofs.seal_and_unveil.Goals as goal

abbrev words : In-Sealed → List ℕ
words c = c.seal-sealed.new.tables

sealed : (c : In-Sealed)
    → place_of c.args.setup (tables_in c.args.setup.pages (words c)) c.args.d c.args.v
    ≡ Sealed c.in-Sealed.k
sealed c =
    sym (place_read c.args.setup (words c) _ _ c.page_number-slot.ensures.is
    (c.place_at.ensures c.args.setup.pages))
    ∙ c.in-Sealed.is

pub seal-sealed-requires : goal.seal-sealed-requires
seal-sealed-requires c =
    let h = c.requires in
    first_sealable _ _ _ _ _ _ _ _ _ _ _ h h.reached.frame

pub returns-in_default : goal.returns-in_default
returns-in_default c =
    let one = c.seal-sealed.ensures in
    let a = c.args in
    let read = place_read a.setup c.seal-sealed.new.tables a.d a.v
    c.page_number-slot.ensures.is (c.place_at.ensures a.setup.pages) in
    λ z. record {
      is = brought_open _ _ _ _ (one z).is (rw read at c.in_default.not-Sealed);
      canonical = (one z).canonical;
    }

pub unveil-requires : goal.unveil-requires
unveil-requires c =
    let h = c.requires in
    unveil_asked _ _ _ _ _ _ _ _ _ _ _ h h.reached.frame [] c.seal-sealed.result _ c.seal-sealed.auto.tables
    (c.seal-sealed.ensures []).canonical
    (c.seal-sealed.ensures []).is _ (sealed (goal.at.unveil-requires c).In-Sealed)

pub returns : goal.returns
returns c =
    let one = c.seal-sealed.ensures in
    let two = c.unveil.ensures in
    λ z. record {
      is = brought_unveiled _ _ _ _ _ (one z).is (sealed (goal.at.returns c).In-Sealed) (two z).is;
      canonical = λ h. (two z).canonical ((one z).canonical h);
    }
