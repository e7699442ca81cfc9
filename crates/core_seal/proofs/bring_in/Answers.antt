-- By the page's place: in the `else` it is not Clear, and only what is Clear in its frame is sealed; at home, nothing is; and
-- elsewhere it is sealed first, after which what the second seal asks still holds.
use mathlib.Core.Path.{◌≡◌, refl, sym, ◌∙◌}
use mathlib.Core.List.{List, [], ◌∷◌}
use Prim.Native.Nat.{ℕ, ◌<◌}
use Rattle.std.proofs.lemmas.Bool.{eqb-false}
use Rattle.rules.specs.Records.{place_of}
use Rattle.rules.specs.Sealing.{sealed_first}
use Rattle.rules.specs.declared.Setup.{Setup}
use Rattle.rules.specs.declared.Asid.{Asid}
use Rattle.rules.specs.declared.Gvpn.{Gvpn}
use Rattle.rules.specs.declared.Gppn.{Gppn}
use Rattle.rules.specs.declared.Place.{Place}
use Rattle.rules.specs.declared.Place.TheVariants.{Clear}
use Rattle.core_tables.specs.Image.{tables_in}
use Rattle.core_seal.proofs.Steps.{place_read}
use Rattle.core_seal.proofs.Order.{first_other, first_home, first_away, brought_clear, after_none, after_one, after_two}
use Rattle.core_seal.proofs.Enough.{first_sealable, next_asked}
use Rattle.core_seal.proofs.bring_in.Goals.{Else-eq, In_default}
use Rattle.core_seal.proofs.bring_in.Goals as goal

abbrev placed : Setup → List ℕ → Asid → Gvpn → Place
placed s x d v = place_of s (tables_in s.pages x) d v

other : (c : In_default) → sealed_first c.args.f (placed c.args.setup c.args.tables.now c.args.d c.args.v) ≡ c.args.f ∷ []
other c =
    let a = c.args in
    first_other _ _
    (rw (place_read a.setup a.tables.now a.d a.v c.page_number-slot.ensures.is
    (c.place_at.ensures a.setup.pages)) at c.in_default.not-Clear)

abbrev home : Else-eq → Gppn
home c = c.in-Clear.home

clear : (c : Else-eq) → placed c.args.setup c.args.tables.now c.args.d c.args.v ≡ Clear (home c) c.in-Clear.field-1
clear c =
    let a = c.args in
    sym (place_read a.setup a.tables.now a.d a.v c.page_number-slot.ensures.is
    (c.place_at.ensures a.setup.pages))
    ∙ c.in-Clear.is

away : (c : Else-eq) → sealed_first c.args.f (placed c.args.setup c.args.tables.now c.args.d c.args.v) ≡ home c ∷ c.args.f ∷ []
away c = first_away _ _ _ (clear c) (sym c.eq.ensures ∙ c.if-eq.false)

home-inside : (c : Else-eq) → (home c).0 < c.args.setup.frames
home-inside c =
    let h = c.requires in
    h.matched.held _ _ _ _ h.reached.domain h.reached.page (clear c)

pub seal_and_unveil-requires : goal.seal_and_unveil-requires
seal_and_unveil-requires c = rw (other (goal.at.seal_and_unveil-requires c).In_default) at c.requires

pub returns-in_default : goal.returns-in_default
returns-in_default c =
    let done = c.seal_and_unveil.ensures in
    λ z. record { is = after_one _ _ _ _ _ (other (goal.at.returns-in_default c).In_default) (done z).is; canonical = (done z).canonical }

pub returns-then-eq : goal.returns-then-eq
returns-then-eq c =
    let a = c.args in
    let clear = sym (place_read a.setup a.tables.now a.d a.v c.page_number-slot.ensures.is
    (c.place_at.ensures a.setup.pages)) ∙ c.in-Clear.is in
    λ z. record {
      is = after_none _ _ _ _ _ (first_home _ _ _ clear (sym c.eq.ensures ∙ c.if-eq.true)) (brought_clear _ _ _ _ _ _ _ clear);
      canonical = λ h. h;
    }

pub seal-sealed-requires : goal.seal-sealed-requires
seal-sealed-requires c =
    let e = (goal.at.seal-sealed-requires c).Else-eq in
    first_sealable _ _ _ _ _ _ _ _ _ _ _ (rw (away e) at c.requires)
    (home-inside e)

pub seal_and_unveil-requires-2 : goal.seal_and_unveil-requires-2
seal_and_unveil-requires-2 c =
    let e = (goal.at.seal_and_unveil-requires-2 c).Else-eq in
    next_asked _ _ _ _ _ _ _ _ _ _ _ (rw (away e) at c.requires)
    (home-inside e) [] c.seal-sealed.result _
    c.seal-sealed.auto.tables (c.seal-sealed.ensures []).canonical
    (c.seal-sealed.ensures []).is
    refl
    (λ e. eqb-false _ _ (sym c.eq.ensures ∙ c.if-eq.false) (sym e))

pub returns : goal.returns
returns c =
    let one = c.seal-sealed.ensures in
    let two = c.seal_and_unveil-2.ensures in
    λ z. record {
      is = after_two _ _ _ _ _ _ (away (goal.at.returns c).Else-eq) (one z).is (two z).is;
      canonical = λ h. (two z).canonical ((one z).canonical h);
    }
