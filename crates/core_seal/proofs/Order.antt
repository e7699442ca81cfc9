-- Bringing in, by the page's place before and after the seals: which frames are sealed first, and whether the page is then
-- unveiled.
use mathlib.Core.Path.{◌≡◌, refl, ap, ◌∙◌}
use mathlib.Core.List.{List, [], ◌∷◌}
use Prim.Native.Nat.{ℕ}
use mathlib.Core.Bool.{true, false}
use lib.Dec.{eqb}
use Rattle.rules.specs.Records.{Given, Machine, place_of}
use Rattle.rules.specs.Sealing.{Effect, done, seal, seal_all, unveil, sealed_first, bring_in_at, bring_in}
use Rattle.rules.specs.declared.Asid.{Asid}
use Rattle.rules.specs.declared.Gvpn.{Gvpn}
use Rattle.rules.specs.declared.Gppn.{Gppn}
use Rattle.rules.specs.declared.Wear.{Wear}
use Rattle.rules.specs.declared.Place.{Place}
use Rattle.rules.specs.declared.Place.TheVariants.{Public, Clear, Sealed}
use Rattle.core_seal.proofs.Steps.{NotClear}

-- which frames are sealed first
pub first_other : (f : Gppn) (p : Place) → NotClear p → sealed_first f p ≡ f ∷ []
unfolding sealed_first
first_other f Public o = refl
first_other f (Clear h w) o = absurd (o h w refl)
first_other f (Sealed k) o = refl

module _ (f h : Gppn) (w : Wear) {p : Place} (clear : p ≡ Clear h w) where
  pub first_home : eqb h.0 f.0 ≡ true → sealed_first f p ≡ []
  unfolding sealed_first
  first_home e = rw (clear, e)

  pub first_away : eqb h.0 f.0 ≡ false → sealed_first f p ≡ h ∷ f ∷ []
  unfolding sealed_first
  first_away e = rw (clear, e)

-- where `let Place::Sealed(..) = p else` leaves p
abbrev pub NotSealed : Place → Type 0
NotSealed p = (k : ℕ) → p ≡ Sealed k → ⊥

module _ (g : Given) (f : Gppn) (d : Asid) (v : Gvpn) where
  open_at : (p : Place) (m : Machine) → NotSealed p → done m [] ≡ bring_in_at g f d v p m
  unfolding bring_in_at
  open_at Public m o = refl
  open_at (Clear h w) m o = refl
  open_at (Sealed k) m o = absurd (o k refl)

  -- it is not Sealed, it is Clear, or it is Sealed, and is unveiled
  pub brought_open : {n m : Machine} → n ≡ m → NotSealed (place_of g.setup n.tables d v)
      → record { machine = n; number = 0; bytes = [] } ≡ bring_in g f d v m
  unfolding bring_in done
  brought_open {n} e o = open_at (place_of g.setup n.tables d v) n o ∙ ap (bring_in g f d v) e

  pub brought_clear : (h : Gppn) (w : Wear) (m : Machine) → place_of g.setup m.tables d v ≡ Clear h w
      → record { machine = m; number = 0; bytes = [] } ≡ bring_in g f d v m
  unfolding bring_in bring_in_at done
  brought_clear h w m place = rw place

  pub brought_unveiled : (k : ℕ) {n m : Machine} {e : Effect} → n ≡ m → place_of g.setup n.tables d v ≡ Sealed k
      → e ≡ unveil g f d v k n → e ≡ bring_in g f d v m
  unfolding bring_in bring_in_at
  brought_unveiled k {n} q place u = rw (← q, place) u

  -- the seals are none, one or two
  module _ (m : Machine) {first : List Gppn} where
    pub after_none : first ≡ [] → {e : Effect} → e ≡ bring_in g f d v m → e ≡ bring_in g f d v (seal_all g first m)
    unfolding seal_all
    after_none q b = rw q b

    pub after_one : first ≡ f ∷ [] → {e : Effect} → e ≡ bring_in g f d v (seal g f m)
        → e ≡ bring_in g f d v (seal_all g first m)
    unfolding seal_all
    after_one q b = rw q b

    pub after_two : (h : Gppn) {n : Machine} → first ≡ h ∷ f ∷ [] → n ≡ seal g h m → {e : Effect}
        → e ≡ bring_in g f d v (seal g f n) → e ≡ bring_in g f d v (seal_all g first m)
    unfolding seal_all
    after_two h q s b = rw (q, ← s) b
