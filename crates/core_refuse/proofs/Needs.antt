-- Laws of what an event needs of the records: numbers that are within the tables, and the signatures that its seals take.
use Rattle.std.specs.Prelude.{Some}
use mathlib.Core.Path.{◌≡◌, refl}
use mathlib.Core.List.{[], ◌∷◌}
use mathlib.Core.Bool.{Bool, true, false, cond}
use Prim.Native.Nat.{◌+◌, ◌<◌}
use native.Mathlib.Omega.{arith}
use lib.Dec.{eqb}
use Rattle.rules.specs.Records.{domain_of, place_of, names_of, is_clear_in}
use Rattle.rules.specs.Sealing.{sealed_first, takes_at, takes_named, needed}
use Rattle.rules.specs.Events.{own_place, own_frame}
use Rattle.rules.specs.Asked.{Limited, Agreed}
use Rattle.core_tables.proofs.Homes.{home}
use Rattle.rules.specs.declared.Setup.{Setup}
use Rattle.rules.specs.declared.Tables.{Tables}
use Rattle.rules.specs.declared.Asid.{Asid}
use Rattle.rules.specs.declared.Gvpn.{Gvpn}
use Rattle.rules.specs.declared.Gppn.{Gppn}
use Rattle.rules.specs.declared.Ctc.{Ctc}
use Rattle.rules.specs.declared.Wear.{Wear}
use Rattle.rules.specs.declared.Place.{Place}
use Rattle.rules.specs.declared.Place.TheVariants.{Public, Clear, Sealed}

-- the signatures of what is sealed before a page is brought in: none where it is Clear there, else its own where it is
-- Clear elsewhere, and what is Clear in the frame
pub needed_first : (s : Setup) (t : Tables) (f : Gppn) (d : Asid) (v : Gvpn) (p : Place) → place_of s t d v ≡ p
    → ((h : Gppn) (w : Wear) → p ≡ Clear h w → names_of t h ≡ Some (d, v))
    → needed s t (sealed_first f p) ≡ cond (is_clear_in f p) 0 (takes_at p + takes_named s t (names_of t f))
unfolding needed sealed_first takes_at takes_named
needed_first s t f d v Public e named = omega arith
needed_first s t f d v (Sealed k) e named = omega arith
needed_first s t f d v (Clear h w) e named = at (eqb h.0 f.0)
  where
    own : takes_named s t (names_of t h) ≡ takes_at (Clear h w)
    own = rw (named h w refl, e)

    at : (b : Bool)
        → needed s t (cond b [] (h ∷ f ∷ [])) ≡ cond b 0 (takes_at (Clear h w) + takes_named s t (names_of t f))
    at true = refl
    at false = rw own (omega arith)

module _ (s : Setup) (t : Tables) (size : Limited s) (agrees : Agreed s t) (c : Ctc) (v : Gvpn) (known : c.0 < s.contexts)
    (below : v.0 < s.pages) where
  pub own_needed : needed s t (sealed_first (own_frame s t c v) (own_place s t c v))
      ≡ cond (is_clear_in (own_frame s t c v) (own_place s t c v)) 0
      (takes_at (own_place s t c v) + takes_named s t (names_of t (own_frame s t c v)))
  unfolding own_place
  own_needed =
      needed_first s t (own_frame s t c v) (domain_of t c) v (place_of s t (domain_of t c) v) refl
      (λ h w e. (agrees.named (domain_of t c) v h w (home s t size agrees c known) below e).1)
