-- What the steps of a seal and of an unveiling leave is what the rules say: each law takes what the calls of a function
-- ensure, and gives the function's own equation.
use Rattle.std.specs.Prelude.{Option, Some, None}
use mathlib.Core.Path.{◌≡◌, refl, sym, ap, ◌∙◌}
use mathlib.Core.Bool.{Bool, true, false, cond}
use mathlib.Core.List.{List}
use Rattle.std.specs.Prelude.{Ok, Err}
use Prim.Native.Nat.{ℕ, ◌+◌}
use lib.ListN.{get_or}
use Rattle.rules.specs.Bytes.{part, with_part, same_bytes}
use Rattle.rules.specs.Sizes.{page_number}
use Rattle.rules.specs.Records.{Given, Machine, given, public_page, place_of, names_of}
use Rattle.rules.specs.Sealing.{sealed_with, takes, signature, sealed_tables, seal_page, seal_at, seal_named, seal, unveiled_tables}
use Rattle.rules.specs.Sealing.{unveiled, unveil, done, failed}
use Rattle.rules.specs.declared.Setup.{Setup}
use Rattle.rules.specs.declared.Registers.{Registers}
use Rattle.rules.specs.declared.Asid.{Asid}
use Rattle.rules.specs.declared.Gvpn.{Gvpn}
use Rattle.rules.specs.declared.Gppn.{Gppn}
use Rattle.rules.specs.declared.Wear.{Wear}
use Rattle.rules.specs.declared.Wear.TheVariants.{Clean}
use Rattle.rules.specs.declared.Life.TheVariants.{Stopped}
use Rattle.rules.specs.declared.Place.{Place}
use Rattle.rules.specs.declared.Place.TheVariants.{Public, Clear, Sealed}
use Rattle.core_tables.specs.Image.{tables_in}
use Rattle.core_tables.specs.Put.{Put, set_page, set_names, set_life, set_used}
use Rattle.core_seal.specs.Under.{during, effect}
use Rattle.core_seal.specs.declared.Work.{Work}

-- the place that was read by a page's number
pub place_read : (s : Setup) (x : List ℕ) (d : Asid) (v : Gvpn) {slot : ℕ} {p : Place} → slot ≡ page_number s d v
    → p ≡ (get_or (tables_in s.pages x).pages slot public_page).place → p ≡ place_of s (tables_in s.pages x) d v
place_read s x d v es er = er ∙ ap (λ (n : ℕ). (get_or (tables_in s.pages x).pages n public_page).place) es

-- by what the frame names
module _ (g : Given) (f : Gppn) (m : Machine) where
  pub seal_unnamed : names_of m.tables f ≡ None → m ≡ seal g f m
  unfolding seal seal_named
  seal_unnamed e = rw e

  pub seal_named_holds : (d : Asid) (v : Gvpn) {n : Machine} → names_of m.tables f ≡ Some (d, v)
      → n ≡ seal_at g f d v (place_of g.setup m.tables d v) m → n ≡ seal g f m
  unfolding seal seal_named
  seal_named_holds d v e sealed = rw e sealed

-- where `let Place::Clear(..) = p else` leaves p
abbrev pub NotClear : Place → Type 0
NotClear p = (h : Gppn) (w : Wear) → p ≡ Clear h w → ⊥

pub seal_none : (g : Given) (f : Gppn) (d : Asid) (v : Gvpn) (p : Place) (m : Machine) → NotClear p
    → m ≡ seal_at g f d v p m
unfolding seal_at
seal_none g f d v Public m o = refl
seal_none g f d v (Clear h w) m o = absurd (o h w refl)
seal_none g f d v (Sealed k) m o = refl

module _ (s : Setup) (supply x frames store : List ℕ) (work : Work) (f : Gppn) (d : Asid) (v : Gvpn) (saved : List Registers) where
  -- the mapping of the record that stands at a slot
  abbrev mapping_at : ℕ → Option Gppn
  mapping_at slot = (get_or (tables_in s.pages x).pages slot public_page).mapping

  pub seal_clear : (h : Gppn) (w : Wear) {slot k used : ℕ} {y z frames' store' : List ℕ}
      → slot ≡ page_number s d v → place_of s (tables_in s.pages x) d v ≡ Clear h w
      → k ≡ sealed_with (tables_in s.pages x).used w
      → frames' ≡ with_part s.size f.0 (part s.size k supply) frames
      → store' ≡ with_part s.size slot (part s.size f.0 frames) store
      → used ≡ (tables_in s.pages x).used + takes w
      → Put s.pages x y (set_names f.0 None
      (set_page slot (record { mapping = mapping_at slot; place = Sealed k }) (tables_in s.pages x)))
      → Put s.pages y z (set_used used (tables_in s.pages y))
      → during s (record { seals = work.seals + 1; unveils = work.unveils }) saved z frames' store'
      ≡ seal_at (given s supply) f d v (place_of s (tables_in s.pages x) d v) (during s work saved x frames store)
  unfolding seal_at seal_page sealed_tables signature
  seal_clear h w es place ek ef et eu p q = rw (q.tables, p.tables, place, ef, et, eu, ek, es)

  module _ (k : ℕ) {slot : ℕ} {b : Bool} {frames' : List ℕ} (es : slot ≡ page_number s d v)
      (eb : b ≡ same_bytes (part s.size f.0 frames) (part s.size k supply))
      (ef : frames' ≡ cond b (with_part s.size f.0 (part s.size slot store) frames) frames) where
    pub unveil_done : {y : List ℕ} → b ≡ true
        → Put s.pages x y (set_names f.0 (Some (d, v))
        (set_page slot (record { mapping = mapping_at slot; place = Clear f (Clean k) }) (tables_in s.pages x)))
        → effect s (Ok (record { seals = work.seals; unveils = work.unveils + 1 })) saved y frames' store
        ≡ unveil (given s supply) f d v k (during s work saved x frames store)
    unfolding unveil unveiled unveiled_tables signature done
    unveil_done e p = rw (p.tables, ef, es, sym eb ∙ e, e)

    pub unveil_failed : {y : List ℕ} → b ≡ false → Put s.pages x y (set_life d.0 Stopped (tables_in s.pages x))
        → effect s (Err (record { 0 = work })) saved y frames' store
        ≡ unveil (given s supply) f d v k (during s work saved x frames store)
    unfolding unveil signature failed
    unveil_failed e p = rw (p.tables, ef, sym eb ∙ e, e)
