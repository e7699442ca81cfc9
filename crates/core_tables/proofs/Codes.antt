-- Each record whose numbers fit decodes from its words, and the words that are in range are the one coding of what they
-- decode to.
use Rattle.std.specs.Prelude.{Some, None}
use mathlib.Core.Path.{◌≡◌, refl, ap}
use mathlib.Core.Bool.{cond}
use Prim.Native.Nat.{ℕ, ◌+◌, ◌*◌, ◌-◌, ◌/◌, ◌%◌, ◌<◌}
use native.Mathlib.Omega.{arith}
use lib.Arith.{digits_div, digits_mod}
use lib.Dec.{eqb}
use borrow.Author.Tests.{ne_eqb}
use Rattle.rules.specs.declared.Asid.{Asid}
use Rattle.rules.specs.declared.Gvpn.{Gvpn}
use Rattle.rules.specs.declared.Gppn.{Gppn}
use Rattle.rules.specs.declared.Life.TheVariants.{Empty, Live, Stopped}
use Rattle.rules.specs.declared.TrapKind.TheVariants.{Interrupt, Call}
use Rattle.rules.specs.declared.Activity.TheVariants.{Free, Running, Kept}
use Rattle.rules.specs.declared.Wear.{Wear}
use Rattle.rules.specs.declared.Wear.TheVariants.{Dirty, Clean}
use Rattle.rules.specs.declared.Place.{Place}
use Rattle.rules.specs.declared.Place.TheVariants.{Public, Clear, Sealed}
use Rattle.core_tables.specs.Words.{life_in, life_word, activity_as, activity_in, activity_word, names_in, names_word, mapping_in}
use Rattle.core_tables.specs.Words.{mapping_word, wear_in, hidden_in, place_in, home_word, sign_word, LifeCode, ActivityCode}
use Rattle.core_tables.specs.Words.{NamesCode, MappingCode, PlaceCode, Housed}

-- a word that is not 0
some : {A : Type 0} (n : ℕ) (x y : A) → cond (eqb (1 + n) 0) x y ≡ y
some n x y = rw (ne_eqb (1 + n) 0 (λ e. omega arith))

-- lives
pub empty_code : LifeCode Empty 0
unfolding life_in life_word
empty_code = record { word = refl; back = refl }

pub live_code : LifeCode Live 1
unfolding life_in life_word
live_code = record { word = refl; back = refl }

pub stopped_code : LifeCode Stopped 2
unfolding life_in life_word
stopped_code = record { word = refl; back = refl }

-- contexts
pub free_code : ActivityCode Free 0
unfolding activity_in activity_word
free_code = record { word = refl; back = refl }

acts : (w kind d : ℕ) → 0 < w → (w - 1) % 3 ≡ kind → (w - 1) / 3 % 256 ≡ d
    → activity_in w ≡ activity_as kind (record { 0 = d })
unfolding activity_in
acts w kind d h e1 e2 = rw (ne_eqb w 0 (λ e. omega arith), e1, e2)

module _ (d : Asid) (h : d.0 < 256) where
  pub running_code : ActivityCode (Running d) (1 + 3 * d.0)
  unfolding activity_as activity_word
  running_code =
      record { word = refl; back = acts (1 + 3 * d.0) 0 d.0 (omega arith) (omega arith) (omega arith) }

  pub interrupt_code : ActivityCode (Kept d Interrupt) (2 + 3 * d.0)
  unfolding activity_as activity_word
  interrupt_code =
      record { word = refl; back = acts (2 + 3 * d.0) 1 d.0 (omega arith) (omega arith) (omega arith) }

  pub call_code : ActivityCode (Kept d Call) (3 + 3 * d.0)
  unfolding activity_as activity_word
  call_code = record { word = refl; back = acts (3 + 3 * d.0) 2 d.0 (omega arith) (omega arith) (omega arith) }

-- frames
pub nothing_code : (v : ℕ) → NamesCode v None 0
unfolding names_in names_word
nothing_code v = record { word = refl; back = refl }

pub named_code : (v : ℕ) (d : Asid) (p : Gvpn) → d.0 < 256 → p.0 < v → NamesCode v (Some (d, p)) (1 + (d.0 * v + p.0))
unfolding names_in names_word
named_code v d p hd hp =
    let n : ℕ = d.0 * v + p.0 in
    let less : 1 + (d.0 * v + p.0) - 1 ≡ d.0 * v + p.0 = omega arith in
    let small : d.0 % 256 ≡ d.0 = omega arith in
    record {
      word = refl;
      back = rw (ne_eqb (1 + (d.0 * v + p.0)) 0 (λ e. omega arith), less, digits_div d.0 hp, digits_mod d.0 hp, small);
    }

-- mappings
pub unmapped_code : MappingCode None 0
unfolding mapping_in mapping_word
unmapped_code = record { word = refl; back = refl }

pub mapped_code : (f : Gppn) → f.0 < 256 → MappingCode (Some f) (1 + f.0)
unfolding mapping_in mapping_word
mapped_code f h =
    record {
      word = refl;
      back = rw (ne_eqb (1 + f.0) 0 (λ e. omega arith)) (ap (λ (n : ℕ). Some (record { 0 = n })) (omega arith));
    }

-- places
wear_code : (w : Wear) (f : Gppn) → wear_in (sign_word (Clear f w)) ≡ w
unfolding wear_in sign_word
wear_code Dirty f = refl
wear_code (Clean k) f = rw (ne_eqb (1 + k) 0 (λ e. omega arith)) (ap (λ (n : ℕ). Clean n) (omega arith))

pub place_code : (p : Place) → Housed p → PlaceCode p (home_word p) (sign_word p)
unfolding place_in hidden_in home_word sign_word Housed
place_code Public h = record { home = refl; sign = refl; back = refl }
place_code (Clear f w) h =
    let less : (1 + f.0 - 1) % 256 ≡ f.0 = omega arith in
    record {
      home = refl;
      sign = refl;
      back = rw (ne_eqb (1 + f.0) 0 (λ e. omega arith), less, wear_code w f);
    }
place_code (Sealed k) h =
    record {
      home = refl;
      sign = refl;
      back = rw (ne_eqb (1 + k) 0 (λ e. omega arith)) (ap (λ (n : ℕ). Sealed n) (omega arith));
    }
