-- Laws of what is handed in: the rules' lists of tests in the order in which the code makes them, and the products of sizes that are in
-- range.
use mathlib.Core.Path.{◌≡◌, refl}
use mathlib.Core.List.{List, [], ◌∷◌}
use mathlib.Core.Bool.{Bool, true, false, ◌&&◌, and-true}
use Prim.Native.Nat.{ℕ, ◌*◌, ◌≤◌}
use native.Mathlib.Nat.{mul-le-mul}
use native.Mathlib.Omega.{arith}
use lib.ListN.{length}
use lib.Dec.{T, eqb, eqb→eq}
use Rattle.rules.specs.Bytes.{all_of}
use Rattle.rules.specs.Sizes.{setup_in_range, frames_right, store_right, supply_right, max_size, max_domains, max_pages, max_contexts}
use Rattle.rules.specs.Sizes.{max_frames, max_signatures}
use Rattle.rules.specs.Records.{machine}
use Rattle.rules.specs.Sound.{sound, lookable, acceptable}
use Rattle.rules.specs.Asked.{Limited}
use Rattle.rules.proofs.Facts.{limited, lookable_facts, each, passes, passed}
use Rattle.rules.specs.declared.Setup.{Setup}
use Rattle.core_tables.specs.Image.{image_words, state_in, canonical}
use Rattle.core_answer.specs.Handed.{readable}
use Rattle.core_sound.specs.Acceptable.{sound_image}
use Rattle.core_accept.specs.Acceptable.{lent_right, lookable_in, acceptable_in}

-- a, b and c are tests of the words, i, f and t of the setup and the bytes, d of the state: lengths are tested first
lengths_first : (a b c i f t d : Bool)
    → (a && (b && (c && true))) && (i && (f && (t && (d && true))))
    ≡ (i && (a && (b && (f && (t && true))))) && (c && (d && true))
lengths_first false b c true f t d = refl
lengths_first false b c false f t d = refl
lengths_first true false c true f t d = refl
lengths_first true false c false f t d = refl
lengths_first true true true true true true d = refl
lengths_first true true true true true false d = refl
lengths_first true true true true false t d = refl
lengths_first true true true false f t d = refl
lengths_first true true false true true true d = refl
lengths_first true true false true true false d = refl
lengths_first true true false true false t d = refl
lengths_first true true false false f t d = refl

-- the supply's length is tested last
supply_last : (a b p : Bool) → a && (b && (p && true)) ≡ (a && b) && p
supply_last true true p = and-true p
supply_last true false p = refl
supply_last false b p = refl

module _ (s : Setup) (x y frames store : List ℕ) where
  pub lookable_by : lookable_in s x y frames store ≡ lent_right s x y frames store && sound_image s x y
  unfolding readable lookable lent_right sound_image all_of
  lookable_by =
      lengths_first (eqb (length x) image_words) (eqb (length y) (8 * s.contexts)) (canonical s.pages x) (setup_in_range s)
      (frames_right s frames) (store_right s store) (sound s (state_in s x y))

  pub acceptable_by : (supply : List ℕ)
      → acceptable_in s x y frames store supply ≡ lookable_in s x y frames store && supply_right s supply
  unfolding acceptable all_of
  acceptable_by supply =
      supply_last (readable s x y) (lookable s (machine (state_in s x y) frames store)) (supply_right s supply)

  pub lent_by : lent_right s x y frames store
      ≡ setup_in_range s
      && (eqb (length x) image_words
      && (eqb (length y) (8 * s.contexts)
      && (eqb (length frames) (s.frames * s.size) && eqb (length store) (s.domains * s.pages * s.size))))
  unfolding lent_right frames_right store_right all_of
  lent_by = rw and-true

  -- where the lengths are right, the tables are as long as an image, and the setup is in range
  pub long_words : lent_right s x y frames store ≡ true → (length x ≡ image_words) × (setup_in_range s ≡ true)
  unfolding lent_right
  long_words e = let t = each _ (passed _ e) in (eqb→eq _ _ t.1.0, passes _ t.0)

-- the products of sizes that are in range are small
pub record Products (s : Setup) : Type 0 where
  pub frames : s.frames * s.size ≤ max_frames * max_size
  pub entries : s.domains * s.pages ≤ max_domains * max_pages
  pub store : s.domains * s.pages * s.size ≤ max_domains * max_pages * max_size
  pub supply : s.signatures * s.size ≤ max_signatures * max_size

of : {s : Setup} → Limited s → Products s
of {s} l =
    let entries : s.domains * s.pages ≤ max_domains * max_pages = mul-le-mul l.domains l.pages in
    record {
      frames = mul-le-mul l.frames l.size;
      entries = entries;
      store = mul-le-mul entries l.size;
      supply = mul-le-mul l.signatures l.size;
    }

pub products : (s : Setup) → setup_in_range s ≡ true → Products s
products s e = of (limited s (passed (setup_in_range s) e))

pub contexts_few : (s : Setup) → setup_in_range s ≡ true → s.contexts ≤ max_contexts
contexts_few s e = (limited s (passed (setup_in_range s) e)).contexts

-- two tests that hold together
pub both_hold : (a b : Bool) → a && b ≡ true → T a × T b
both_hold true b e = (tt, passed b e)
both_hold false b e = absurd (let z : ◌≡◌ {A = ℕ} 0 1 = cc in omega arith)

pub lent_products : (s : Setup) (x y frames store : List ℕ) → lent_right s x y frames store ≡ true → Products s
lent_products s x y frames store e = products s (long_words s x y frames store e).1

pub looked_products : (s : Setup) (x y frames store : List ℕ) → lookable_in s x y frames store ≡ true → Products s
looked_products s x y frames store e =
    let looked = lookable_facts _ _ (both_hold (readable s x y) _ e).1 in
    of looked.sizes

pub ruleset accepted = (acceptable_by, looked_products)

pub ruleset lengths = (lent_by, contexts_few, products)
