-- What the rules' tests say of records that are decoded from words: tests of the words.
use Rattle.std.specs.Prelude.{Some, None}
use mathlib.Core.Path.{◌≡◌, refl, ◌∙◌}
use mathlib.Core.Bool.{Bool, true, false, ◌&&◌, ◌||◌, cond}
use Prim.Native.Nat.{ℕ, ◌-◌, ◌/◌, ◌%◌}
use lib.Dec.{eqb, ltb}
use Rattle.rules.specs.Bytes.{all_of}
use Rattle.rules.specs.Sizes.{domain_in, page_in, frame_in}
use Rattle.rules.specs.Records.{is_empty, is_free, is_unmapped, is_public, is_clear_in, names_none, names_page, names_of, place_of}
use Rattle.rules.specs.Sound.{begun, activity_sound, mapping_sound, wear_sound, place_sound, untouched, names_sound}
use Rattle.rules.specs.declared.Setup.{Setup}
use Rattle.rules.specs.declared.Tables.{Tables}
use Rattle.rules.specs.declared.Asid.{Asid}
use Rattle.rules.specs.declared.Gvpn.{Gvpn}
use Rattle.rules.specs.declared.Gppn.{Gppn}
use Rattle.rules.specs.declared.Life.TheVariants.{Empty, Live, Stopped}
use Rattle.rules.specs.declared.TrapKind.TheVariants.{Interrupt, Call}
use Rattle.rules.specs.declared.Activity.TheVariants.{Free, Running, Kept}
use Rattle.rules.specs.declared.Wear.{Wear}
use Rattle.rules.specs.declared.Wear.TheVariants.{Dirty, Clean}
use Rattle.rules.specs.declared.Place.TheVariants.{Public, Clear, Sealed}
use Rattle.core_tables.specs.Words.{life_in, activity_as, activity_in, names_in, mapping_in, wear_in, hidden_in, place_in}

-- a domain's life
lives : (a b : Bool) → is_empty (cond a Empty (cond b Live Stopped)) ≡ a
lives true b = refl
lives false true = refl
lives false false = refl

pub life_empty : (w : ℕ) → is_empty (life_in w) ≡ eqb w 0
unfolding life_in
life_empty w = lives (eqb w 0) (eqb w 1)

-- a context
abbrev pub domain_here : ℕ → Asid
domain_here w = record { 0 = (w - 1) / 3 % 256 }

frees : (a b c : Bool) (d : Asid)
    → is_free (cond a Free (cond b (Running d) (cond c (Kept d Interrupt) (Kept d Call)))) ≡ a
frees true b c d = refl
frees false true c d = refl
frees false false true d = refl
frees false false false d = refl

pub context_free : (w : ℕ) → is_free (activity_in w) ≡ eqb w 0
unfolding activity_in activity_as
context_free w = frees (eqb w 0) (eqb ((w - 1) % 3) 0) (eqb ((w - 1) % 3) 1) (domain_here w)

module _ (s : Setup) (t : Tables) where
  acts : (a b c : Bool) (d : Asid)
      → activity_sound s t (cond a Free (cond b (Running d) (cond c (Kept d Interrupt) (Kept d Call)))) ≡ a || begun s t d
  unfolding activity_sound
  acts true b c d = refl
  acts false true c d = refl
  acts false false true d = refl
  acts false false false d = refl

  pub context_sound_holds : (w : ℕ) → activity_sound s t (activity_in w) ≡ eqb w 0 || begun s t (domain_here w)
  unfolding activity_in activity_as
  context_sound_holds w = acts (eqb w 0) (eqb ((w - 1) % 3) 0) (eqb ((w - 1) % 3) 1) (domain_here w)

-- a page's mapping
maps : (a : Bool) (f : Gppn) → is_unmapped (cond a None (Some f)) ≡ a
maps true f = refl
maps false f = refl

pub unmapped_test : (m : ℕ) → is_unmapped (mapping_in m) ≡ eqb m 0
unfolding mapping_in
unmapped_test m = maps (eqb m 0) (record { 0 = (m - 1) % 256 })

maps_sound : (s : Setup) (a : Bool) (f : Gppn) → mapping_sound s (cond a None (Some f)) ≡ a || frame_in s f
unfolding mapping_sound
maps_sound s true f = refl
maps_sound s false f = refl

pub mapping_sound_holds : (s : Setup) (m : ℕ) → mapping_sound s (mapping_in m) ≡ eqb m 0 || ltb ((m - 1) % 256) s.frames
unfolding mapping_in frame_in
mapping_sound_holds s m = maps_sound s (eqb m 0) (record { 0 = (m - 1) % 256 })

-- a page's place
publics : (a b : Bool) (k : ℕ) (f : Gppn) (w : Wear)
    → is_public (cond a (cond b Public (Sealed k)) (Clear f w)) ≡ a && b
publics true true k f w = refl
publics true false k f w = refl
publics false b k f w = refl

pub public_test : (h k : ℕ) → is_public (place_in h k) ≡ eqb h 0 && eqb k 0
unfolding place_in hidden_in
public_test h k = publics (eqb h 0) (eqb k 0) (k - 1) (record { 0 = (h - 1) % 256 }) (wear_in k)

pub untouched_test : (m h k : ℕ)
    → untouched (record { mapping = mapping_in m; place = place_in h k }) ≡ eqb m 0 && ((eqb h 0 && eqb k 0) && true)
unfolding untouched all_of
untouched_test m h k = rw (unmapped_test m, public_test h k)

wears : (t : Tables) (a : Bool) (k : ℕ) → wear_sound t (cond a Dirty (Clean k)) ≡ a || ltb k t.used
unfolding wear_sound
wears t true k = refl
wears t false k = refl

module _ (s : Setup) (t : Tables) (d : Asid) (p : Gvpn) where
  places : (a b : Bool) (k : ℕ) (f : Gppn) (w : Wear)
      → place_sound s t d p (cond a (cond b Public (Sealed k)) (Clear f w))
      ≡ cond a (b || ltb k t.used) (frame_in s f && (names_page d p (names_of t f) && (wear_sound t w && true)))
  unfolding place_sound all_of
  places true true k f w = refl
  places true false k f w = refl
  places false b k f w = refl

  pub place_sound_holds : (h k : ℕ) → place_sound s t d p (place_in h k)
      ≡ cond (eqb h 0) (eqb k 0 || ltb (k - 1) t.used)
      (ltb ((h - 1) % 256) s.frames
      && (names_page d p (names_of t (record { 0 = (h - 1) % 256 })) && ((eqb k 0 || ltb (k - 1) t.used) && true)))
  unfolding place_in hidden_in wear_in frame_in
  place_sound_holds h k =
      places (eqb h 0) (eqb k 0) (k - 1) (record { 0 = (h - 1) % 256 }) (wear_in k)
      ∙ rw (wears t (eqb k 0) (k - 1))

clears : (f : Gppn) (a b : Bool) (k : ℕ) (g : Gppn) (w : Wear)
    → is_clear_in f (cond a (cond b Public (Sealed k)) (Clear g w)) ≡ cond a false (eqb g.0 f.0)
clears f true true k g w = refl
clears f true false k g w = refl
clears f false b k g w = refl

pub clear_test : (f : Gppn) (h k : ℕ) → is_clear_in f (place_in h k) ≡ cond (eqb h 0) false (eqb ((h - 1) % 256) f.0)
unfolding place_in hidden_in
clear_test f h k = clears f (eqb h 0) (eqb k 0) (k - 1) (record { 0 = (h - 1) % 256 }) (wear_in k)

-- what a frame names
nones : (a : Bool) (d : Asid) (p : Gvpn) → names_none (cond a None (Some (d, p))) ≡ a
nones true d p = refl
nones false d p = refl

pub none_test : (v w : ℕ) → names_none (names_in v w) ≡ eqb w 0
unfolding names_in
none_test v w = nones (eqb w 0) (record { 0 = (w - 1) / v % 256 }) (record { 0 = (w - 1) % v })

pages : (d : Asid) (p : Gvpn) (a : Bool) (e : Asid) (q : Gvpn)
    → names_page d p (cond a None (Some (e, q))) ≡ cond a false (eqb e.0 d.0 && (eqb q.0 p.0 && true))
unfolding all_of
pages d p true e q = refl
pages d p false e q = refl

pub page_test : (d : Asid) (p : Gvpn) (v w : ℕ)
    → names_page d p (names_in v w) ≡ cond (eqb w 0) false (eqb ((w - 1) / v % 256) d.0 && (eqb ((w - 1) % v) p.0 && true))
unfolding names_in
page_test d p v w = pages d p (eqb w 0) (record { 0 = (w - 1) / v % 256 }) (record { 0 = (w - 1) % v })

names_sounds : (s : Setup) (t : Tables) (f : Gppn) (a : Bool) (d : Asid) (p : Gvpn)
    → names_sound s t f (cond a None (Some (d, p)))
    ≡ cond a true (domain_in s d && (page_in s p && (is_clear_in f (place_of s t d p) && true)))
unfolding names_sound all_of
names_sounds s t f true d p = refl
names_sounds s t f false d p = refl

pub names_sound_holds : (s : Setup) (t : Tables) (f : Gppn) (v w : ℕ) → names_sound s t f (names_in v w)
    ≡ cond (eqb w 0) true
    (ltb ((w - 1) / v % 256) s.domains
    && (ltb ((w - 1) % v) s.pages
    && (is_clear_in f (place_of s t (record { 0 = (w - 1) / v % 256 }) (record { 0 = (w - 1) % v })) && true)))
unfolding names_in domain_in page_in
names_sound_holds s t f v w = names_sounds s t f (eqb w 0) (record { 0 = (w - 1) / v % 256 }) (record { 0 = (w - 1) % v })
