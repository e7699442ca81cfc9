-- Records as words of 16 bits, each "0 none, n + 1": every word decodes, and a record whose numbers fit has one coding.
-- A page has three words (mapped, home, sign), every other record one.
use Rattle.std.specs.Prelude.{◌≡◌, cond, ℕ, ◌+◌, ◌*◌, ◌-◌, ◌/◌, ◌%◌, ◌<◌, eqb, Option, Some, None}
use Rattle.rules.specs.declared.Gppn.{Gppn}
use Rattle.rules.specs.declared.Gvpn.{Gvpn}
use Rattle.rules.specs.declared.PageRecord.{PageRecord}
use Rattle.rules.specs.declared.FrameRecord.{FrameRecord}
use Rattle.rules.specs.declared.DomainRecord.{DomainRecord}
use Rattle.rules.specs.declared.ContextRecord.{ContextRecord}
use Rattle.rules.specs.declared.Asid.{Asid}
use Rattle.rules.specs.declared.Life.{Life}
use Rattle.rules.specs.declared.Life.TheVariants.{Empty, Live, Stopped}
use Rattle.rules.specs.declared.TrapKind.TheVariants.{Interrupt, Call}
use Rattle.rules.specs.declared.Activity.{Activity}
use Rattle.rules.specs.declared.Activity.TheVariants.{Free, Running, Kept}
use Rattle.rules.specs.declared.Wear.{Wear}
use Rattle.rules.specs.declared.Wear.TheVariants.{Dirty, Clean}
use Rattle.rules.specs.declared.Place.{Place}
use Rattle.rules.specs.declared.Place.TheVariants.{Public, Clear, Sealed}

-- a domain's life
unfoldable pub life_in : ℕ → Life
life_in w = cond (eqb w 0) Empty (cond (eqb w 1) Live Stopped)

unfoldable pub life_word : Life → ℕ
life_word Empty = 0
life_word Live = 1
life_word Stopped = 2

-- a context: 0 is Free, else 1 + 3 * domain + kind
unfoldable pub activity_as : ℕ → Asid → Activity
activity_as kind d = cond (eqb kind 0) (Running d) (cond (eqb kind 1) (Kept d Interrupt) (Kept d Call))

unfoldable pub activity_in : ℕ → Activity
activity_in w = cond (eqb w 0) Free (activity_as ((w - 1) % 3) (record { 0 = (w - 1) / 3 % 256 }))

unfoldable pub activity_word : Activity → ℕ
activity_word Free = 0
activity_word (Running d) = 1 + 3 * d.0
activity_word (Kept d Interrupt) = 2 + 3 * d.0
activity_word (Kept d Call) = 3 + 3 * d.0

-- what a frame names: 0 is none, else 1 + the page's number among all, of which v are each domain's
unfoldable pub names_in : ℕ → ℕ → Option (Asid × Gvpn)
names_in v w = cond (eqb w 0) None (Some (record { 0 = (w - 1) / v % 256 }, record { 0 = (w - 1) % v }))

unfoldable pub names_word : ℕ → Option (Asid × Gvpn) → ℕ
names_word v None = 0
names_word v (Some (d, p)) = 1 + (d.0 * v + p.0)

-- a page's mapping: 0 is none, else 1 + frame
unfoldable pub mapping_in : ℕ → Option Gppn
mapping_in w = cond (eqb w 0) None (Some (record { 0 = (w - 1) % 256 }))

unfoldable pub mapping_word : Option Gppn → ℕ
mapping_word None = 0
mapping_word (Some f) = 1 + f.0

-- a page's place, in two words: home, 1 + the frame that it is Clear in, and sign, 1 + its signature's number
unfoldable pub wear_in : ℕ → Wear
wear_in k = cond (eqb k 0) Dirty (Clean (k - 1))

unfoldable pub hidden_in : ℕ → Place
hidden_in k = cond (eqb k 0) Public (Sealed (k - 1))

unfoldable pub place_in : ℕ → ℕ → Place
place_in h k = cond (eqb h 0) (hidden_in k) (Clear (record { 0 = (h - 1) % 256 }) (wear_in k))

unfoldable pub home_word : Place → ℕ
home_word Public = 0
home_word (Clear f w) = 1 + f.0
home_word (Sealed k) = 0

unfoldable pub sign_word : Place → ℕ
sign_word Public = 0
sign_word (Clear f Dirty) = 0
sign_word (Clear f (Clean k)) = 1 + k
sign_word (Sealed k) = 1 + k

abbrev pub page_in : ℕ → ℕ → ℕ → PageRecord
page_in m h k = record { mapping = mapping_in m; place = place_in h k }

abbrev pub domain_in : ℕ → DomainRecord
domain_in w = record { life = life_in w }

abbrev pub context_in : ℕ → ContextRecord
context_in w = record { activity = activity_in w }

abbrev pub frame_in : ℕ → ℕ → FrameRecord
frame_in v w = record { names = names_in v w }

-- the frame that a page is Clear in is a byte
unfoldable pub Housed : Place → Type 0
Housed Public = Unit {0}
Housed (Clear f w) = f.0 < 256
Housed (Sealed k) = Unit {0}

-- a word of 16 bits holds no signature number above 65534, and the page that a frame names is one of v
unfoldable pub PlaceFits : Place → Type 0
PlaceFits p = sign_word p < 65536

unfoldable pub NamesFit : ℕ → Option (Asid × Gvpn) → Type 0
NamesFit v None = Unit {0}
NamesFit v (Some (d, p)) = p.0 < v

-- w is the one coding of r
pub record LifeCode (r : Life) (w : ℕ) : Type 0 where
  pub word : life_word r ≡ w
  pub back : life_in w ≡ r

pub record ActivityCode (r : Activity) (w : ℕ) : Type 0 where
  pub word : activity_word r ≡ w
  pub back : activity_in w ≡ r

pub record NamesCode (v : ℕ) (r : Option (Asid × Gvpn)) (w : ℕ) : Type 0 where
  pub word : names_word v r ≡ w
  pub back : names_in v w ≡ r

pub record MappingCode (r : Option Gppn) (w : ℕ) : Type 0 where
  pub word : mapping_word r ≡ w
  pub back : mapping_in w ≡ r

pub record PlaceCode (r : Place) (h k : ℕ) : Type 0 where
  pub home : home_word r ≡ h
  pub sign : sign_word r ≡ k
  pub back : place_in h k ≡ r
