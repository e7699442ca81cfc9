-- What sealing, unveiling and bringing in ask of the setup, the lent memory and the tables. All of it follows where
-- the rules accept a machine and count enough signatures (proofs/Granted.antt).
use Rattle.std.specs.Prelude.{◌≡◌, List, ℕ, ◌+◌, ◌*◌, ◌≤◌, ◌<◌, length, T, Some}
use Rattle.rules.specs.Sizes.{max_domains, max_pages, max_frames}
use Rattle.rules.specs.Records.{names_of, place_of, is_clear_in}
use Rattle.rules.specs.Sealing.{sealed_with, needed}
use Rattle.rules.specs.declared.Setup.{Setup}
use Rattle.rules.specs.declared.Tables.{Tables}
use Rattle.rules.specs.declared.Asid.{Asid}
use Rattle.rules.specs.declared.Gvpn.{Gvpn}
use Rattle.rules.specs.declared.Gppn.{Gppn}
use Rattle.rules.specs.declared.Wear.{Wear}
use Rattle.rules.specs.declared.Wear.TheVariants.{Clean}
use Rattle.rules.specs.declared.Place.TheVariants.{Clear, Sealed}
use Rattle.rules.specs.Asked.{Limited}
use Rattle.core_tables.specs.Image.{image_words, tables_in, Canonical}
use Rattle.core_seal.specs.declared.Work.{Work}

-- the lent memory has the lengths that they give, and the tables' words are canonical
pub record Lent (s : Setup) (words frames store supply : List ℕ) : Type 0 where
  pub words_long : length words ≡ image_words
  pub canonical : Canonical s.pages words
  pub some_pages : 1 ≤ s.pages
  pub frames_long : length frames ≡ s.frames * s.size
  pub store_long : length store ≡ s.domains * s.pages * s.size
  pub supply_long : length supply ≡ s.signatures * s.size

-- the page that frame f names is one of the setup's, and there is a signature to seal it with
pub record Signable (s : Setup) (t : Tables) (f : Gppn) : Type 0 where
  pub domain : (d : Asid) (v : Gvpn) → names_of t f ≡ Some (d, v) → d.0 < s.domains
  pub page : (d : Asid) (v : Gvpn) → names_of t f ≡ Some (d, v) → v.0 < s.pages
  pub signature : (d : Asid) (v : Gvpn) (h : Gppn) (w : Wear) → names_of t f ≡ Some (d, v) → place_of s t d v ≡ Clear h w
      → sealed_with t.used w < s.signatures

pub record Sealable (s : Setup) (work : Work) (words frames store supply : List ℕ) (f : Gppn) : Type 0 where
  pub limited : Limited s
  pub lent : Lent s words frames store supply
  pub frame : f.0 < s.frames
  pub ready : Signable s (tables_in s.pages words) f
  pub counts : work.seals < 255

-- what unveiling at frame f asks beside a signature of the setup's
pub record Unveilable (s : Setup) (work : Work) (words frames store supply : List ℕ) (f : Gppn) (d : Asid) (v : Gvpn) : Type 0 where
  pub limited : Limited s
  pub lent : Lent s words frames store supply
  pub frame : f.0 < s.frames
  pub domain : d.0 < s.domains
  pub page : v.0 < s.pages
  pub counts : work.unveils < 255

-- the records agree on where the private pages are, as far as seals go by them
pub record Matched (s : Setup) (t : Tables) : Type 0 where
  pub pages_long : length t.pages ≡ max_domains * max_pages
  pub frames_long : length t.frames ≡ max_frames
  -- the page that a frame names is Clear in it
  pub clear : (f : Gppn) (d : Asid) (v : Gvpn) → f.0 < s.frames → names_of t f ≡ Some (d, v)
      → (d.0 < s.domains) × (v.0 < s.pages) × T (is_clear_in f (place_of s t d v))
  -- a page is Clear in a frame of the setup's
  pub held : (d : Asid) (v : Gvpn) (f : Gppn) (w : Wear) → d.0 < s.domains → v.0 < s.pages
      → place_of s t d v ≡ Clear f w → f.0 < s.frames
  -- signature numbers are below the used count
  pub worn : (d : Asid) (v : Gvpn) (f : Gppn) (k : ℕ) → d.0 < s.domains → v.0 < s.pages
      → place_of s t d v ≡ Clear f (Clean k) → k < t.used
  pub sealed : (d : Asid) (v : Gvpn) (k : ℕ) → d.0 < s.domains → v.0 < s.pages → place_of s t d v ≡ Sealed k → k < t.used

-- what sealing the frames first, and then unveiling at frame f, asks
pub record Bringable (s : Setup) (work : Work) (words frames store supply : List ℕ) (f : Gppn) (d : Asid) (v : Gvpn)
    (first : List Gppn) : Type 0 where
  pub reached : Unveilable s work words frames store supply f d v
  pub matched : Matched s (tables_in s.pages words)
  pub enough : (tables_in s.pages words).used + needed s (tables_in s.pages words) first ≤ s.signatures
  pub counts : work.seals + length first < 256
