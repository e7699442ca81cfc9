-- What functions below the entry points ask: a setup within its limits, and tables whose records agree, each as facts. The tests of
-- Sizes and Sound give them (`limited` and `agreed` of proofs/Facts.antt), so that an entry point tests once for all of them.
use Rattle.std.specs.Prelude.{◌≡◌, not, ℕ, ◌*◌, ◌%◌, ◌≤◌, ◌<◌, T, Some}
use Rattle.rules.specs.Sizes.{size_unit, min_size, max_size, max_domains, max_pages, max_contexts, max_frames, max_signatures, page_number}
use Rattle.rules.specs.Records.{life_of, activity_of, page_of, place_of, mapping_of, names_of, is_empty, is_clear_in, names_none}
use Rattle.rules.specs.Sound.{untouched}
use Rattle.rules.specs.declared.Setup.{Setup}
use Rattle.rules.specs.declared.Tables.{Tables}
use Rattle.rules.specs.declared.Asid.{Asid}
use Rattle.rules.specs.declared.Gvpn.{Gvpn}
use Rattle.rules.specs.declared.Gppn.{Gppn}
use Rattle.rules.specs.declared.Ctc.{Ctc}
use Rattle.rules.specs.declared.TrapKind.{TrapKind}
use Rattle.rules.specs.declared.Activity.TheVariants.{Running, Kept}
use Rattle.rules.specs.declared.Wear.{Wear}
use Rattle.rules.specs.declared.Wear.TheVariants.{Clean}
use Rattle.rules.specs.declared.Place.TheVariants.{Clear, Sealed}

-- a setup within its limits
pub record Limited (s : Setup) : Type 0 where
  pub least : min_size ≤ s.size
  pub size : s.size ≤ max_size
  pub unit : s.size % size_unit ≡ 0
  pub some_domains : 1 ≤ s.domains
  pub domains : s.domains ≤ max_domains
  pub some_pages : 1 ≤ s.pages
  pub pages : s.pages ≤ max_pages
  pub some_contexts : 1 ≤ s.contexts
  pub contexts : s.contexts ≤ max_contexts
  pub some_frames : 1 ≤ s.frames
  pub frames : s.frames ≤ max_frames
  pub signatures : s.signatures ≤ max_signatures

-- n is the number of page v of domain d, that of a slot of the store and of a record
pub record Numbered (s : Setup) (d : Asid) (v : Gvpn) (n : ℕ) : Type 0 where
  pub is : n ≡ page_number s d v
  pub slot : n < s.domains * s.pages
  pub listed : n < max_domains * max_pages

-- the records agree with each other
pub record Agreed (s : Setup) (t : Tables) : Type 0 where
  pub used : t.used ≤ s.signatures
  -- the page that a frame names is Clear in it
  pub clear : (f : Gppn) (d : Asid) (v : Gvpn) → f.0 < s.frames → names_of t f ≡ Some (d, v)
      → (d.0 < s.domains) × (v.0 < s.pages) × T (is_clear_in f (place_of s t d v))
  -- the frame in which a page is Clear names it
  pub named : (d : Asid) (v : Gvpn) (f : Gppn) (w : Wear) → d.0 < s.domains → v.0 < s.pages
      → place_of s t d v ≡ Clear f w → (f.0 < s.frames) × (names_of t f ≡ Some (d, v))
  -- a frame past the setup's names none
  pub unnamed : (f : Gppn) → s.frames ≤ f.0 → f.0 < max_frames → T (names_none (names_of t f))
  -- signature numbers are below the used count
  pub worn : (d : Asid) (v : Gvpn) (f : Gppn) (k : ℕ) → d.0 < s.domains → v.0 < s.pages
      → place_of s t d v ≡ Clear f (Clean k) → k < t.used
  pub sealed : (d : Asid) (v : Gvpn) (k : ℕ) → d.0 < s.domains → v.0 < s.pages → place_of s t d v ≡ Sealed k → k < t.used
  pub mapped : (d : Asid) (v : Gvpn) (f : Gppn) → d.0 < s.domains → v.0 < s.pages → mapping_of s t d v ≡ Some f
      → f.0 < s.frames
  -- a context that is not Free is in a domain that is not Empty
  pub inhabited : (c : Ctc) (d : Asid) → c.0 < s.contexts → activity_of t c ≡ Running d
      → (d.0 < s.domains) × T (not (is_empty (life_of t d)))
  pub kept : (c : Ctc) (d : Asid) (k : TrapKind) → c.0 < s.contexts → activity_of t c ≡ Kept d k
      → (d.0 < s.domains) × T (not (is_empty (life_of t d)))
  -- an Empty domain's pages are Public and unmapped
  pub empty : (d : Asid) (v : Gvpn) → d.0 < s.domains → v.0 < s.pages → T (is_empty (life_of t d))
      → T (untouched (page_of s t d v))
