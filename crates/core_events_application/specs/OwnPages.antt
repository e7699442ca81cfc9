-- A context's own page, what the functions on it ask, and what they leave of the tables and the frames.
use Rattle.std.specs.Prelude.{◌≡◌, List, ℕ, ◌*◌, ◌<◌, length, get_or}
use Rattle.rules.specs.Sizes.{page_number}
use Rattle.rules.specs.Records.{underway, public_page, domain_of, frame_of}
use Rattle.rules.specs.Events.{zero_if_clear, written}
use Rattle.rules.specs.Asked.{Limited}
use Rattle.rules.specs.declared.Setup.{Setup}
use Rattle.rules.specs.declared.Tables.{Tables}
use Rattle.rules.specs.declared.Registers.{Registers}
use Rattle.rules.specs.declared.Gvpn.{Gvpn}
use Rattle.rules.specs.declared.Gppn.{Gppn}
use Rattle.rules.specs.declared.Ctc.{Ctc}
use Rattle.rules.specs.declared.Wear.{Wear}
use Rattle.rules.specs.declared.Place.{Place}
use Rattle.rules.specs.declared.Place.TheVariants.{Clear}
use Rattle.core_tables.specs.Image.{image_words, tables_in, Canonical}
use Rattle.core_tables.specs.Put.{set_page}
use Rattle.core_tables.specs.Tested.{Tested}
use Rattle.core_events_application.specs.declared.pages.Own.{Own}

-- context c and its page v are of the setup's
pub record Owned (s : Setup) (words : List ℕ) (c : Ctc) (v : Gvpn) : Type 0 where
  pub tested : Tested s words
  pub context : c.0 < s.contexts
  pub page : v.0 < s.pages

abbrev pub own_of : Setup → Tables → Ctc → Gvpn → Own
own_of s t c v =
    let d = domain_of t c in
    record { domain = d; frame = frame_of s t d v; number = page_number s d v }

-- the frame in which a page is Clear is one of the setup's
pub record Openable (s : Setup) (words frames : List ℕ) (place : Place) : Type 0 where
  pub limited : Limited s
  pub words_long : length words ≡ image_words
  pub frames_long : length frames ≡ s.frames * s.size
  pub home : (f : Gppn) (w : Wear) → place ≡ Clear f w → f.0 < s.frames

-- that frame is zero and names none, and nothing else changed: words and frames became y and after
pub record Opened (s : Setup) (place : Place) (words frames y after : List ℕ) : Type 0 where
  pub is : (z : List Registers) (store : List ℕ)
      → underway (tables_in s.pages y) z after store 0 0
      ≡ zero_if_clear s place (underway (tables_in s.pages words) z frames store 0 0)
  pub canonical : Canonical s.pages words → Canonical s.pages y

-- the page of number n was written
abbrev pub written_tables : ℕ → Tables → Tables
written_tables n t =
    let r = get_or t.pages n public_page in
    set_page n (record { mapping = r.mapping; place = written r.place }) t
