-- Document 01, "Sizes": the limits of a setup, the lengths of the lent memory, and the number of a page.
-- The limits are those of the type `Setup`, whose method `in_range` is proved to test them.
use Rattle.std.specs.Prelude.{List, [], ◌∷◌, Bool, ℕ, ◌+◌, ◌*◌, ◌%◌, length, eqb, leb, ltb}
use Rattle.rules.specs.Bytes.{all_of}
use Rattle.rules.specs.declared.Setup.{Setup}
use Rattle.rules.specs.declared.Asid.{Asid}
use Rattle.rules.specs.declared.Gvpn.{Gvpn}
use Rattle.rules.specs.declared.Gppn.{Gppn}
use Rattle.rules.specs.declared.Ctc.{Ctc}

abbrev pub size_unit : ℕ
size_unit = 16

abbrev pub min_size : ℕ
min_size = 16

abbrev pub max_size : ℕ
max_size = 4096

abbrev pub max_domains : ℕ
max_domains = 8

abbrev pub max_pages : ℕ
max_pages = 32

abbrev pub max_contexts : ℕ
max_contexts = 16

abbrev pub max_frames : ℕ
max_frames = 64

abbrev pub max_signatures : ℕ
max_signatures = 65535

unfoldable pub between : ℕ → ℕ → ℕ → Bool
between low high n = all_of (leb low n ∷ leb n high ∷ [])

unfoldable pub setup_in_range : Setup → Bool
setup_in_range s =
    all_of
    (between min_size max_size s.size
    ∷ eqb (s.size % size_unit) 0
    ∷ between 1 max_domains s.domains
    ∷ between 1 max_pages s.pages
    ∷ between 1 max_contexts s.contexts
    ∷ between 1 max_frames s.frames
    ∷ leb s.signatures max_signatures
    ∷ [])

-- lent memory: F · P bytes of frames, D · V · P of store, N · P of supply
unfoldable pub frames_right : Setup → List ℕ → Bool
frames_right s frames = eqb (length frames) (s.frames * s.size)

unfoldable pub store_right : Setup → List ℕ → Bool
store_right s store = eqb (length store) (s.domains * s.pages * s.size)

unfoldable pub supply_right : Setup → List ℕ → Bool
supply_right s supply = eqb (length supply) (s.signatures * s.size)

-- a page's number among all, by which the table has its record and the store its slot
abbrev pub page_number : Setup → Asid → Gvpn → ℕ
page_number s d v = d.0 * s.pages + v.0

-- numbers start at 0, and are below the size
unfoldable pub domain_in : Setup → Asid → Bool
domain_in s d = ltb d.0 s.domains

unfoldable pub page_in : Setup → Gvpn → Bool
page_in s v = ltb v.0 s.pages

unfoldable pub frame_in : Setup → Gppn → Bool
frame_in s f = ltb f.0 s.frames

unfoldable pub context_in : Setup → Ctc → Bool
context_in s c = ltb c.0 s.contexts
