-- The rules' checks of an event (`checks`, specs/Answers.antt there) in the stages in which they are made, after those that ask
-- no table (the crate shape's): first those on the conditions of the records, then the one on signatures.
use Rattle.std.specs.Prelude.{List, [], ◌∷◌, ◌++◌, Bool, not, ℕ, ◌+◌, ltb}
use Rattle.rules.specs.Records.{activity_of, domain_of, life_of, mapping_of, place_of}
use Rattle.rules.specs.Sealing.{needed}
use Rattle.rules.specs.Events.{Row, row}
use Rattle.rules.specs.Answers.{Check, check, first_of}
use Rattle.rules.specs.declared.Setup.{Setup}
use Rattle.rules.specs.declared.Tables.{Tables}
use Rattle.rules.specs.declared.Ctc.{Ctc}
use Rattle.rules.specs.declared.Gvpn.{Gvpn}
use Rattle.rules.specs.declared.Event.{Event}
use Rattle.core_refuse.specs.declared.standing.Own.{Own}

-- 4, 7, 5
unfoldable pub record_checks : Bool → Bool → Bool → List Check
record_checks condition live mapped = check 4 (not condition) ∷ check 7 (not live) ∷ check 5 (not mapped) ∷ []

-- 6, where so many signatures are needed
unfoldable pub seal_checks : Setup → ℕ → ℕ → List Check
seal_checks s used n = check 6 (ltb s.signatures (used + n)) ∷ []

unfoldable pub by_row : Setup → Tables → Row → List Check
by_row s t r = record_checks r.condition r.live r.mapped ++ seal_checks s t.used (needed s t r.seals)

-- the refusal of an event whose shape is right
unfoldable pub standing : Setup → Tables → Event → ℕ
standing s t e = first_of (by_row s t (row s t e))

-- the records that an event of a context's on its own page concerns
abbrev pub own_of : Setup → Tables → Ctc → Gvpn → Own
own_of s t c v =
    let d = domain_of t c in
    record { activity = activity_of t c; life = life_of t d; mapping = mapping_of s t d v; place = place_of s t d v }
