-- What stands at a place of a trace, in nine numbers, for those who have no enum: the answer; the event's kind, its three
-- numbers, off and len; where its data starts in the unread bytes and how long it is. No record's data starts at 0: that
-- tells the end from a record.
use Rattle.std.specs.Prelude.{List, [], ◌∷◌, Some, None, Ok, Err, ℕ}
use Rattle.rules.specs.Events.{kind_of}
use Rattle.rules.specs.Refusals.{number_of}
use Rattle.trace_form.specs.Form.{first, fields_of}
use Rattle.trace_form.specs.declared.Fields.{Fields}
use Rattle.trace_read.specs.Reading.{Found, read_at, place_after}
use Rattle.trace_read.specs.declared.Record.{Record}

abbrev pub row : ℕ → Fields → ℕ → ℕ → List ℕ
row kind v start len =
    0 ∷ kind ∷ v.first ∷ v.second ∷ v.third ∷ v.span.off ∷ v.span.len ∷ start ∷ len ∷ []

abbrev pub told_of : Record → List ℕ
told_of r = row (kind_of r.event) (fields_of r.event) r.start r.len

abbrev pub told : Found → List ℕ
told (Ok None) = 0 ∷ 0 ∷ 0 ∷ 0 ∷ 0 ∷ 0 ∷ 0 ∷ 0 ∷ 0 ∷ []
told (Err r) = number_of r ∷ 0 ∷ 0 ∷ 0 ∷ 0 ∷ 0 ∷ 0 ∷ 0 ∷ 0 ∷ []
told (Ok (Some r)) = told_of r

-- what a call hands back: the place behind what was found, or the same place, and the numbers
pub record Handed : Type 0 where
  pub place : ℕ
  pub numbers : List ℕ

abbrev pub handed : ℕ → List ℕ → Handed
handed place numbers = record { place = place; numbers = numbers }

abbrev pub handed_of : Found → ℕ → Handed
handed_of found place = handed (place_after found place) (told found)

abbrev pub next_record : List ℕ → ℕ → Handed
next_record unread place = handed_of (read_at first unread place) place
