-- Whole traces: a header, its signatures, and records to the end, read and written by the steps that the reader's and the
-- writer's contracts cite. Document 01, "The trace form".
use Rattle.std.specs.Prelude.{List, [], ◌∷◌, ◌++◌, cond, Some, None, Ok, Err, ◌⊎◌, ◌≡◌, ℕ, zero, suc, ◌+◌, length, take, drop, eqb}
use Rattle.rules.specs.Records.{Given, given}
use Rattle.rules.specs.declared.Event.{Event}
use Rattle.trace_form.specs.Form.{first}
use Rattle.trace_form.specs.declared.Form.{Form}
use Rattle.rules.specs.Refusals.{number_of}
use Rattle.trace_read.specs.Reading.{Header, Found, header_at, supply_in, records_in, read_at, data_in, unread_after, place_after}
use Rattle.trace_write.specs.Writing.{Written, write_header, write_record}

-- what a trace holds: the setup with the signatures, and each event with its data
pub record Item : Type 0 where
  pub event : Event
  pub new : List ℕ

abbrev pub item : Event → List ℕ → Item
item e new = record { event = e; new = new }

pub record Content : Type 0 where
  pub given : Given
  pub items : List Item

abbrev pub content : Given → List Item → Content
content g items = record { given = g; items = items }

-- READING: to the end, or stopped by a refusal with its number
pub data Reading : Type 0 where
  ended : Content → Reading
  stopped : ℕ → Reading

pub data Records : Type 0 where
  all : List Item → Records
  refused : ℕ → Records

abbrev pub also : Item → Records → Records
also i (all is) = all (i ∷ is)
also i (refused n) = refused n

-- one step: what is found, and how to go on behind it
abbrev pub read_on : (List ℕ → ℕ → Records) → List ℕ → ℕ → Found → Records
read_on rest unread place (Ok None) = all []
read_on rest unread place (Err r) = refused (number_of r)
read_on rest unread place (Ok (Some r)) =
    let found : Found = Ok (Some r) in
    also (item r.event (data_in found unread)) (rest (unread_after found unread) (place_after found place))

-- at most one record more than n; a reading that came to its last step here would give 0, which is no refusal
unfoldable pub read_records : Form → ℕ → List ℕ → ℕ → Records
read_records f zero unread place = read_on (λ u p. refused 0) unread place (read_at f unread place)
read_records f (suc n) unread place = read_on (read_records f n) unread place (read_at f unread place)

abbrev pub with : Given → Records → Reading
with g (all items) = ended (content g items)
with g (refused n) = stopped n

abbrev pub read_from : List ℕ → Header → Reading
read_from trace (Err r) = stopped (number_of r)
read_from trace (Ok o) =
    with (given o.setup (supply_in (Ok o) trace)) (read_records first (length trace) (records_in (Ok o) trace) o.records)

unfoldable pub read_trace : List ℕ → Reading
read_trace trace = read_from trace (header_at trace)

-- it ends: at the trace's end, or with one of the reader's refusals
abbrev pub Refusal : ℕ → Type 0
Refusal n = (n ≡ 1) ⊎ ((n ≡ 9) ⊎ (n ≡ 10))

abbrev pub Ends : Reading → Type 0
Ends (ended c) = Unit {0}
Ends (stopped n) = Refusal n

-- WRITING: the header, then each record behind what was written, until one is refused
abbrev pub behind : Written → Written → Written
behind w x = record { number = x.number; count = w.count + x.count; out = take w.count w.out ++ x.out }

unfoldable pub write_records : Form → List Item → Written → Written
write_records f [] w = w
write_records f (i ∷ is) w =
    cond (eqb w.number 0)
    (write_records f is (behind w (write_record f i.event i.new (drop w.count w.out))))
    w

unfoldable pub write_trace : Content → List ℕ → Written
write_trace c out = write_records first c.items (write_header c.given.setup c.given.supply out)
