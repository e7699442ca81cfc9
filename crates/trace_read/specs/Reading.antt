-- Document 01, "The trace form" and "What is answered": what reading a header and a record gives, with the checks in their
-- order.
use Rattle.std.specs.Prelude.{List, [], ◌∷◌, Bool, cond, Option, Some, None, Result, Ok, Err, ℕ, ◌+◌, ◌-◌, ◌/◌, ◌^◌, length, get_or, take}
use Rattle.std.specs.Prelude.{drop, eqb, leb, ltb}
use Rattle.rules.specs.Bytes.{all_of}
use Rattle.rules.specs.Events.{kinds, data_length}
use Rattle.rules.specs.declared.Setup.{Setup}
use Rattle.rules.specs.declared.Event.{Event}
use Rattle.rules.specs.declared.Refusal.{Refusal}
use Rattle.rules.specs.declared.Refusal.TheVariants.{NoEvent, CutShort, NotAcceptable}
use Rattle.trace_form.specs.Form.{head_of, values_at, fields_in, padding_in, event_of}
use Rattle.trace_form.specs.Header.{header_length, setup_in, spare_in, supply_length, header_values}
use Rattle.trace_form.specs.declared.Form.{Form}
use Rattle.trace_read.specs.declared.Opened.{Opened}
use Rattle.trace_read.specs.declared.Record.{Record}

-- what reading a header gives, and what reading a record does: no record where no bytes are left. A refusal's number is document
-- 01's (`number_in` of the rules gives it).
abbrev pub Header : Type 0
Header = Result Opened Refusal

abbrev pub Found : Type 0
Found = Result (Option Record) Refusal

-- the header's 48 bits: 9 where they are cut short, or a spare bit is set; else the setup, and the place behind the
-- signatures, where the records start
abbrev pub records_from : Setup → ℕ
records_from s = header_length + supply_length s

abbrev pub opened_at : Setup → ℕ → Opened
opened_at s records = record { setup = s; records = records }

abbrev pub sizes_of : Setup → Header
sizes_of s = Ok (opened_at s (records_from s))

unfoldable pub sizes_whole : List ℕ → Bool
sizes_whole trace = all_of (leb header_length (length trace) ∷ eqb (spare_in (header_values trace)) 0 ∷ [])

unfoldable pub sizes_at : List ℕ → Header
sizes_at trace = cond (sizes_whole trace) (sizes_of (setup_in (header_values trace))) (Err CutShort)

-- the header with its signatures: 9 where those are cut short
abbrev pub signed : ℕ → Header → Header
signed n (Ok o) = cond (leb o.records n) (Ok o) (Err CutShort)
signed n (Err r) = Err r

unfoldable pub header_at : List ℕ → Header
header_at trace = signed (length trace) (sizes_at trace)

-- the part of the trace that is the supply, and the part behind it; none of a header that is not read
abbrev pub supply_in : Header → List ℕ → List ℕ
supply_in (Ok o) trace = take (supply_length o.setup) (drop header_length trace)
supply_in (Err r) trace = []

abbrev pub records_in : Header → List ℕ → List ℕ
records_in (Ok o) trace = drop o.records trace
records_in (Err r) trace = []

-- a record: its kind in the first byte, then the rest of its head, then its data
unfoldable pub kind_in : Form → List ℕ → ℕ
kind_in f unread = get_or unread 0 0 / 2 ^ (8 - f.kind)

unfoldable pub has_event : Form → ℕ → Bool
has_event f k = all_of (ltb k f.kinds ∷ ltb k kinds ∷ [])

unfoldable pub event_at : Form → ℕ → List ℕ → Event
event_at f k unread = event_of k (fields_in (values_at (head_of f k) unread))

abbrev pub record_at : Event → ℕ → ℕ → ℕ → Record
record_at e start len next = record { event = e; start = start; len = len; next = next }

-- of n bytes, of which the head is the first start: whole with its data, or 9
unfoldable pub data_at : ℕ → ℕ → ℕ → Event → Result Record Refusal
data_at n place start e =
    let len = data_length e in
    cond (leb (start + len) n) (Ok (record_at e start len (place + start + len))) (Err CutShort)

-- in this order: 10 at a place to which the unread length cannot be added; the end, where no bytes are left; 1 for a kind
-- without an event; 9 for a record that is cut short or has a padding bit set
unfoldable pub head_whole : Form → ℕ → List ℕ → Bool
head_whole f k unread =
    let h = head_of f k in
    all_of (leb h.bytes (length unread) ∷ eqb (padding_in (values_at h unread)) 0 ∷ [])

unfoldable pub record_of : Form → ℕ → List ℕ → ℕ → Result Record Refusal
record_of f k unread place =
    cond (head_whole f k unread) (data_at (length unread) place (head_of f k).bytes (event_at f k unread)) (Err CutShort)

abbrev pub found_of : Result Record Refusal → Found
found_of (Ok r) = Ok (Some r)
found_of (Err r) = Err r

unfoldable pub read_at : Form → List ℕ → ℕ → Found
read_at f unread place =
    let k = kind_in f unread in
    cond (leb (2 ^ 64) (place + length unread)) (Err NotAcceptable)
    (cond (eqb (length unread) 0) (Ok None) (cond (has_event f k) (found_of (record_of f k unread place)) (Err NoEvent)))

-- the part of the unread bytes that is a record's data; what is unread behind it, and its place. A refused read, and the
-- end, leave both.
abbrev pub data_in : Found → List ℕ → List ℕ
data_in (Ok None) unread = []
data_in (Err r) unread = []
data_in (Ok (Some r)) unread = take r.len (drop r.start unread)

abbrev pub unread_after : Found → List ℕ → List ℕ
unread_after (Ok None) unread = unread
unread_after (Err r) unread = unread
unread_after (Ok (Some r)) unread = drop r.len (drop r.start unread)

abbrev pub place_after : Found → ℕ → ℕ
place_after (Ok None) place = place
place_after (Err r) place = place
place_after (Ok (Some r)) place = r.next
