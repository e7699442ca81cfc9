-- Document 01, "The trace form": the listing of a trace, by the reader's steps and the core's. A point is what a run has come to, with
-- every lent word and byte in it; from it follow its next line and the point behind that, and so all the lines to the end.
use Rattle.std.specs.Prelude.{ℕ, zero, suc, ◌+◌, Bool, cond, ◌&&◌, ◌||◌, List, [], ◌∷◌, ◌++◌, Some, None, Ok, Err, length, take, drop, ◌==◌}
use Rattle.std.specs.Prelude.{nat_lt, slice_index}
use Rattle.rules.specs.Bytes.{zeros}
use Rattle.rules.specs.Refusals.{number_of}
use Rattle.rules.specs.Events.{kind_of, answer_length}
use Rattle.rules.specs.declared.Setup.{Setup}
use Rattle.rules.specs.declared.Event.{Event}
use Rattle.core_tables.specs.Image.{used_at, image_words}
use Rattle.core_answer.specs.Handed.{Handed, Left, handed, stepped}
use Rattle.core_entry.specs.Started.{started}
use Rattle.trace_form.specs.Form.{first}
use Rattle.trace_read.specs.Reading.{Header, Found, header_at, supply_in, read_at, data_in}
use Rattle.listing_line.specs.Lines.{decimal, line, refused_line}
use Rattle.listing.specs.Opening.{saved_length, frames_length, store_length, opening_at}
use Rattle.listing.specs.declared.Run.{Run}

-- the trace, the run over it, and what is lent: words of tables and of saved registers, and bytes; the supply is the trace's
pub record Point : Type 0 where
  pub trace : List ℕ
  pub run : Run
  pub tables : List ℕ
  pub saved : List ℕ
  pub frames : List ℕ
  pub store : List ℕ
  pub buffer : List ℕ

abbrev pub point : List ℕ → Run → List ℕ → List ℕ → List ℕ → List ℕ → List ℕ → Point
point trace run tables saved frames store buffer =
    record { trace = trace; run = run; tables = tables; saved = saved; frames = frames; store = store; buffer = buffer }

abbrev pub run_at : Setup → ℕ → ℕ → Run
run_at setup place index = record { setup = setup; place = place; index = index }

abbrev pub supply_of : List ℕ → List ℕ
supply_of trace = supply_in (header_at trace) trace

abbrev pub unread : Point → List ℕ
unread p = drop p.run.place p.trace

-- bytes are left to read
abbrev pub more : Point → Bool
more p = nat_lt p.run.place (length p.trace)

-- a line, and the point behind it
pub record Listed : Type 0 where
  pub line : List ℕ
  pub next : Point

-- the answer of kinds 4 and 13 is shown, when done
abbrev pub shows_answer : Event → Bool
shows_answer e = kind_of e == 4 || kind_of e == 13

unfoldable pub is_shown : Event → ℕ → Bool
is_shown e number = shows_answer e && number == 0

-- how many bytes that is; they stand at the front of the answer buffer
unfoldable pub shown_length : Event → ℕ → ℕ
shown_length e number = cond (is_shown e number) (answer_length e) 0

abbrev pub shown : Event → Left → List ℕ
shown e l = take (shown_length e l.answer.number) l.buffer

unfoldable pub event_line : ℕ → Event → Left → List ℕ
event_line index e l = line index (decimal (kind_of e)) l.answer (shown e l)

-- behind a record, which ends at next
abbrev pub behind_run : Run → ℕ → Run
behind_run run next = run_at run.setup next (run.index + 1)

-- what its event leaves there
abbrev pub behind : Point → ℕ → Left → Point
behind p next l =
    point p.trace (behind_run p.run next) l.tables l.saved l.frames l.store l.buffer

-- at the trace's end, nothing else changed
abbrev pub ended_run : Run → ℕ → Run
ended_run run end = run_at run.setup end run.index

abbrev pub ended : Point → Point
ended p =
    point p.trace (ended_run p.run (length p.trace)) p.tables p.saved p.frames p.store p.buffer

-- what the core is handed with a record
abbrev pub handed_at : Point → Event → List ℕ → Handed
handed_at p e new =
    handed p.run.setup p.tables p.saved p.frames p.store (supply_of p.trace) e new p.buffer

unfoldable pub event_listed : Point → Event → ℕ → List ℕ → Listed
event_listed p e next new =
    let l = stepped (handed_at p e new) in
    record { line = event_line p.run.index e l; next = behind p next l }

-- the used count as it stands; 0 where the words are too few to have one
abbrev pub used_in : List ℕ → ℕ
used_in tables = slice_index tables used_at

-- a record is an event; one that is refused ends the list
unfoldable pub listed_as : Point → Found → Listed
listed_as p (Ok None) = record { line = []; next = ended p }
listed_as p (Ok (Some r)) = event_listed p r.event r.next (data_in (Ok (Some r)) (unread p))
listed_as p (Err n) = record { line = refused_line p.run.index (number_of n) (used_in p.tables); next = ended p }

unfoldable pub listed : Point → Listed
listed p = listed_as p (read_at first (unread p) p.run.place)

-- all of them, at most n
unfoldable pub listed_in : ℕ → Point → List Listed
listed_in zero p = []
listed_in (suc n) p =
    let l = listed p in
    let all = l ∷ listed_in n l.next in
    cond (more p) all []

-- every record takes a byte
unfoldable pub listed_from : Point → List Listed
listed_from p = listed_in (length p.trace) p

unfoldable pub text_of : List Listed → List ℕ
text_of [] = []
text_of (l ∷ ls) = l.line ++ text_of ls

unfoldable pub lines_from : Point → List ℕ
lines_from p = text_of (listed_from p)

-- the start over what is lent: the records from place on
unfoldable pub start_point : List ℕ → Setup → ℕ → List ℕ → List ℕ → List ℕ → List ℕ → List ℕ → Point
start_point trace s place tables saved frames store buffer =
    let l = started s tables saved frames store (supply_of trace) in
    point trace (run_at s place 0) l.tables l.saved l.frames l.store buffer

-- trace-run's answer buffer
abbrev pub answer_room : ℕ
answer_room = 4096

-- trace-run lends zeros, as many as the setup asks for
unfoldable pub listing_of : List ℕ → Header → List ℕ
listing_of trace (Err n) = refused_line 0 (number_of n) 0
listing_of trace (Ok o) =
    let s = o.setup in
    lines_from
    (start_point trace s o.records (zeros image_words) (zeros (saved_length s)) (zeros (frames_length s)) (zeros (store_length s))
    (zeros answer_room))

-- what trace-run prints
unfoldable pub listing : List ℕ → List ℕ
listing trace = listing_of trace (opening_at trace)
