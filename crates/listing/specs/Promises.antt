-- The contracts of the functions that go over a trace, over their own parameters: what they leave is the listing's own step from the
-- point at which they were called.
use Rattle.std.specs.Prelude.{◌≡◌, ℕ, List, [], length}
use Rattle.rules.specs.declared.Setup.{Setup}
use Rattle.core_tables.specs.Lent.{Slice, MutSlice}
use Rattle.core_answer.specs.declared.lent.Lent.{Lent}
use Rattle.trace_read.specs.declared.Record.{Record}
use Rattle.listing.specs.Listing.{Point, point, event_listed, listed, start_point}
use Rattle.listing.specs.Filling.{Fills, left, turns, filled}
use Rattle.listing.specs.declared.Run.{Run}
use Rattle.listing.specs.declared.Filled.{Filled}

-- the point at the call
abbrev pub called : Slice → Run → MutSlice → MutSlice → MutSlice → MutSlice → MutSlice → Point
called trace run tables saved frames store answer =
    point trace.entry.now run tables.entry.now saved.entry.now frames.entry.now store.entry.now
    answer.entry.now

-- what the call leaves
abbrev pub leaves : Slice → MutSlice → MutSlice → MutSlice → MutSlice → MutSlice → MutSlice → Filled → Fills
leaves trace tables saved frames store answer out r =
    left r trace.entry.now tables.exit.now saved.exit.now frames.exit.now store.exit.now answer.exit.now
    out.exit.now

-- the run before the record at a place
abbrev pub Starts : Slice → Setup → ℕ → MutSlice → MutSlice → MutSlice → MutSlice → Run → Type 0
Starts trace setup place tables saved frames store r =
    point trace.entry.now r tables.exit.now saved.exit.now frames.exit.now store.exit.now []
    ≡ start_point trace.entry.now setup place tables.entry.now saved.entry.now frames.entry.now
    store.entry.now []

-- the same of what is lent as one
abbrev pub lent_point : List ℕ → Run → Lent → Point
lent_point trace run l = point trace run l.tables.now l.saved.now l.frames.now l.store.now l.answer.now

abbrev pub lent_left : Filled → List ℕ → Lent → List ℕ → Fills
lent_left r trace l out = record { count = r.count; end = lent_point trace r.run l; out = out }

-- the slices that are lent stay the same ones, and the answer buffer as long
pub record SameLent (before after : Lent) : Type 0 where
  pub tables : after.tables.ghost_name ≡ before.tables.ghost_name
  pub saved : after.saved.ghost_name ≡ before.saved.ghost_name
  pub frames : after.frames.ghost_name ≡ before.frames.ghost_name
  pub store : after.store.ghost_name ≡ before.store.ghost_name
  pub answer : after.answer.ghost_name ≡ before.answer.ghost_name
  pub long : length after.answer.now ≡ length before.answer.now

-- the line of an event, and the line of what stands at the run's place, each from at on
abbrev pub ListsEvent : Run → Record → List ℕ → List ℕ → Lent → List ℕ → ℕ → Fills → Type 0
ListsEvent run found new trace lent out at f =
    f ≡ turns at (event_listed (lent_point trace run lent) found.event found.next new) out

abbrev pub ListsNext : Run → List ℕ → Lent → List ℕ → ℕ → Fills → Type 0
ListsNext run trace lent out at f = f ≡ turns at (listed (lent_point trace run lent)) out

-- as many lines as surely fit
abbrev pub ListsFitting : Run → Slice → MutSlice → MutSlice → MutSlice → MutSlice → MutSlice → MutSlice → Filled → Type 0
ListsFitting run trace tables saved frames store answer out r =
    leaves trace tables saved frames store answer out r
    ≡ filled (called trace run tables saved frames store answer) out.entry.now
