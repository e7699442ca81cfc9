-- What an event's function is handed and what it leaves, read off its parameters: a `Given`, and what is lent, part by part or as a `Lent`.
use Rattle.std.specs.Prelude.{List, ℕ}
use Rattle.std.specs.Borrow.{MutBor}
use Rattle.rules.specs.declared.Event.{Event}
use Rattle.rules.specs.declared.Answer.{Answer}
use Rattle.core_answer.specs.declared.lent.Given.{Given}
use Rattle.core_answer.specs.declared.lent.Lent.{Lent}
use Rattle.core_answer.specs.Handed.{Handed, handed, Left, left}

-- what an event's function is handed whose parts are lent one by one
abbrev pub handed_with : Given → List ℕ → List ℕ → List ℕ → List ℕ → List ℕ → Event → Handed
handed_with g tables saved frames store answer event =
    handed g.setup tables saved frames store g.supply.now event g.«data».now answer

abbrev pub handed_in : Given → Lent → Event → Handed
handed_in g l event = handed_with g l.tables.now l.saved.now l.frames.now l.store.now l.answer.now event

-- a `Lent` at its exit: its fields in nested pairs
abbrev pub AtExit : Type 0
AtExit = MutBor (List ℕ) × (MutBor (List ℕ) × (MutBor (List ℕ) × (MutBor (List ℕ) × (MutBor (List ℕ) × Unit {0}))))

abbrev pub left_by : Answer → AtExit → Left
left_by answer l = left answer l.0.now l.1.0.now l.1.1.0.now l.1.1.1.0.now l.1.1.1.1.0.now
