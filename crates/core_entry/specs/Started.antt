-- Document 01, "Sizes": what a start leaves, with every lent word and byte in it. The words are all zero, whether it is taken or refused,
-- which is the image of fresh tables (theorem_code/proofs/Fresh.antt); frames and store are zero, or, refused with 10, as they were.
use Rattle.std.specs.Prelude.{◌≡◌, ℕ, Bool, cond, List, [], length}
use Rattle.rules.specs.Bytes.{zeros}
use Rattle.rules.specs.declared.Setup.{Setup}
use Rattle.rules.specs.declared.Answer.{Answer}
use Rattle.core_answer.specs.Handed.{Left, left}
use Rattle.core_tables.specs.Lent.{Slice, MutSlice}
use Rattle.core_accept.specs.Acceptable.{startable_in}

-- taken or not
abbrev pub started_by : Bool → List ℕ → List ℕ → List ℕ → List ℕ → Left
started_by taken tables saved frames store =
    left (record { number = cond taken 0 10; seals = 0; unveils = 0; used = 0 }) (zeros (length tables)) (zeros (length saved))
    (cond taken (zeros (length frames)) frames) (cond taken (zeros (length store)) store) []

unfoldable pub started : Setup → List ℕ → List ℕ → List ℕ → List ℕ → List ℕ → Left
started s tables saved frames store supply =
    started_by (startable_in s tables saved frames store supply) tables saved frames store

-- the contract of a start, over its parameters
abbrev pub Starts : Setup → MutSlice → MutSlice → MutSlice → MutSlice → Slice → Answer → Type 0
Starts s tables saved frames store supply r =
    left r tables.exit.now saved.exit.now frames.exit.now store.exit.now []
    ≡ started s tables.entry.now saved.entry.now frames.entry.now store.entry.now supply.entry.now
