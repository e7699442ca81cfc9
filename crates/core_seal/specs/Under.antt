-- The work of an event under way, in the words of the rules.
use Rattle.std.specs.Prelude.{◌≡◌, List, [], ℕ, Result, Ok, Err}
use Rattle.rules.specs.Records.{Machine, underway}
use Rattle.rules.specs.Sealing.{Effect}
use Rattle.core_tables.specs.Image.{tables_in, Canonical}
use Rattle.rules.specs.declared.Setup.{Setup}
use Rattle.rules.specs.declared.Registers.{Registers}
use Rattle.core_seal.specs.declared.Work.{Work}
use Rattle.core_seal.specs.declared.NotUnveiled.{NotUnveiled}

-- the machine: the counts, the saved registers, the tables' words, the frames' and the store's bytes
abbrev pub during : Setup → Work → List Registers → List ℕ → List ℕ → List ℕ → Machine
during s w saved words frames store = underway (tables_in s.pages words) saved frames store w.seals w.unveils

-- the work done by bringing in, whether or not a page was unveiled, and what it is answered with: 0, or 8 where none was
abbrev pub work_of : Result Work NotUnveiled → Work
work_of (Ok w) = w
work_of (Err e) = e.0

abbrev pub number_of : Result Work NotUnveiled → ℕ
number_of (Ok w) = 0
number_of (Err e) = 8

-- what bringing in comes to: it gives no bytes of its own
abbrev pub effect : Setup → Result Work NotUnveiled → List Registers → List ℕ → List ℕ → List ℕ → Effect
effect s b saved words frames store =
    record { machine = during s (work_of b) saved words frames store; number = number_of b; bytes = [] }

-- what a function leaves is what the rule says, and of a canonical image it leaves a canonical one; v pages are each domain's
pub record Leaves (v : ℕ) (x y : List ℕ) {A : Type 0} (left rule : A) : Type 0 where
  pub is : left ≡ rule
  pub canonical : Canonical v x → Canonical v y
