-- The refusals' numbers, document 01's, and the number of a check's result: 0 where nothing is refused.
use Rattle.std.specs.Prelude.{◌≡◌, ℕ, Result, Ok, Err}
use Rattle.rules.specs.declared.Refusal.{Refusal}
use Rattle.rules.specs.declared.Refusal.TheVariants as refused

abbrev pub number_of : Refusal → ℕ
number_of refused.NoEvent = 1
number_of refused.OutOfRange = 2
number_of refused.BadLength = 3
number_of refused.WrongCondition = 4
number_of refused.NotMapped = 5
number_of refused.NoSignature = 6
number_of refused.Stopped = 7
number_of refused.NotUnveiled = 8
number_of refused.CutShort = 9
number_of refused.NotAcceptable = 10
number_of refused.NoRoom = 11

abbrev pub IsNumber : Refusal → ℕ → Type 0
IsNumber r n = n ≡ number_of r

-- of what may be refused
abbrev pub number_in : {A : Type 0} → Result A Refusal → ℕ
number_in (Ok _) = 0
number_in (Err r) = number_of r
