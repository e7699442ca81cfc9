-- The first of the rules' checks of an event (`checks`, specs/Answers.antt there): those that ask no table.
use Rattle.std.specs.Prelude.{List, [], ◌∷◌, Bool, not, ℕ, eqb, ltb}
use Rattle.rules.specs.Bytes.{all_of}
use Rattle.rules.specs.Events.{Row, numbers_in, data_length, answer_length}
use Rattle.rules.specs.Answers.{Check, check}
use Rattle.rules.specs.declared.Setup.{Setup}
use Rattle.rules.specs.declared.Event.{Event}

-- 1, 2, 3, 11, by what each test says
unfoldable pub shape_checks : Bool → Bool → Bool → Bool → List Check
shape_checks mask numbers lengths short =
    check 1 (not mask) ∷ check 2 (not numbers) ∷ check 3 (not lengths) ∷ check 11 short ∷ []

unfoldable pub by_shape : Setup → Event → Row → ℕ → ℕ → List Check
by_shape s e r new room =
    shape_checks r.mask (numbers_in s e) (all_of (r.span ∷ eqb new (data_length e) ∷ [])) (ltb room (answer_length e))
