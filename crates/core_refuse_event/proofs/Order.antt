-- The checks that ask no table, as tests made one after the other.
use mathlib.Core.Path.{◌≡◌}
use mathlib.Core.Bool.{◌&&◌, not, cond, and-true}
use Prim.Native.Nat.{ℕ}
use lib.Dec.{eqb, ltb}
use Rattle.rules.specs.Bytes.{all_of}
use Rattle.rules.specs.Events.{Row, numbers_in, data_length, answer_length}
use Rattle.rules.specs.Answers.{check, first_of}
use Rattle.core_refuse_event.specs.Stages.{shape_checks, by_shape}
use Rattle.rules.specs.declared.Setup.{Setup}
use Rattle.rules.specs.declared.Event.{Event}

pub in_order : (s : Setup) (e : Event) (r : Row) (new room : ℕ)
    → first_of (by_shape s e r new room)
    ≡ cond (not r.mask) 1
    (cond (not (numbers_in s e)) 2 (cond (not (r.span && eqb new (data_length e))) 3 (cond (ltb room (answer_length e)) 11 0)))
unfolding by_shape shape_checks check first_of all_of
in_order s e r new room = rw and-true
