-- Document 01, "What the promises have to say": any two answers that an entry point's promise allows are equal, and so are any two sets of
-- words and bytes left. Stated over what the check itself reads of the function's `ensures`, so that it cannot drift from the promise.
use mathlib.Core.Path.{sym, ◌∙◌}
use Rattle.std.specs.Prelude.{ℕ, List, []}
use Rattle.rules.specs.OneAnswer.{OneAnswer, OneSight}
use Rattle.core_answer.specs.Handed.{Left, left}
use Rattle.core_look.specs.Look.{Pointer}
use Rattle.core_entry.proofs.start as start
use Rattle.core_entry.proofs.step as step
use Rattle.core_entry.proofs.look as look
use Rattle.core_entry.proofs.look_number as look-number

-- Of a start: the answer, and tables, saved registers, frames and store as they are left.
pub one_start : OneSight 5 start.Kinds.ps start.Kinds.r start.Reads.Learnt Left
    (λ κs x e. left x e.1.0.now e.1.1.0.now e.1.1.1.0.now e.1.1.1.1.0.now [])
one_start κs a x y e f p q = p ∙ sym q

-- Of an event: the answer, and tables, saved registers, frames, store and answer buffer as they are left.
pub one_step : OneSight 7 step.Kinds.ps step.Kinds.r step.Reads.Learnt Left
    (λ κs x e.
    left x e.1.0.now e.1.1.0.now e.1.1.1.0.now e.1.1.1.1.0.now
    e.1.1.1.1.1.1.1.1.0.now)
one_step κs a x y e f p q = p ∙ sym q

-- Of a look: the bytes handed back, and where they stand.
pub one_look : OneSight 3 look.Kinds.ps look.Kinds.r look.Reads.Learnt (List ℕ × Pointer) (λ κs x e. (x.now, x.ref_ptr))
one_look κs a x y e f p q = λ i. ((p.bytes ∙ sym q.bytes) i, (p.stands ∙ sym q.stands) i)

-- Of the question beside it: the number.
pub one_look_number : OneAnswer 4 look-number.Kinds.ps look-number.Kinds.r look-number.Reads.Learnt
one_look_number κs a x y e f p q = p ∙ sym q
