-- Where a run of the code stands: at the image of what the rules reach, or, its start refused, where that left it.
use Rattle.std.proofs.Common.{◌≡◌, ℕ, Bool, true, false, cond, List, [], map, sym, refl, ap, ◌∙◌, arith}
use Rattle.rules.specs.Records.{Given}
use Rattle.rules.specs.Answers.{start_refusal, start}
use Rattle.rules.specs.Runs.{Ask, run}
use Rattle.core_answer.specs.Handed.{Left, leaves}
use Rattle.core_entry.specs.Started.{started}
use Rattle.theorem_reached.specs.States.{reached}
use Rattle.theorem_freshness.specs.Past.{past}
use Rattle.theorem_code.specs.Calls.{Memory, WordsRight, MayStep, CodeRun, point}
use Rattle.theorem_code.specs.Told.{past_of}
use Rattle.theorem_code.proofs.Calls.{start_left}
use Rattle.theorem_code.proofs.Stands.{Stands, taken, taken_right, rules_refuse, start_stands, last_stands, all_left}
use Rattle.theorem_code.proofs.Refused.{Off, left_as, start_off, off_left, last_off}
use Rattle.theorem_code.proofs.Follows.{Follows, frames_of, start_follows, last_follows, same_past}

module _ {g : Given} {lent : Memory} {asks : List Ask} (r : CodeRun g lent asks) where
  number_told : r.first.answer.number ≡ cond (taken g lent) 0 10
  unfolding started
  number_told = ap (λ (l : Left). l.answer.number) (start_left g lent r.first r.starts)

  is_taken : (b : Bool) → ◌≡◌ {A = ℕ} (cond b 0 10) 0 → b ≡ true
  is_taken true e = refl
  is_taken false e = absurd (omega arith)

  is_refused : (b : Bool) → ◌≡◌ {A = ℕ} (cond b 0 10) 10 → b ≡ false
  is_refused true e = absurd (omega arith)
  is_refused false e = refl

  -- a start that was taken
  module _ (ok : r.first.answer.number ≡ 0) where
    pub was_taken : taken g lent ≡ true
    was_taken = is_taken (taken g lent) (sym number_told ∙ ok)

    pub words_right : WordsRight g.setup lent
    words_right = taken_right g lent was_taken

    pub rules_start : start_refusal g lent.frames lent.store ≡ 0
    rules_start = rules_refuse g lent words_right ∙ sym number_told ∙ ok

  pub run_stands : WordsRight g.setup lent → Stands g (point r) (reached g lent.frames lent.store asks)
  run_stands right =
      last_stands g r.first (start g lent.frames lent.store) (start_stands g lent right r.first r.starts) asks r.lefts
      r.steps

  pub run_left : WordsRight g.setup lent → r.lefts ≡ map (leaves g.setup) (run g lent.frames lent.store asks)
  unfolding run
  run_left right =
      all_left g r.first (start g lent.frames lent.store) (start_stands g lent right r.first r.starts) asks r.lefts
      r.steps

  -- a start that was refused
  pub was_refused : r.first.answer.number ≡ 10 → taken g lent ≡ false
  was_refused no_start = is_refused (taken g lent) (sym number_told ∙ no_start)

  pub run_off : taken g lent ≡ false → Off g lent (point r)
  run_off untaken = last_off g lent r.first (start_off g lent untaken r.first r.starts) asks r.lefts r.steps

  pub refused_left : r.first.answer.number ≡ 10 → (a : Ask) (l : Left) → MayStep g (point r) a l → l ≡ left_as lent a.buffer
  refused_left no_start a l c = off_left g lent (point r) (run_off (was_refused no_start)) a l c

  -- either: the frames of the rules' run
  abbrev pub ran : List ℕ
  ran = frames_of g lent (taken g lent)

  pub run_follows : Follows g lent (point r) (reached g ran lent.store asks)
  run_follows =
      last_follows g lent r.first (start g ran lent.store) (start_follows g lent r.first r.starts) asks r.lefts r.steps

  pub heard_is : past_of asks r.lefts [] ≡ past g ran lent.store asks
  heard_is =
      same_past g lent r.first (start g ran lent.store) (start_follows g lent r.first r.starts) asks r.lefts r.steps []
