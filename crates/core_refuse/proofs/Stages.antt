-- The two stages of an event's checks: those that ask no table, then those on the records. A first stage that refuses is the
-- answer; one that passes leaves it to the second.
use mathlib.Core.Path.{◌≡◌, refl, ◌∙◌}
use mathlib.Core.List.{◌++◌}
use Prim.Native.Nat.{ℕ}
use Rattle.rules.specs.Events.{row}
use Rattle.rules.specs.Answers.{first_of, checks}
use Rattle.rules.specs.Refusals.{number_of}
use Rattle.core_refuse_event.specs.Stages.{shape_checks, by_shape}
use Rattle.core_refuse_event.proofs.Within.{domain_below, page_below, frame_below, context_below}
use Rattle.core_refuse.specs.Stages.{record_checks, seal_checks, by_row, standing}
use Rattle.core_refuse.proofs.Orders.{stage_refused, stage_passed}
use Rattle.core_refuse.proofs.Asked.{map, kernel_write, write, trap}
use Rattle.rules.specs.declared.Setup.{Setup}
use Rattle.rules.specs.declared.Tables.{Tables}
use Rattle.rules.specs.declared.Event.{Event}
use Rattle.rules.specs.declared.Refusal.{Refusal}

module _ (s : Setup) (t : Tables) (e : Event) (new room : ℕ) where
  stages : checks s t e (row s t e) new room ≡ by_shape s e (row s t e) new room ++ by_row s t (row s t e)
  unfolding checks by_shape shape_checks by_row record_checks seal_checks
  stages = refl

  pub shape_refused : (r : Refusal) → number_of r ≡ first_of (by_shape s e (row s t e) new room)
      → number_of r ≡ first_of (checks s t e (row s t e) new room)
  shape_refused r q = rw stages (stage_refused _ _ r q)

  pub shape_passed : 0 ≡ first_of (by_shape s e (row s t e) new room) → first_of (checks s t e (row s t e) new room) ≡ standing s t e
  unfolding standing
  shape_passed q = rw stages (stage_passed s e (row s t e) new room _ q)

pub ruleset in_stages = (
  shape_refused,
  shape_passed,
  domain_below,
  page_below,
  frame_below,
  context_below,
  map,
  kernel_write,
  write,
  trap,
)
