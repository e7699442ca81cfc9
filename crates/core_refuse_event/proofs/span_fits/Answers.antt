-- `span_fits` meets its contract: the column of each kind, opened.
use native.Mathlib.Omega.{arith}
use Rattle.std.proofs.lemmas.Grind.{common_steps}
use Rattle.rules.specs.Events.{row, on_records, on_frame, acting, on_page, touching}
use Rattle.core_refuse_event.proofs.span_fits.Goals as goal

pub returns-in-KernelRead : goal.returns-in-KernelRead
unfolding row on_records on_frame acting on_page touching
returns-in-KernelRead c = grind (arith, common_steps)

pub returns-in_default : goal.returns-in_default
unfolding row on_records on_frame acting on_page touching
returns-in_default c = grind (arith, common_steps)
