-- `mask_fits` meets its contract: the column of each kind, opened.
use native.Mathlib.Omega.{arith}
use Rattle.std.proofs.lemmas.Grind.{common_steps}
use Rattle.rules.specs.Events.{row, on_records, on_frame, acting, on_page, touching, mask_fits}
use Rattle.core_refuse_event.proofs.mask_fits.Goals as goal

pub returns : goal.returns
unfolding row on_records on_frame acting on_page touching mask_fits
returns c = grind (arith, common_steps)
