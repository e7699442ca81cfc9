-- `names_in` meets its contract: a domain's pages have consecutive numbers.
use mathlib.Core.Path.{◌∙◌}
use native.Mathlib.Omega.{arith}
use Rattle.std.proofs.lemmas.Bool.{le-ltb}
use Rattle.core_end.proofs.Naming.{names_below, names_to_end}
use Rattle.core_end.proofs.names_in.Goals as goal

pub returns-then-first-n : goal.returns-then-first-n
returns-then-first-n c = λ names fit is. names_to_end _ _ c.args.d names fit is (omega arith)

pub returns-else-first-n : goal.returns-else-first-n
returns-else-first-n c = λ names fit is. le-ltb _ _ (omega arith) ∙ names_below _ _ c.args.d names fit is (omega arith)
