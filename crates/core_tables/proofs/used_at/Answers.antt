use Rattle.std.proofs.Common.{refl}
use Rattle.core_tables.specs.Image.{tables_in}
use Rattle.core_tables.proofs.used_at.Goals as goal

pub returns : goal.returns
unfolding tables_in
returns c = λ v. refl
