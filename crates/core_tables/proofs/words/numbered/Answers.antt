-- `words::numbered` meets its contract.
use native.Mathlib.Omega.{arith}
use Rattle.core_tables.proofs.Codes.{named_code}
use Rattle.core_tables.proofs.words.numbered.Goals as goal

pub returns : goal.returns
returns c = named_code _ _ _ (omega arith) c.requires.0
