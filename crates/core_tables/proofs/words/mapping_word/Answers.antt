-- `words::mapping_word` meets its contract.
use native.Mathlib.Omega.{arith}
use Rattle.core_tables.proofs.Codes.{unmapped_code, mapped_code}
use Rattle.core_tables.proofs.words.mapping_word.Goals as goal

pub returns-in-None : goal.returns-in-None
returns-in-None c = rw c.in-None.is unmapped_code

pub returns-in-Some : goal.returns-in-Some
returns-in-Some c = rw c.in-Some.is (mapped_code _ (omega arith))
