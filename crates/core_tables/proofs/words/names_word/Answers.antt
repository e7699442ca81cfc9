-- `words::names_word` meets its contract.
use Rattle.core_tables.proofs.Codes.{nothing_code}
use Rattle.core_tables.proofs.words.names_word.Goals as goal

pub returns-in-None : goal.returns-in-None
returns-in-None c = rw c.in-None.is (nothing_code _)
