-- `saved::saved_at` meets its contract.
use mathlib.Core.Path.{sym}
use native.Mathlib.Nat.{add-sub_cancel_left}
use Rattle.core_tables.proofs.Registers.{saved_there}
use Rattle.core_tables.proofs.saved.saved_at.Goals as goal

pub returns : goal.returns
returns c = rw add-sub_cancel_left (sym (saved_there _ _ _ c.requires.2))
