-- `saved::registers_at` meets its contract: there are eight words, and all are copied.
use mathlib.Core.Path.{sym, ap, ◌∙◌}
use lib.ListN.{length}
use Rattle.core_tables.proofs.Registers.{saved_eight}
use Rattle.core_tables.proofs.saved.registers_at.Goals as goal

pub copy_from_slice-requires : goal.copy_from_slice-requires
copy_from_slice-requires c =
    let h = c.requires in
    sym (ap length c.saved_at.ensures ∙ saved_eight _ _ _ h.0 h.2)
