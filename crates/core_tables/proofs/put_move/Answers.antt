use Rattle.core_tables.specs.Put.{set_names}
use Rattle.core_tables.proofs.Puts.{then}
use Rattle.core_tables.proofs.put_move.Goals as goal

pub returns : goal.returns
returns c =
    let a = c.args in
    then (set_names a.frame a.names) (c.put_place.ensures a.pages) c.put_names.ensures
