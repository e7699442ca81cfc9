-- `standing::spawn` meets its contract: a context's domain is one of the setup's, so its record is in the table.
use native.Mathlib.Omega.{arith}
use Rattle.core_tables.proofs.Homes.{home}
use Rattle.core_refuse.proofs.standing.spawn.Goals as goal

pub life_at-life-requires : goal.life_at-life-requires
life_at-life-requires c =
    let h = c.requires in
    let a = c.args in
    let own = home _ _ h.0.limited h.0.agreed a.c h.1 in
    let here = rw (← c.activity_at-activity.ensures a.setup.pages, ← c.domain-home.ensures) at own in
    (h.0.long, omega (arith, here, h.0.limited.domains))
