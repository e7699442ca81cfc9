-- `standing::own_records` meets its contract: the context's domain and the page are within the tables.
use native.Mathlib.Omega.{arith}
use Rattle.core_tables.proofs.Homes.{home}
use Rattle.core_refuse.proofs.standing.own_records.Goals as goal

pub life_at-life-requires : goal.life_at-life-requires
life_at-life-requires c =
    let h = c.requires in
    let a = c.args in
    let own = home _ _ h.0.limited h.0.agreed a.c h.1 in
    let here = rw (← c.activity_at-activity.ensures a.setup.pages, ← c.domain-home.ensures) at own in
    (h.0.long, omega (arith, here, h.0.limited.domains))

pub page_number-slot-requires : goal.page_number-slot-requires
page_number-slot-requires c =
    let h = c.requires in
    let a = c.args in
    let own = home _ _ h.0.limited h.0.agreed a.c h.1 in
    (h.0.limited, rw (c.domain-home.ensures, c.activity_at-activity.ensures a.setup.pages) own, h.2)
