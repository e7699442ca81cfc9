-- Frame, slot and record go by the place that the page had.
use mathlib.Core.Path.{refl, ◌∙◌}
use Rattle.core_answer.proofs.Laws.{found}
use Rattle.core_events_application.proofs.Uncloaking.{uncloak_owned, uncloak_listed, uncloak_slot}
use Rattle.core_events_application.proofs.Uncloaking.{uncloak_puts, uncloak_opens, uncloak_leaves}
use Rattle.core_events_application.proofs.pages.uncloak.Goals as goal

pub own_page-own-requires : goal.own_page-own-requires
own_page-own-requires c =
    uncloak_owned c.args.given _ _ _ _ _ _ _ c.requires

pub place_at-place-requires : goal.place_at-place-requires
place_at-place-requires c =
    ((found _ c.requires).tables_long, uncloak_listed c.args.given _ _ _ _ _ _ _ c.requires _ c.own_page-own.ensures)

pub open_home-requires : goal.open_home-requires
open_home-requires c =
    uncloak_opens c.args.given _ _ _ _ _ _ _ c.requires _ c.own_page-own.ensures _ (c.place_at-place.ensures c.args.given.setup.pages)

pub zero_page-requires : goal.zero_page-requires
zero_page-requires c =
    uncloak_slot c.args.given _ _ _ _ _ _ _ c.requires _ c.own_page-own.ensures refl

pub put_place-requires : goal.put_place-requires
put_place-requires c =
    uncloak_puts c.args.given _ _ _ _ _ _ _ c.requires _ c.own_page-own.ensures c.open_home.auto.tables

pub told-requires : goal.told-requires
told-requires c =
    c.put_place.auto.tables ∙ c.open_home.auto.tables ∙ (found _ c.requires).tables_long

pub returns : goal.returns
returns c =
    let was = found _ c.requires in
    let pages = c.args.given.setup.pages in
    let opened = c.open_home.ensures in
    let put = c.put_place.ensures pages in
    c.told.ensures c.args.given.setup _ _ _ _ (put.canonical (opened.canonical was.canonical)) was.saved_long
    ∙ uncloak_leaves c.args.given _ _ _ _ _ _ _ c.requires _ c.own_page-own.ensures _ (c.place_at-place.ensures pages) opened
    c.zero_page.ensures
    put
