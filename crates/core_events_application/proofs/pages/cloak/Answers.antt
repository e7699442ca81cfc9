-- The frame is sealed, made zero, and the page's.
use mathlib.Core.Path.{◌∙◌}
use Rattle.core_answer.proofs.Laws.{found}
use Rattle.core_events_application.proofs.Cloaking.{cloak_owned, cloak_seals, cloak_fits, cloak_moves, cloak_leaves}
use Rattle.core_events_application.proofs.pages.cloak.Goals as goal

pub own_page-own-requires : goal.own_page-own-requires
own_page-own-requires c =
    cloak_owned c.args.given _ _ _ _ _ _ _ c.requires

pub seal-sealed-requires : goal.seal-sealed-requires
seal-sealed-requires c =
    cloak_seals c.args.given _ _ _ _ _ _ _ c.requires _ c.own_page-own.ensures

pub zero_page-requires : goal.zero_page-requires
zero_page-requires c =
    cloak_fits c.args.given _ _ _ _ _ _ _ c.requires _ c.own_page-own.ensures
    c.seal-sealed.auto.frames

pub put_move-requires : goal.put_move-requires
put_move-requires c =
    cloak_moves c.args.given _ _ _ _ _ _ _ c.requires _ c.own_page-own.ensures
    c.seal-sealed.auto.tables

pub told-requires : goal.told-requires
told-requires c =
    c.put_move.auto.tables ∙ c.seal-sealed.auto.tables ∙ (found _ c.requires).tables_long

pub returns : goal.returns
returns c =
    let was = found _ c.requires in
    let sealed = c.seal-sealed.ensures _ in
    let put = c.put_move.ensures in
    c.told.ensures c.args.given.setup _ _ _ _ (put.canonical (sealed.canonical was.canonical)) was.saved_long
    ∙ cloak_leaves c.args.given _ _ _ _ _ _ _ c.requires _ c.own_page-own.ensures _ sealed.is c.zero_page.ensures put.tables
