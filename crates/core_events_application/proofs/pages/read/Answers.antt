-- The page is brought in, and unless that failed, what is then in its frame is given.
use mathlib.Core.Path.{◌∙◌}
use Rattle.core_answer.proofs.Laws.{found}
use Rattle.core_events_application.proofs.Touching.{read_owned, read_brings, read_fits, read_fails, read_gives, known_effect}
use Rattle.core_events_application.proofs.pages.read.Goals as goal

pub own_page-own-requires : goal.own_page-own-requires
own_page-own-requires c =
    read_owned c.args.given _ _ _ _ _ _ _ c.args.span c.requires

pub bring_in-to_read-requires : goal.bring_in-to_read-requires
bring_in-to_read-requires c =
    read_brings c.args.given _ _ _ _ _ _ _ _ c.requires _ c.own_page-own.ensures

pub give_span-requires : goal.give_span-requires
give_span-requires c =
    read_fits c.args.given _ _ _ _ _ _ _ _ c.requires _ c.own_page-own.ensures c.bring_in-to_read.auto.frames

pub told-requires : goal.told-requires
told-requires c =
    c.bring_in-to_read.auto.tables ∙ (found _ c.requires).tables_long

pub told-requires-in-Err : goal.told-requires-in-Err
told-requires-in-Err c =
    c.bring_in-to_read.auto.tables ∙ (found _ c.requires).tables_long

pub returns-in-Ok : goal.returns-in-Ok
returns-in-Ok c =
    let was = found _ c.requires in
    let brought = c.bring_in-to_read.ensures _ in
    let came = known_effect c.args.given.setup _ _ _ _ c.in-Ok.is brought.is in
    c.told.ensures c.args.given.setup _ _ _ _ (brought.canonical was.canonical) was.saved_long
    ∙ read_gives c.args.given _ _ _ _ _ _ _ _ c.requires _ c.own_page-own.ensures _ came c.give_span.ensures

pub returns-in-Err : goal.returns-in-Err
returns-in-Err c =
    let was = found _ c.requires in
    let brought = c.bring_in-to_read.ensures _ in
    let came = known_effect c.args.given.setup _ _ _ _ c.in-Err.is brought.is in
    rw c.from-number.ensures at c.told-in-Err.ensures c.args.given.setup _ _ _ _ (brought.canonical was.canonical) was.saved_long
    ∙ read_fails c.args.given _ _ _ _ _ _ _ _ c.requires _ c.own_page-own.ensures _ came
