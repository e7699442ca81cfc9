-- The page is brought in, and unless that failed, the data is stored in its frame and the page marked.
use mathlib.Core.Path.{◌∙◌}
use Rattle.core_answer.proofs.Laws.{found}
use Rattle.core_events_application.proofs.Touching.{write_owned, write_brings, write_fits, write_marks, write_fails}
use Rattle.core_events_application.proofs.Touching.{write_stores, known_effect}
use Rattle.core_events_application.proofs.pages.write.Goals as goal

pub own_page-own-requires : goal.own_page-own-requires
own_page-own-requires c =
    write_owned c.args.given _ _ _ _ _ _ _ c.args.span c.requires

pub bring_in-to_write-requires : goal.bring_in-to_write-requires
bring_in-to_write-requires c =
    write_brings c.args.given _ _ _ _ _ _ _ _ c.requires _ c.own_page-own.ensures

pub put_span-requires : goal.put_span-requires
put_span-requires c =
    write_fits c.args.given _ _ _ _ _ _ _ _ c.requires _ c.own_page-own.ensures c.bring_in-to_write.auto.frames

pub mark_dirty-requires : goal.mark_dirty-requires
mark_dirty-requires c =
    write_marks c.args.given _ _ _ _ _ _ _ _ c.requires _ c.own_page-own.ensures c.bring_in-to_write.auto.tables

pub told-requires : goal.told-requires
told-requires c =
    c.mark_dirty.auto.tables ∙ c.bring_in-to_write.auto.tables ∙ (found _ c.requires).tables_long

pub told-requires-in-Err : goal.told-requires-in-Err
told-requires-in-Err c =
    c.bring_in-to_write.auto.tables ∙ (found _ c.requires).tables_long

pub returns-in-Ok : goal.returns-in-Ok
returns-in-Ok c =
    let was = found _ c.requires in
    let brought = c.bring_in-to_write.ensures _ in
    let came = known_effect c.args.given.setup _ _ _ _ c.in-Ok.is brought.is in
    let marked = c.mark_dirty.ensures c.args.given.setup.pages in
    c.told.ensures c.args.given.setup _ _ _ _ (marked.canonical (brought.canonical was.canonical)) was.saved_long
    ∙ write_stores c.args.given _ _ _ _ _ _ _ _ c.requires _ c.own_page-own.ensures _ came c.put_span.ensures marked.tables

pub returns-in-Err : goal.returns-in-Err
returns-in-Err c =
    let was = found _ c.requires in
    let brought = c.bring_in-to_write.ensures _ in
    let came = known_effect c.args.given.setup _ _ _ _ c.in-Err.is brought.is in
    rw c.from-number.ensures at c.told-in-Err.ensures c.args.given.setup _ _ _ _ (brought.canonical was.canonical) was.saved_long
    ∙ write_fails c.args.given _ _ _ _ _ _ _ _ c.requires _ c.own_page-own.ensures _ came
