-- `kernel_write` meets its contract: the frame is sealed, and the data then stored in it.
use mathlib.Core.Path.{◌∙◌}
use Rattle.core_answer.proofs.Laws.{found}
use Rattle.core_events_kernel.proofs.Touching.{write_seals, write_fits, write_leaves}
use Rattle.core_events_kernel.proofs.kernel_write.Goals as goal

pub seal-sealed-requires : goal.seal-sealed-requires
seal-sealed-requires c =
    write_seals c.args.given _ _ _ _ _ _ c.args.span c.requires

pub put_span-requires : goal.put_span-requires
put_span-requires c =
    write_fits c.args.given _ _ _ _ _ _ _ c.requires c.seal-sealed.auto.frames

pub told-requires : goal.told-requires
told-requires c =
    c.seal-sealed.auto.tables ∙ (found _ c.requires).tables_long

pub returns : goal.returns
returns c =
    let was = found _ c.requires in
    let sealed = c.seal-sealed.ensures _ in
    c.told.ensures c.args.given.setup _ _ _ _ (sealed.canonical was.canonical) was.saved_long
    ∙ write_leaves c.args.given _ _ _ _ _ _ _ c.requires _ sealed.is c.put_span.ensures
