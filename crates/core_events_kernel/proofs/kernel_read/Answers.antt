-- `kernel_read` meets its contract: the frame is sealed, and what is then in it is given.
use mathlib.Core.Path.{◌∙◌}
use Rattle.core_answer.proofs.Laws.{found}
use Rattle.core_events_kernel.proofs.Touching.{read_seals, read_fits, read_leaves}
use Rattle.core_events_kernel.proofs.kernel_read.Goals as goal

pub seal-sealed-requires : goal.seal-sealed-requires
seal-sealed-requires c =
    read_seals c.args.given _ _ _ _ _ _ c.args.span c.requires

pub give_span-requires : goal.give_span-requires
give_span-requires c =
    read_fits c.args.given _ _ _ _ _ _ _ c.requires c.seal-sealed.auto.frames

pub told-requires : goal.told-requires
told-requires c =
    c.seal-sealed.auto.tables ∙ (found _ c.requires).tables_long

pub returns : goal.returns
returns c =
    let was = found _ c.requires in
    let sealed = c.seal-sealed.ensures _ in
    c.told.ensures c.args.given.setup _ _ _ _ (sealed.canonical was.canonical) was.saved_long
    ∙ read_leaves c.args.given _ _ _ _ _ _ _ c.requires _ sealed.is c.give_span.ensures
