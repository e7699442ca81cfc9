-- `standing::takes_named` meets its contract, by what the frame's word tells (Frames).
use mathlib.Core.Path.{sym, ◌∙◌}
use Rattle.rules.specs.Sealing.{takes_named}
use Rattle.core_tables.proofs.Slots.{slot_none}
use Rattle.core_refuse.proofs.Frames.{listed, takes_there}
use Rattle.core_refuse.proofs.standing.takes_named.Goals as goal

pub returns-then-named-eq0 : goal.returns-then-named-eq0
unfolding takes_named
returns-then-named-eq0 c =
    let word = c.slot_at-named.ensures c.args.setup.pages c.requires.0.canonical in
    rw (slot_none c.args.setup.pages _ (sym word ∙ c.if-named-eq0.true))

pub place_at-place-requires : goal.place_at-place-requires
place_at-place-requires c =
    let word = c.slot_at-named.ensures c.args.setup.pages c.requires.0.canonical in
    (c.requires.0.long, listed c.args.setup _ c.args.f c.requires.0 c.requires.1 _ word c.if-named-eq0.false)

pub returns : goal.returns
returns c =
    let v = c.args.setup.pages in
    let word = c.slot_at-named.ensures v c.requires.0.canonical in
    takes_there c.args.setup _ c.args.f c.requires.0 c.requires.1 _ word c.if-named-eq0.false _ _
    (c.place_at-place.ensures v)
    c.takes.ensures
