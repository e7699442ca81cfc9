use Rattle.std.proofs.Common.{arith}
use Rattle.core_sound.proofs.Room.{room}
use Rattle.core_sound.proofs.Telling.{early_tells, excess_tells}
use Rattle.core_sound.proofs.early.Goals as goal

pub overflow_mul-all : goal.overflow_mul-all
overflow_mul-all c = let r = room _ c.requires.1 in omega arith

pub section-domains-requires : goal.section-domains-requires
section-domains-requires c = let r = room _ c.requires.1 in omega arith

pub overflow_mul-setup : goal.overflow_mul-setup
overflow_mul-setup c = let r = room _ c.requires.1 in omega arith

pub overflow_cast-setup : goal.overflow_cast-setup
overflow_cast-setup c = let r = room _ c.requires.1 in omega arith

pub section-contexts-requires : goal.section-contexts-requires
section-contexts-requires c = let r = room _ c.requires.1 in omega arith

pub overflow_cast-all : goal.overflow_cast-all
overflow_cast-all c = let r = room _ c.requires.1 in omega arith

pub section-frames-requires : goal.section-frames-requires
section-frames-requires c = let r = room _ c.requires.1 in omega arith

pub untouched-past-requires : goal.untouched-past-requires
untouched-past-requires c =
    let r = room _ c.requires.1 in
    (c.requires.0, r.all, omega arith)

pub overflow_cast-setup-2 : goal.overflow_cast-setup-2
overflow_cast-setup-2 c = let r = room _ c.requires.1 in omega arith

pub returns : goal.returns
returns c =
    early_tells c.args.setup c.args.tables.now c.section-domains.ensures c.section-contexts.ensures c.section-frames.ensures
    c.untouched-past.ensures (excess_tells _ _ c.saturating_sub-used.ensures)
