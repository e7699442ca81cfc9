use Rattle.std.proofs.Common.{refl, arith}
use Rattle.core_sound.proofs.Telling.{both}
use Rattle.core_sound.proofs.LaidOut.{late_told}
use Rattle.core_sound.proofs.ways.late.Goals as goal

pub lay_out-names-requires : goal.lay_out-names-requires
lay_out-names-requires c =
    let r = c.requires in
    (r.0, r.1, refl, λ f h. omega (arith, r.3 f h, r.2))

pub returns : goal.returns
returns c = late_told _ _ _ _ c.lay_out-names.ensures.0 (both c.lay_out-names.ensures.1 c.pages_kept-kept.ensures)
