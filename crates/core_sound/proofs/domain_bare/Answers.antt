use Rattle.std.proofs.Common.{◌-◌, arith}
use native.Mathlib.Nat.{mul-le-mul}
use Rattle.rules.specs.Sizes.{max_domains, max_pages}
use Rattle.core_sound.proofs.Telling.{bare_tells}
use Rattle.core_sound.proofs.domain_bare.Goals as goal

pub overflow_mul-row : goal.overflow_mul-row
overflow_mul-row c =
    let a = c.args in
    omega (arith, mul-le-mul {n₁ = a.d} {m₁ = a.pages} {n₂ = max_domains - 1} {m₂ = max_pages} (omega arith) (omega arith))

pub overflow_add-row : goal.overflow_add-row
overflow_add-row c =
    let a = c.args in
    omega (arith, mul-le-mul {n₁ = a.d} {m₁ = a.pages} {n₂ = max_domains - 1} {m₂ = max_pages} (omega arith) (omega arith))

pub untouched-requires : goal.untouched-requires
untouched-requires c =
    let a = c.args in
    let m = mul-le-mul {n₁ = a.d} {m₁ = a.pages} {n₂ = max_domains - 1} {m₂ = max_pages} (omega arith) (omega arith) in
    (c.requires.0, omega arith, omega arith)

pub returns : goal.returns
returns c = bare_tells _ _ _ c.deserted.ensures c.untouched.ensures
