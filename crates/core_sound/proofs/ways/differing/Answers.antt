use Rattle.core_sound.proofs.Telling.{xor_tells, told}
use Rattle.core_sound.proofs.ways.differing.Goals as goal

pub returns-else-k-eq0 : goal.returns-else-k-eq0
returns-else-k-eq0 c = told (λ p ne. p) (λ p. p c.if-k-eq0.false) (xor_tells _ _)
