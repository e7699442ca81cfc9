-- Each list of runs gives what it says, worked out from the rules.
use mathlib.Core.Path.{◌≡◌, refl}
use mathlib.Core.List.{map}
use Rattle.rules.specs.Example.{result}
use Rattle.rules.proofs.Computing.{computing}
use Rattle.rules_runs.specs.Fourteen.{fourteen}
use Rattle.rules_runs.specs.Further.{further}

-- Document 01's fourteen runs give the numbers, seals, unveils, used counts and bytes that it lists.
pub fourteen_hold : map result fourteen ≡ map (λ r. r.gives) fourteen
unfolding computing fourteen
fourteen_hold = refl

-- So do the further ones.
pub further_hold : map result further ≡ map (λ r. r.gives) further
unfolding computing further
further_hold = refl
