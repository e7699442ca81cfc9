-- Demand 3, first half: what the administrator of the guest kernel can learn of the service's memory. For every setup, supply and
-- lists of events with their data and answer buffers. The words are in specs/Secrets.antt.
use mathlib.Core.Path.{◌≡◌}
use mathlib.Core.List.{List}
use Prim.Native.Nat.{ℕ}
use Rattle.rules.specs.Records.{Given}
use Rattle.rules.specs.Answers.{start_refusal, start}
use Rattle.rules.specs.Runs.{Ask}
use Rattle.theorem_secrecy.specs.Secrets.{DifferOnlyInSecrets, SameRuns, transcript}
use Rattle.theorem_secrecy.proofs.TwoRuns.{same_told}
use Rattle.theorem_secrecy.proofs.TwoStarts.{started_runs}

-- Two runs start, each over whatever frames and store it was lent, and their events differ only in bytes written to pages that are
-- private at that moment and in registers that a trap does not show.
module _ (g : Given) (frames frames' store store' : List ℕ) (started : start_refusal g frames store ≡ 0)
    (started' : start_refusal g frames' store' ≡ 0) (asks others : List Ask)
    (secrets : DifferOnlyInSecrets g (start g frames store) asks others) where
  -- Then the kernel is told the same of every event: number, seals, unveils, used, and the answer's bytes but for those that go
  -- to the application alone. And at every point, before, between and after the events, the tables agree but for saved
  -- registers, every frame that names no page holds the same bytes, and a kernel read of any span of any frame would give the
  -- same.
  pub secret : SameRuns g (start g frames store) (start g frames' store') asks others
  secret = started_runs g frames frames' store store' started started' asks others secrets

  -- In one equation: all that the kernel is told in the two runs is the same list.
  pub same_transcript : transcript g (start g frames store) asks ≡ transcript g (start g frames' store') others
  same_transcript = same_told g asks others (start g frames store) (start g frames' store') secret
