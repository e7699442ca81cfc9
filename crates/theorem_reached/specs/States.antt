-- Words of the theorems on reached states: the machine that a run reaches, what it answers, and when clean pages agree with the store.
use Rattle.std.specs.Prelude.{◌≡◌, List, ℕ, ◌<◌}
use Rattle.rules.specs.Records.{Given, Machine, place_of, frame_bytes, slot_bytes}
use Rattle.rules.specs.Answers.{Outcome, step, start}
use Rattle.rules.specs.Runs.{Ask, after}
use Rattle.rules.specs.declared.Setup.{Setup}
use Rattle.rules.specs.declared.Asid.{Asid}
use Rattle.rules.specs.declared.Gvpn.{Gvpn}
use Rattle.rules.specs.declared.Gppn.{Gppn}
use Rattle.rules.specs.declared.Wear.TheVariants.{Clean}
use Rattle.rules.specs.declared.Place.TheVariants.{Clear}

-- the machine that a run reaches from a fresh start over the lent frames and store
abbrev pub reached : Given → List ℕ → List ℕ → List Ask → Machine
reached g frames store asks = after g (start g frames store) asks

-- what a machine answers
abbrev pub answered : Given → Machine → Ask → Outcome
answered g m a = step g a.event a.new a.buffer m

-- each page that is Clear and clean has the same bytes in its frame and in its slot
unfoldable pub CleanAgree : Setup → Machine → Type 0
CleanAgree s m =
    (d : Asid) (v : Gvpn) (f : Gppn) (k : ℕ) → d.0 < s.domains → v.0 < s.pages
    → place_of s m.tables d v ≡ Clear f (Clean k) → frame_bytes s f m ≡ slot_bytes s d v m
