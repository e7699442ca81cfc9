-- Words for a page that comes back stale: a context that touches its own page, the signature that the page bears, and when its domain
-- stops.
use Rattle.std.specs.Prelude.{◌≡◌, ◌≢◌, Bool, false, ℕ, ◌<◌, eqb}
use Rattle.rules.specs.Records.{Given, Machine, life_of}
use Rattle.rules.specs.Sealing.{signature, seal_all}
use Rattle.rules.specs.Events.{row}
use Rattle.rules.specs.Answers.{Outcome, outset}
use Rattle.rules.specs.declared.Asid.{Asid}
use Rattle.rules.specs.declared.Gvpn.{Gvpn}
use Rattle.rules.specs.declared.Ctc.{Ctc}
use Rattle.rules.specs.declared.Span.{Span}
use Rattle.rules.specs.declared.Life.TheVariants.{Stopped}
use Rattle.rules.specs.declared.Wear.TheVariants.{Dirty, Clean}
use Rattle.rules.specs.declared.Place.{Place}
use Rattle.rules.specs.declared.Place.TheVariants.{Public, Clear, Sealed}
use Rattle.rules.specs.declared.Event.{Event}
use Rattle.rules.specs.declared.Event.TheVariants.{Read, Write}

-- a context touches its own page, to read or to write a span of it
pub data Touch : Type 0 where
  reading : Touch
  writing : Touch

abbrev pub touch : Touch → Ctc → Gvpn → Span → Event
touch reading c v x = Read c v x
touch writing c v x = Write c v x

-- the machine as an event finds it once what stands in its way is sealed
abbrev pub touched : Given → Machine → Event → Machine
touched g m e = seal_all g (row g.setup m.tables e).seals (outset m)

-- the page's latest signature is k
abbrev pub bears : ℕ → Place → Bool
bears k Public = false
bears k (Clear f Dirty) = false
bears k (Clear f (Clean j)) = eqb j k
bears k (Sealed j) = eqb j k

-- the answer is 8, and the domain is Stopped
abbrev pub Stops : Asid → Outcome → Type 0
Stops d o = (o.number ≡ 8) × (life_of o.machine.tables d ≡ Stopped)

-- the supply's signatures differ
abbrev pub Distinct : Given → Type 0
Distinct g = (j k : ℕ) → j < g.setup.signatures → k < g.setup.signatures → j ≢ k → signature g j ≢ signature g k
