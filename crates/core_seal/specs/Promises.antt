-- The contracts of sealing, unveiling and bringing in, over a function's own parameters: whatever the saved registers, what is left is what
-- the rule says, and of a canonical image a canonical one is left.
use Rattle.std.specs.Prelude.{List, ℕ, Result}
use Rattle.rules.specs.Records.{given, place_of}
use Rattle.rules.specs.Sealing.{seal, seal_all, unveil, sealed_first, bring_in}
use Rattle.rules.specs.declared.Setup.{Setup}
use Rattle.rules.specs.declared.Registers.{Registers}
use Rattle.rules.specs.declared.Asid.{Asid}
use Rattle.rules.specs.declared.Gvpn.{Gvpn}
use Rattle.rules.specs.declared.Gppn.{Gppn}
use Rattle.core_tables.specs.Image.{tables_in}
use Rattle.core_tables.specs.Lent.{Slice, MutSlice}
use Rattle.core_seal.specs.Under.{during, effect, Leaves}
use Rattle.core_seal.specs.declared.Work.{Work}
use Rattle.core_seal.specs.declared.NotUnveiled.{NotUnveiled}

-- what is Clear in frame f is sealed
abbrev pub Seals : Setup → Work → MutSlice → MutSlice → MutSlice → Slice → Gppn → Work → Type 0
Seals s work tables frames store supply f r =
    (z : List Registers)
    → Leaves s.pages tables.entry.now tables.exit.now
    (during s r z tables.exit.now frames.exit.now store.exit.now)
    (seal (given s supply.entry.now) f (during s work z tables.entry.now frames.entry.now store.entry.now))

-- the page d, v, Sealed with signature k, is unveiled at frame f
abbrev pub Unveils : Setup → Work → MutSlice → MutSlice → Slice → Slice → Gppn → Asid → Gvpn → ℕ → Result Work NotUnveiled → Type 0
Unveils s work tables frames store supply f d v k r =
    (z : List Registers)
    → Leaves s.pages tables.entry.now tables.exit.now
    (effect s r z tables.exit.now frames.exit.now store.entry.now)
    (unveil (given s supply.entry.now) f d v k
    (during s work z tables.entry.now frames.entry.now store.entry.now))

-- what is Clear in frame f is sealed, then the page d, v is brought in there
abbrev pub SealsAndUnveils : Setup → Work → MutSlice → MutSlice → MutSlice → Slice → Gppn → Asid → Gvpn → Result Work NotUnveiled → Type 0
SealsAndUnveils s work tables frames store supply f d v r =
    (z : List Registers)
    → Leaves s.pages tables.entry.now tables.exit.now
    (effect s r z tables.exit.now frames.exit.now store.exit.now)
    (bring_in (given s supply.entry.now) f d v
    (seal (given s supply.entry.now) f (during s work z tables.entry.now frames.entry.now store.entry.now)))

-- the frames that come first are sealed, then the page d, v is brought in at frame f
abbrev pub BringsIn : Setup → Work → MutSlice → MutSlice → MutSlice → Slice → Gppn → Asid → Gvpn → Result Work NotUnveiled → Type 0
BringsIn s work tables frames store supply f d v r =
    (z : List Registers)
    → Leaves s.pages tables.entry.now tables.exit.now
    (effect s r z tables.exit.now frames.exit.now store.exit.now)
    (bring_in (given s supply.entry.now) f d v
    (seal_all (given s supply.entry.now) (sealed_first f (place_of s (tables_in s.pages tables.entry.now) d v))
    (during s work z tables.entry.now frames.entry.now store.entry.now)))
