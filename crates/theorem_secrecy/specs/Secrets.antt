-- Words of demand 3's first half: when two runs differ only in what is the application's alone, and what is the same to the
-- kernel at a point of both.
use Rattle.std.specs.Prelude.{◌≡◌, List, [], ◌∷◌, Bool, true, false, not, cond, ℕ, ◌-◌, ◌*◌, ◌/◌, ◌%◌, ◌^◌, ◌<◌}
use Rattle.std.specs.Prelude.{length, take, drop, eqb, None}
use Rattle.rules.specs.Records.{Given, Machine, is_public, names_of, frame_bytes}
use Rattle.rules.specs.Events.{own_place}
use Rattle.rules.specs.Answers.{Outcome, step}
use Rattle.rules.specs.Runs.{Ask}
use Rattle.rules.specs.Example.{Seen, says, seen}
use Rattle.rules.specs.declared.Setup.{Setup}
use Rattle.rules.specs.declared.Tables.{Tables}
use Rattle.rules.specs.declared.Gppn.{Gppn}
use Rattle.rules.specs.declared.Span.{Span}
use Rattle.rules.specs.declared.TrapKind.{TrapKind}
use Rattle.rules.specs.declared.TrapKind.TheVariants.{Interrupt, Call}
use Rattle.rules.specs.declared.Event.{Event}
use Rattle.rules.specs.declared.Event.TheVariants.{Begin, End, Map, Unmap, KernelRead, KernelWrite, Resume}
use Rattle.rules.specs.declared.Event.TheVariants.{Spawn, Leave, Cloak, Uncloak, Read, Write, Trap}
use Rattle.theorem_reached.specs.States.{answered}

-- What is the application's alone, in an event's data

-- the eight bytes of register i among the sixty-four
abbrev pub register_of : ℕ → List ℕ → List ℕ
register_of i new = take 8 (drop (i * 8) new)

-- the kernel may see a call's registers whose mask bit is 1, the most significant bit being register 0; an interrupt's it may not
abbrev pub may_be_seen : TrapKind → ℕ → ℕ → Bool
may_be_seen Interrupt mask i = false
may_be_seen Call mask i = eqb (mask / 2 ^ (7 - i) % 2) 1

-- the two data agree, but for bytes written to a page that is private in tables t, and for registers that a trap may not show
abbrev pub SameButSecrets : Setup → Tables → Event → List ℕ → List ℕ → Type 0
SameButSecrets s t (Begin d c) x y = x ≡ y
SameButSecrets s t (End d) x y = x ≡ y
SameButSecrets s t (Map d v f) x y = x ≡ y
SameButSecrets s t (Unmap d v) x y = x ≡ y
SameButSecrets s t (KernelRead f p) x y = x ≡ y
SameButSecrets s t (KernelWrite f p) x y = x ≡ y
SameButSecrets s t (Resume d c) x y = x ≡ y
SameButSecrets s t (Spawn c u) x y = x ≡ y
SameButSecrets s t (Leave c) x y = x ≡ y
SameButSecrets s t (Cloak c v) x y = x ≡ y
SameButSecrets s t (Uncloak c v) x y = x ≡ y
SameButSecrets s t (Read c v p) x y = x ≡ y
SameButSecrets s t (Write c v p) x y = is_public (own_place s t c v) ≡ true → x ≡ y
SameButSecrets s t (Trap c k mask) x y = (i : ℕ) → i < 8 → may_be_seen k mask i ≡ true → register_of i x ≡ register_of i y

-- two events with their data and answer buffers, asked of a machine with tables t
pub record DifferInSecrets (s : Setup) (t : Tables) (a b : Ask) : Type 0 where
  pub event : a.event ≡ b.event
  pub data_length : length a.new ≡ length b.new
  pub room : length a.buffer ≡ length b.buffer
  pub secrets : SameButSecrets s t a.event a.new b.new

-- Two lists of events differ only in what is the application's alone: event by event, with the tables of that moment, which
-- are those of the first run.
abbrev pub DifferOnlyInSecrets : Given → Machine → List Ask → List Ask → Type 0
DifferOnlyInSecrets g m [] [] = Unit {0}
DifferOnlyInSecrets g m [] (b ∷ others) = ⊥
DifferOnlyInSecrets g m (a ∷ asks) [] = ⊥
DifferOnlyInSecrets g m (a ∷ asks) (b ∷ others) =
    DifferInSecrets g.setup m.tables a b × DifferOnlyInSecrets g (answered g m a).machine asks others

-- What the kernel is given

-- the answer's bytes go to the application alone: registers that are resumed, and bytes read from a private page
abbrev pub for_application : Setup → Tables → Event → Bool
for_application s t (Begin d c) = false
for_application s t (End d) = false
for_application s t (Map d v f) = false
for_application s t (Unmap d v) = false
for_application s t (KernelRead f p) = false
for_application s t (KernelWrite f p) = false
for_application s t (Resume d c) = true
for_application s t (Spawn c u) = false
for_application s t (Leave c) = false
for_application s t (Cloak c v) = false
for_application s t (Uncloak c v) = false
for_application s t (Read c v p) = not (is_public (own_place s t c v))
for_application s t (Write c v p) = false
for_application s t (Trap c k mask) = false

-- what the kernel is told of an event asked of a machine with tables t: its number, seals, unveils and used, and the answer's
-- bytes where they are not for the application alone
abbrev pub told : Setup → Tables → Event → Outcome → Seen
told s t e o = says o.number o.seals o.unveils o.used (cond (for_application s t e) [] o.bytes)

-- Two machines are the same to the kernel: their tables, which hold all but saved registers; each frame that names no page; and
-- what a kernel read would give next, of any span of any frame.
pub record SameToKernel (g : Given) (m n : Machine) : Type 0 where
  pub tables : m.tables ≡ n.tables
  pub frames : (f : Gppn) → f.0 < g.setup.frames → names_of m.tables f ≡ None
      → frame_bytes g.setup f m ≡ frame_bytes g.setup f n
  pub looks : (f : Gppn) (p : Span) (buffer : List ℕ)
      → seen (step g (KernelRead f p) [] buffer m) ≡ seen (step g (KernelRead f p) [] buffer n)

-- Two runs, from machines m and n: the machines are the same to the kernel at each point, and it is told the same of each event.
abbrev pub SameRuns : Given → Machine → Machine → List Ask → List Ask → Type 0
SameRuns g m n [] [] = SameToKernel g m n
SameRuns g m n [] (b ∷ others) = ⊥
SameRuns g m n (a ∷ asks) [] = ⊥
SameRuns g m n (a ∷ asks) (b ∷ others) =
    SameToKernel g m n
    × (told g.setup m.tables a.event (answered g m a) ≡ told g.setup n.tables b.event (answered g n b))
    × SameRuns g (answered g m a).machine (answered g n b).machine asks others

-- all that the kernel is told in a run
unfoldable pub transcript : Given → Machine → List Ask → List Seen
transcript g m [] = []
transcript g m (a ∷ asks) =
    let o = answered g m a in
    told g.setup m.tables a.event o ∷ transcript g o.machine asks
