-- What a run of the code tells: the bytes of an answer, what the kernel is told, when two runs differ only in what is the
-- application's alone, and a run's past. The words are those of `theorem_secrecy` and `theorem_freshness`, said of what the calls left.
use Rattle.std.specs.Prelude.{◌≡◌, ℕ, ◌<◌, cond, List, [], ◌∷◌, take, ◌==◌, None}
use Rattle.rules.specs.Records.{Given, life_of, names_of, frame_bytes}
use Rattle.rules.specs.Events.{answer_length}
use Rattle.rules.specs.Runs.{Ask}
use Rattle.rules.specs.Example.{Seen, says}
use Rattle.rules.specs.declared.Setup.{Setup}
use Rattle.rules.specs.declared.Tables.{Tables}
use Rattle.rules.specs.declared.Asid.{Asid}
use Rattle.rules.specs.declared.Gppn.{Gppn}
use Rattle.rules.specs.declared.Span.{Span}
use Rattle.rules.specs.declared.Life.TheVariants.{Stopped}
use Rattle.rules.specs.declared.Event.{Event}
use Rattle.rules.specs.declared.Event.TheVariants.{KernelRead}
use Rattle.rules.specs.declared.Answer.{Answer}
use Rattle.core_answer.specs.Handed.{Handed, handed, Left}
use Rattle.theorem_secrecy.specs.Secrets.{DifferInSecrets, for_application}
use Rattle.theorem_freshness.specs.Past.{Past}
use Rattle.theorem_code.specs.Calls.{MayStep, tables_left, held}

-- an event with its data and its answer buffer
abbrev pub asking : Event → List ℕ → List ℕ → Ask
asking e new buffer = record { event = e; new = new; buffer = buffer }

-- what the call for an event is handed, after what was left as p
abbrev pub handed_on : Given → Left → Ask → Handed
handed_on g p a = handed g.setup p.tables p.saved p.frames p.store g.supply a.event a.new a.buffer

-- the answer of an event, or a start, that is refused with 10
abbrev pub ten : Answer
ten = record { number = 10; seals = 0; unveils = 0; used = 0 }

-- the bytes of an answer: where it is done, the front of the answer buffer, as long as the event's answer is
abbrev pub answer_bytes : Event → Left → List ℕ
answer_bytes e l = cond (l.answer.number == 0) (take (answer_length e) l.buffer) []

-- what the kernel is told of an event asked of tables t: number, seals, unveils and used, and the answer's bytes where they are not
-- for the application alone
abbrev pub kernel_told : Setup → Tables → Event → Left → Seen
kernel_told s t e l =
    says l.answer.number l.answer.seals l.answer.unveils l.answer.used (cond (for_application s t e) [] (answer_bytes e l))

-- The events of two runs differ only in what is the application's alone: event by event, with the tables of that moment, which are
-- those that the first run's call before, p at first, left.
abbrev pub DifferOnlyInSecrets : Setup → Left → List Left → List Ask → List Ask → Type 0
DifferOnlyInSecrets s p [] [] [] = Unit {0}
DifferOnlyInSecrets s p [] [] (b ∷ others) = ⊥
DifferOnlyInSecrets s p [] (a ∷ asks) others = ⊥
DifferOnlyInSecrets s p (l ∷ lefts) [] others = ⊥
DifferOnlyInSecrets s p (l ∷ lefts) (a ∷ asks) [] = ⊥
DifferOnlyInSecrets s p (l ∷ lefts) (a ∷ asks) (b ∷ others) =
    DifferInSecrets s (tables_left s p) a b × DifferOnlyInSecrets s l lefts asks others

-- What two calls left is the same to the kernel: every word of the tables, which hold all but saved registers; each frame that names no
-- page; and what a kernel read, made by a further call of either, would answer and leave in the answer buffer, of any span of any frame.
pub record SameToKernel (g : Given) (p q : Left) : Type 0 where
  pub tables : p.tables ≡ q.tables
  pub frames : (f : Gppn) → f.0 < g.setup.frames → names_of (tables_left g.setup p) f ≡ None
      → frame_bytes g.setup f (held g.setup p) ≡ frame_bytes g.setup f (held g.setup q)
  pub looks : (f : Gppn) (x : Span) (buffer : List ℕ) (l k : Left)
      → MayStep g p (asking (KernelRead f x) [] buffer) l
      → MayStep g q (asking (KernelRead f x) [] buffer) k
      → (l.answer ≡ k.answer) × (l.buffer ≡ k.buffer)

-- Two runs of the code that have left p and q: what they have left is the same to the kernel at each point, and it is told the same of
-- each event.
abbrev pub SameRuns : Given → Left → Left → List Ask → List Ask → List Left → List Left → Type 0
SameRuns g p q [] [] [] [] = SameToKernel g p q
SameRuns g p q [] [] [] (k ∷ rights) = ⊥
SameRuns g p q [] [] (l ∷ lefts) rights = ⊥
SameRuns g p q [] (b ∷ others) lefts rights = ⊥
SameRuns g p q (a ∷ asks) [] lefts rights = ⊥
SameRuns g p q (a ∷ asks) (b ∷ others) [] rights = ⊥
SameRuns g p q (a ∷ asks) (b ∷ others) (l ∷ lefts) [] = ⊥
SameRuns g p q (a ∷ asks) (b ∷ others) (l ∷ lefts) (k ∷ rights) =
    SameToKernel g p q
    × (kernel_told g.setup (tables_left g.setup p) a.event l ≡ kernel_told g.setup (tables_left g.setup q) b.event k)
    × SameRuns g l k asks others lefts rights

-- a run's past, the latest event first: what was asked, and the number answered
unfoldable pub past_of : List Ask → List Left → List Past → List Past
past_of [] lefts earlier = earlier
past_of (a ∷ asks) [] earlier = earlier
past_of (a ∷ asks) (l ∷ lefts) earlier =
    past_of asks lefts (record { event = a.event; new = a.new; number = l.answer.number } ∷ earlier)

-- the answer is 8, and the domain is Stopped
abbrev pub Stopping : Setup → Asid → Left → Type 0
Stopping s d l = (l.answer.number ≡ 8) × (life_of (tables_left s l) d ≡ Stopped)
