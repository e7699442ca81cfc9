-- A run of the code: a call of `core_entry::start`, then calls of `core_entry::step`, each handed the words and bytes that the call
-- before left. Of a call only its promise is used: `Post` is what the checker itself reads of the function's `ensures`.
use Rattle.std.specs.Prelude.{◌≡◌, ℕ, ◌*◌, ◌≤◌, T, List, [], ◌∷◌, length, replicate}
use contract.Lifetimes.{Lfts}
use denote.Triple.Clauses.{AtExit}
use borrow.Fn.Kinds.{Dens, res_t, ended_of}
use Rattle.rules.specs.Sizes.{max_contexts}
use Rattle.rules.specs.Records.{Given, Machine, machine}
use Rattle.rules.specs.Runs.{Ask}
use Rattle.rules.specs.declared.Setup.{Setup}
use Rattle.rules.specs.declared.State.{State}
use Rattle.rules.specs.declared.Tables.{Tables}
use Rattle.core_tables.specs.Image.{image_words, tables_in, state_in}
use Rattle.core_answer.specs.Handed.{Left, left, readable}
use Rattle.core_entry.proofs.start.Kinds as start
use Rattle.core_entry.proofs.start.Reads as start-reads
use Rattle.core_entry.proofs.step.Kinds as step
use Rattle.core_entry.proofs.step.Reads as step-reads

-- what is lent to a run: the words of tables and saved registers, and the bytes of frames and store
pub record Memory : Type 0 where
  pub tables : List ℕ
  pub saved : List ℕ
  pub frames : List ℕ
  pub store : List ℕ

-- as much of it as a setup asks, every word and byte the largest byte
abbrev pub any_memory : Setup → Memory
any_memory s =
    record {
      tables = replicate image_words 255;
      saved = replicate (8 * s.contexts) 255;
      frames = replicate (s.frames * s.size) 255;
      store = replicate (s.domains * s.pages * s.size) 255;
    }

-- the words are as many as the setup asks
pub record WordsRight (s : Setup) (lent : Memory) : Type 0 where
  pub tables : length lent.tables ≡ image_words
  pub saved : length lent.saved ≡ 8 * s.contexts
  pub contexts : s.contexts ≤ max_contexts

-- A call of `core_entry::start` with this setup and supply, lent this memory, may leave l: its promise allows the answer, words and
-- bytes that l is made of.
pub record MayStart (g : Given) (lent : Memory) (l : Left) : Type 0 where
  pub lifetimes : Lfts 5
  pub handed : Dens lifetimes start.ps
  pub result : (res_t start.r lifetimes).Denot
  pub at_exit : AtExit (ended_of 5 start.ps start.r) lifetimes
  pub promise : start-reads.Post lifetimes handed result at_exit
  pub setup : handed.0 ≡ g.setup
  pub tables_lent : handed.1.0.now ≡ lent.tables
  pub saved_lent : handed.1.1.0.now ≡ lent.saved
  pub frames_lent : handed.1.1.1.0.now ≡ lent.frames
  pub store_lent : handed.1.1.1.1.0.now ≡ lent.store
  pub supply_lent : handed.1.1.1.1.1.0.now ≡ g.supply
  pub leaves : left result at_exit.1.0.now at_exit.1.1.0.now at_exit.1.1.1.0.now at_exit.1.1.1.1.0.now [] ≡ l

-- A call of `core_entry::step` with this setup and supply, handed the words and bytes that were left as p, and the event, data and answer
-- buffer of a, may leave l.
pub record MayStep (g : Given) (p : Left) (a : Ask) (l : Left) : Type 0 where
  pub lifetimes : Lfts 7
  pub handed : Dens lifetimes step.ps
  pub result : (res_t step.r lifetimes).Denot
  pub at_exit : AtExit (ended_of 7 step.ps step.r) lifetimes
  pub promise : step-reads.Post lifetimes handed result at_exit
  pub setup : handed.0 ≡ g.setup
  pub tables_lent : handed.1.0.now ≡ p.tables
  pub saved_lent : handed.1.1.0.now ≡ p.saved
  pub frames_lent : handed.1.1.1.0.now ≡ p.frames
  pub store_lent : handed.1.1.1.1.0.now ≡ p.store
  pub supply_lent : handed.1.1.1.1.1.0.now ≡ g.supply
  pub event : handed.1.1.1.1.1.1.0 ≡ a.event
  pub data_lent : handed.1.1.1.1.1.1.1.0.now ≡ a.new
  pub buffer_lent : handed.1.1.1.1.1.1.1.1.0.now ≡ a.buffer
  pub leaves :
      left result at_exit.1.0.now at_exit.1.1.0.now at_exit.1.1.1.0.now at_exit.1.1.1.1.0.now
      at_exit.1.1.1.1.1.1.1.1.0.now
      ≡ l

-- A call for each event asked, the first handed what was left as p, each next what the one before left.
abbrev pub MaySteps : Given → Left → List Ask → List Left → Type 0
MaySteps g p [] [] = Unit {0}
MaySteps g p [] (l ∷ lefts) = ⊥
MaySteps g p (a ∷ asks) [] = ⊥
MaySteps g p (a ∷ asks) (l ∷ lefts) = MayStep g p a l × MaySteps g l asks lefts

-- A run of the code: what the start left, and what the call for each event left.
pub record CodeRun (g : Given) (lent : Memory) (asks : List Ask) : Type 0 where
  pub first : Left
  pub lefts : List Left
  pub starts : MayStart g lent first
  pub steps : MaySteps g first asks lefts

-- what the latest call left
abbrev pub last_of : Left → List Left → Left
last_of p [] = p
last_of p (l ∷ lefts) = last_of l lefts

abbrev pub point : {g : Given} {lent : Memory} {asks : List Ask} → CodeRun g lent asks → Left
point r = last_of r.first r.lefts

-- the tables that the words left hold, and, with the saved registers and the bytes, the rules' machine
abbrev pub tables_left : Setup → Left → Tables
tables_left s l = tables_in s.pages l.tables

abbrev pub held : Setup → Left → Machine
held s l = machine (state_in s l.tables l.saved) l.frames l.store

-- The words left are the one image of a state: they are readable, hold it, and no other words do.
pub record OneImage (s : Setup) (l : Left) (x : State) : Type 0 where
  pub reads : T (readable s l.tables l.saved)
  pub holds : state_in s l.tables l.saved ≡ x
  pub one : (tables saved : List ℕ) → T (readable s tables saved) → state_in s tables saved ≡ x
      → (tables ≡ l.tables) × (saved ≡ l.saved)
