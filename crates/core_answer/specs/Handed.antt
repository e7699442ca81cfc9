-- What an event is handed and what it leaves, each as one record with every lent word and byte in it. `stepped` says what the
-- rules make of the one: it is the promise of the code that the other equals it.
use Rattle.std.specs.Prelude.{List, [], ◌∷◌, Bool, cond, ℕ, ◌*◌, length, eqb}
use Rattle.rules.specs.Bytes.{all_of}
use Rattle.rules.specs.Records.{Given, Machine, given, machine}
use Rattle.rules.specs.Answers.{Outcome, refusal, refused, step}
use Rattle.rules.specs.declared.Setup.{Setup}
use Rattle.rules.specs.declared.Event.{Event}
use Rattle.rules.specs.declared.Answer.{Answer}
use Rattle.core_tables.specs.Image.{image_words, state_in, image_of, saved_words, canonical}

pub record Handed : Type 0 where
  pub setup : Setup
  pub tables : List ℕ  -- words of 16 bits
  pub saved : List ℕ  -- words of 64 bits
  pub frames : List ℕ
  pub store : List ℕ
  pub supply : List ℕ
  pub event : Event
  pub new : List ℕ  -- its data
  pub buffer : List ℕ  -- for its answer

abbrev pub handed : Setup → List ℕ → List ℕ → List ℕ → List ℕ → List ℕ → Event → List ℕ → List ℕ → Handed
handed setup tables saved frames store supply event new buffer =
    record {
      setup = setup;
      tables = tables;
      saved = saved;
      frames = frames;
      store = store;
      supply = supply;
      event = event;
      new = new;
      buffer = buffer;
    }

pub record Left : Type 0 where
  pub answer : Answer
  pub tables : List ℕ
  pub saved : List ℕ
  pub frames : List ℕ
  pub store : List ℕ
  pub buffer : List ℕ

abbrev pub left : Answer → List ℕ → List ℕ → List ℕ → List ℕ → List ℕ → Left
left answer tables saved frames store buffer =
    record { answer = answer; tables = tables; saved = saved; frames = frames; store = store; buffer = buffer }

-- what the rules go by
abbrev pub given_in : Handed → Given
given_in h = given h.setup h.supply

abbrev pub machine_in : Handed → Machine
machine_in h = machine (state_in h.setup h.tables h.saved) h.frames h.store

-- the lent words are the image of a state: as many as it has, and each record in its one coding
unfoldable pub readable : Setup → List ℕ → List ℕ → Bool
readable s tables saved =
    all_of (eqb (length tables) image_words ∷ eqb (length saved) (8 * s.contexts) ∷ canonical s.pages tables ∷ [])

-- what an event is refused with, or 0: words that are no image are not acceptable
unfoldable pub refuses : Handed → ℕ
refuses h =
    cond (readable h.setup h.tables h.saved)
    (refusal (given_in h) (machine_in h) h.event (length h.new) (length h.buffer))
    10

-- the answer of an outcome
abbrev pub answer_of : Outcome → Answer
answer_of o = record { number = o.number; seals = o.seals; unveils = o.unveils; used = o.used }

-- an outcome of the rules', its state as words
abbrev pub leaves : Setup → Outcome → Left
leaves s o =
    left (answer_of o) (image_of s.pages o.machine.tables) (saved_words s.contexts o.machine.saved)
    o.machine.frames o.machine.store o.buffer

-- a refusal: every word and byte is as it was
abbrev pub keeps : ℕ → Handed → Left
keeps n h =
    left (answer_of (refused n (machine_in h) h.buffer)) h.tables h.saved h.frames h.store h.buffer

-- what an event leaves: granted, the words of the rules' next state; refused, all as it was
unfoldable pub stepped : Handed → Left
stepped h =
    cond (eqb (refuses h) 0) (leaves h.setup (step (given_in h) h.event h.new h.buffer (machine_in h)))
    (keeps (refuses h) h)

-- what is left by an event that is done, or answered 8: its answer tells the machine's own counts
abbrev pub ends : Setup → ℕ → Machine → List ℕ → Left
ends s number m buffer =
    left (record { number = number; seals = m.seals; unveils = m.unveils; used = m.tables.used })
    (image_of s.pages m.tables) (saved_words s.contexts m.saved) m.frames m.store buffer
