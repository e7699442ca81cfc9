-- The contracts of functions that do an event: over what they are handed, and over what they leave.
use Rattle.std.specs.Prelude.{◌≡◌, List, ℕ, ◌*◌, length}
use Rattle.rules.specs.declared.Setup.{Setup}
use Rattle.rules.specs.declared.Answer.{Answer}
use Rattle.core_tables.specs.Image as image
use Rattle.core_answer.specs.Handed.{Handed, Left, left, refuses, stepped, keeps, ends}

-- what is handed in is not refused: what each event's function asks
abbrev pub Granted : Handed → Type 0
Granted h = refuses h ≡ 0

-- the answer, and every word and byte left, are what the rules' step of what is handed in leaves: what an event's function promises
abbrev pub Steps : Handed → Left → Type 0
Steps h l = l ≡ stepped h

-- the answer of an event that was done or answered 8, whatever else is lent: that of the machine that the words hold
abbrev pub Tells : List ℕ → ℕ → ℕ → ℕ → Answer → Type 0
Tells tables number seals unveils r =
    (s : Setup) (saved frames store buffer : List ℕ) → image.Canonical s.pages tables → length saved ≡ 8 * s.contexts
    → left r tables saved frames store buffer
    ≡ ends s number (image.machine_in s tables saved frames store seals unveils) buffer

-- the answer of a refusal, whatever it was handed beside these tables
abbrev pub Refuses : List ℕ → ℕ → Answer → Type 0
Refuses tables number r =
    (h : Handed) → h.tables ≡ tables
    → left r h.tables h.saved h.frames h.store h.buffer ≡ keeps number h
