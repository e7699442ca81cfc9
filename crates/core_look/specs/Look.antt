-- Document 01, "What is answered": a look hands back the part of the frames or of the store that holds the page's bytes, not a
-- copy. What it holds, and the number beside it, are the rules' for the state that the lent words hold; words that are no image are
-- answered 10. Where the part stands is said here too.
use Rattle.std.specs.Prelude.{◌≡◌, List, [], cond, ℕ, ◌+◌, ◌*◌, eqb}
use Rattle.std.specs.Borrow.{Bor}
use Rattle.rules.specs.Sizes.{page_number}
use Rattle.rules.specs.Records.{machine, place_of}
use Rattle.rules.specs.Answers.{look_refusal, look}
use Rattle.rules.specs.declared.Setup.{Setup}
use Rattle.rules.specs.declared.Asid.{Asid}
use Rattle.rules.specs.declared.Gvpn.{Gvpn}
use Rattle.rules.specs.declared.Place.{Place}
use Rattle.rules.specs.declared.Place.TheVariants.{Public, Clear, Sealed}
use Rattle.core_tables.specs.Image.{tables_in, state_in}
use Rattle.core_answer.specs.Handed.{readable}
use Rattle.core_tables.specs.Lent.{Slice}

unfoldable pub look_number : Setup → List ℕ → List ℕ → List ℕ → List ℕ → Asid → Gvpn → ℕ
look_number s tables saved frames store d v =
    cond (readable s tables saved) (look_refusal s (machine (state_in s tables saved) frames store) d v) 10

unfoldable pub look_bytes : Setup → List ℕ → List ℕ → List ℕ → List ℕ → Asid → Gvpn → List ℕ
look_bytes s tables saved frames store d v =
    cond (readable s tables saved) (look s (machine (state_in s tables saved) frames store) d v) []

-- where a reference points: a block of memory, and an offset in it
abbrev pub Pointer : Type 0
Pointer = ℕ × ℕ

abbrev pub past : ℕ → Pointer → Pointer
past n p = (p.0, n + p.1)

-- at the frame's part or at the slot's; an empty part stands at the start of the frames
abbrev pub contents_from : Setup → Asid → Gvpn → Place → Pointer → Pointer → Pointer
contents_from s d v Public frames store = past 0 frames
contents_from s d v (Clear f w) frames store = past (f.0 * s.size) frames
contents_from s d v (Sealed k) frames store = past (page_number s d v * s.size) store

abbrev pub look_from : Setup → ℕ → List ℕ → Asid → Gvpn → Pointer → Pointer → Pointer
look_from s number tables d v frames store =
    cond (eqb number 0) (contents_from s d v (place_of s (tables_in s.pages tables) d v) frames store) (past 0 frames)

-- the contracts of a look and of the question beside it, over their parameters: the number; the bytes, and where they stand
abbrev pub NumberOf : Setup → Slice → Slice → Slice → Slice → Asid → Gvpn → ℕ
NumberOf s tables saved frames store d v =
    look_number s tables.entry.now saved.entry.now frames.entry.now store.entry.now d v

pub record Shows (s : Setup) (tables saved frames store : Slice) (d : Asid) (v : Gvpn) (r : Bor (List ℕ)) : Type 0 where
  pub bytes : r.now
      ≡ look_bytes s tables.entry.now saved.entry.now frames.entry.now store.entry.now d v
  pub stands : r.ref_ptr
      ≡ look_from s (NumberOf s tables saved frames store d v) tables.entry.now d v frames.entry.ref_ptr store.entry.ref_ptr
