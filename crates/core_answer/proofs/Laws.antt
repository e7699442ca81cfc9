-- A granted event found words that are an image, and leaves what performing it comes to; a refused one leaves what it found. On
-- words that are an image the whole is the rules' `step`, as words.
use mathlib.Core.Path.{◌≡◌, refl}
use mathlib.Core.Bool.{Bool, true, false, ◌&&◌, not, cond}
use mathlib.Core.List.{List, ◌∷◌}
use Prim.Native.Nat.{ℕ, ◌*◌}
use native.Mathlib.Omega.{arith}
use lib.ListN.{length}
use lib.Dec.{T, eqb, eqb→eq}
use borrow.Author.Tests.{ne_eqb}
use Rattle.rules.specs.Answers.{check, first_of, checks, refused, refusal, perform, performed, outset, step_from, step}
use Rattle.rules.specs.Sound.{acceptable}
use Rattle.rules.specs.Events.{row}
use Rattle.rules.proofs.Facts.{Accepted, accepted, each, passes, passed}
use Rattle.rules.proofs.Granting.{Granted, is_acceptable, is_granted}
use Rattle.rules.specs.declared.Setup.{Setup}
use Rattle.core_tables.specs.Image.{image_words, tables_in, Canonical}
use Rattle.core_tables.specs.Tested.{Tested}
use Rattle.core_tables.proofs.Images.{canonical_image, told_canonical}
use Rattle.core_tables.proofs.Registers.{saved_image}
use Rattle.core_answer.specs.Handed.{Handed, given_in, machine_in, readable, refuses, leaves, keeps, stepped}

-- words that are an image
pub record Readable (s : Setup) (tables saved : List ℕ) : Type 0 where
  pub tables_long : length tables ≡ image_words
  pub saved_long : length saved ≡ 8 * s.contexts
  pub canonical : Canonical s.pages tables

pub is_readable : (s : Setup) (x y : List ℕ) → T (readable s x y) → Readable s x y
unfolding readable
is_readable s x y t =
    let e = each _ t in
    let long : length x ≡ image_words = eqb→eq _ _ e.0 in
    record {
      tables_long = long;
      saved_long = eqb→eq _ _ e.1.0;
      canonical = told_canonical s.pages x long e.1.1.0;
    }

not_ten : {n : ℕ} (b : Bool) → cond b n 10 ≡ 0 → (b ≡ true) × (n ≡ 0)
not_ten true e = (refl, e)
not_ten false e = absurd (omega arith)

module _ (h : Handed) where
  -- an event that is not refused
  module _ (none : refuses h ≡ 0) where
    pub found : Readable h.setup h.tables h.saved
    unfolding refuses
    found = is_readable _ _ _ (passed _ (not_ten (readable h.setup h.tables h.saved) none).0)

    pub not_refused : refusal (given_in h) (machine_in h) h.event (length h.new) (length h.buffer) ≡ 0
    unfolding refuses
    not_refused = (not_ten (readable h.setup h.tables h.saved) none).1

    pub was_accepted : Accepted (given_in h) (machine_in h)
    was_accepted = accepted _ _ (is_acceptable _ _ h.event (length h.new) (length h.buffer) not_refused)

    pub was_granted : Granted h.setup (tables_in h.setup.pages h.tables) h.event (length h.new) (length h.buffer)
    was_granted = is_granted _ _ h.event (length h.new) (length h.buffer) not_refused

    pub was_tested : Tested h.setup h.tables
    was_tested =
        record {
          limited = was_accepted.looks.sizes;
          long = found.tables_long;
          canonical = found.canonical;
          agreed = was_accepted.looks.agrees;
        }

    pub granted_leaves : stepped h ≡ leaves h.setup (performed (perform (given_in h) h.event h.new (machine_in h)) h.buffer)
    unfolding stepped step step_from outset
    granted_leaves = rw (none, not_refused)

  -- the checks in their order: 10 first, where the words are no image or what they hold is not acceptable
  pub refuses_first : refuses h
      ≡ first_of
      (check 10 (not (readable h.setup h.tables h.saved && acceptable (given_in h) (machine_in h)))
      ∷ checks h.setup (machine_in h).tables h.event (row h.setup (machine_in h).tables h.event) (length h.new)
      (length h.buffer))
  unfolding refuses refusal first_of check
  refuses_first = by (readable h.setup h.tables h.saved)
    where
      by : (b : Bool) → cond b (refusal (given_in h) (machine_in h) h.event (length h.new) (length h.buffer)) 10
          ≡ first_of
          (check 10 (not (b && acceptable (given_in h) (machine_in h)))
          ∷ checks h.setup (machine_in h).tables h.event (row h.setup (machine_in h).tables h.event) (length h.new)
          (length h.buffer))
      by true = refl
      by false = refl

  pub refused_leaves : (n : ℕ) → (n ≡ 0 → ⊥) → refuses h ≡ n → stepped h ≡ keeps n h
  unfolding stepped
  refused_leaves n some is = rw (is, ne_eqb n 0 some)

  -- on words that are an image: the rules' step, refused or not
  module _ (t : T (readable h.setup h.tables h.saved)) where
    reads : refuses h ≡ refusal (given_in h) (machine_in h) h.event (length h.new) (length h.buffer)
    unfolding refuses
    reads = rw (passes (readable h.setup h.tables h.saved) t)

    step_leaves : (b : Bool) → eqb (refusal (given_in h) (machine_in h) h.event (length h.new) (length h.buffer)) 0 ≡ b
        → stepped h ≡ leaves h.setup (step (given_in h) h.event h.new h.buffer (machine_in h))
    unfolding stepped step step_from outset refused
    step_leaves true q = rw (reads, q)
    step_leaves false q =
        let r = is_readable _ _ _ t in
        rw (
          reads,
          q,
          ← canonical_image h.setup.pages h.tables r.tables_long r.canonical,
          ← saved_image h.setup.contexts h.saved r.saved_long,
        )

    pub readable_leaves : stepped h ≡ leaves h.setup (step (given_in h) h.event h.new h.buffer (machine_in h))
    readable_leaves = step_leaves _ refl
