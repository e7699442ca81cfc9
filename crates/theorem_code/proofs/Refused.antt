-- After a start that was refused every event is refused with 10, and no word and no byte moves.
use Rattle.std.proofs.Common.{◌≡◌, ℕ, suc, ◌*◌, Bool, true, false, cond, ◌&&◌, List, [], ◌∷◌, length, refl, ap, ◌∙◌, arith, ne_eqb}
use Rattle.rules.specs.Bytes.{all_of, zeros}
use Rattle.rules.specs.Sizes.{setup_in_range, frames_right}
use Rattle.rules.specs.Records.{Given, fresh_tables}
use Rattle.rules.specs.Answers.{check, first_of, refused, start_refusal}
use Rattle.rules.specs.Runs.{Ask}
use Rattle.rules.proofs.Parts.{length_zeros}
use Rattle.core_tables.specs.Image.{tables_in}
use Rattle.core_answer.specs.Handed.{Left, left, refuses}
use Rattle.core_answer.proofs.Laws.{refuses_first, refused_leaves}
use Rattle.core_accept.specs.Acceptable.{acceptable_in}
use Rattle.core_accept.proofs.NotStarted.{not_started}
use Rattle.core_entry.specs.Started.{started}
use Rattle.theorem_code.specs.Calls.{Memory, MayStart, MayStep, MaySteps, last_of, tables_left}
use Rattle.theorem_code.specs.Told.{ten, handed_on}
use Rattle.theorem_code.proofs.Calls.{start_left, step_words}
use Rattle.theorem_code.proofs.Fresh.{zeros_hold}
use Rattle.theorem_code.proofs.Stands.{taken}

-- what was left as p is what a refused start left
pub record Off (g : Given) (lent : Memory) (p : Left) : Type 0 where
  pub untaken : taken g lent ≡ false
  pub tables : p.tables ≡ zeros (length lent.tables)
  pub saved : p.saved ≡ zeros (length lent.saved)
  pub frames : p.frames ≡ lent.frames
  pub store : p.store ≡ lent.store

-- the words and bytes that a refused start leaves, with the answer 10 and an answer buffer
abbrev pub left_as : Memory → List ℕ → Left
left_as lent buffer = left ten (zeros (length lent.tables)) (zeros (length lent.saved)) lent.frames lent.store buffer

is_off : (g : Given) (lent : Memory) → taken g lent ≡ false → (buffer : List ℕ) (l : Left) → l ≡ left_as lent buffer → Off g lent l
is_off g lent untaken buffer l e =
    record {
      untaken = untaken;
      tables = ap (λ (x : Left). x.tables) e;
      saved = ap (λ (x : Left). x.saved) e;
      frames = ap (λ (x : Left). x.frames) e;
      store = ap (λ (x : Left). x.store) e;
    }

pub start_off : (g : Given) (lent : Memory) → taken g lent ≡ false → (l : Left) → MayStart g lent l → Off g lent l
unfolding started
start_off g lent untaken l c = is_off g lent untaken [] l (start_left g lent l c ∙ rw untaken)

module _ (g : Given) (lent : Memory) (p : Left) (off : Off g lent p) where
  pub fresh_left : tables_left g.setup p ≡ fresh_tables
  fresh_left = ap (tables_in g.setup.pages) off.tables ∙ zeros_hold g.setup.pages (length lent.tables)

  unacceptable : acceptable_in g.setup p.tables p.saved p.frames p.store g.supply ≡ false
  unacceptable =
      rw (off.tables, off.saved, off.frames, off.store)
      (not_started g.setup lent.tables lent.saved lent.frames lent.store g.supply off.untaken
      (zeros (length lent.tables)) (zeros (length lent.saved)) (length_zeros (length lent.tables))
      (length_zeros (length lent.saved)))

  refuses_10 : (a : Ask) → refuses (handed_on g p a) ≡ 10
  unfolding first_of check
  refuses_10 a = refuses_first (handed_on g p a) ∙ rw unacceptable

  pub off_left : (a : Ask) (l : Left) → MayStep g p a l → l ≡ left_as lent a.buffer
  unfolding refused
  off_left a l c =
      step_words g p a l c ∙ refused_leaves (handed_on g p a) 10 (λ e. omega arith) (refuses_10 a)
      ∙ (λ i. left ten (off.tables i) (off.saved i) (off.frames i) (off.store i) a.buffer)

  pub next_off : (a : Ask) (l : Left) → MayStep g p a l → Off g lent l
  next_off a l c = is_off g lent off.untaken a.buffer l (off_left a l c)

pub last_off : (g : Given) (lent : Memory) (p : Left) → Off g lent p → (asks : List Ask) (lefts : List Left) → MaySteps g p asks lefts
    → Off g lent (last_of p lefts)
last_off g lent p off [] [] c = off
last_off g lent p off [] (l ∷ lefts) c = absurd c
last_off g lent p off (a ∷ asks) [] c = absurd c
last_off g lent p off (a ∷ asks) (l ∷ lefts) c = last_off g lent l (next_off g lent p off a l c.0) asks lefts c.1

-- frames of which there are too many: over them the rules refuse a start
unfoldable pub too_many : Given → List ℕ
too_many g = zeros (suc (g.setup.frames * g.setup.size))

pub too_many_holds : (g : Given) (store : List ℕ) → start_refusal g (too_many g) store ≡ 10
unfolding too_many start_refusal frames_right all_of
too_many_holds g store =
    let n = g.setup.frames * g.setup.size in
    rw (ne_eqb (length (zeros (suc n))) n (λ e. omega (arith, length_zeros (suc n)))) (by (setup_in_range g.setup))
  where
    by : (a : Bool) → ◌≡◌ {A = ℕ} (cond (a && false) 0 10) 10
    by true = refl
    by false = refl
