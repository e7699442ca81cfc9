-- Whether a start was taken or refused, the tables, answers and answer buffers of a run of the code are those of a run of the rules': of
-- the same run, or, refused, of one over more frames than the setup has, which the rules refuse.
use Rattle.std.proofs.Common.{◌≡◌, ℕ, Bool, true, false, cond, eqb, List, [], ◌∷◌, take, refl, ap}
use Rattle.rules.specs.Records.{Given, Machine, fresh_tables}
use Rattle.rules.specs.Events.{answer_length}
use Rattle.rules.specs.Answers.{refused, start}
use Rattle.rules.specs.Runs.{Ask, after}
use Rattle.rules.specs.declared.State.{State}
use Rattle.core_answer.specs.Handed.{Left, leaves, answer_of}
use Rattle.theorem_reached.specs.States.{answered}
use Rattle.theorem_reached.proofs.Start.{start_state, step_refused}
use Rattle.theorem_freshness.specs.Past.{Past, past_from}
use Rattle.theorem_code.specs.Calls.{Memory, MayStart, MayStep, MaySteps, last_of, tables_left}
use Rattle.theorem_code.specs.Told.{answer_bytes, past_of}
use Rattle.theorem_code.proofs.Stands.{Stands, same_tables, step_left, next_stands, taken, taken_right, start_stands}
use Rattle.theorem_code.proofs.Refused.{Off, fresh_left, off_left, next_off, start_off, too_many, too_many_holds}

pub data Follows (g : Given) (lent : Memory) (p : Left) (m : Machine) : Type 0 where
  stands : Stands g p m → Follows g lent p m
  off : Off g lent p → m.tables ≡ fresh_tables → ((a : Ask) → answered g m a ≡ refused 10 m a.buffer) → Follows g lent p m

pub follows_tables : (g : Given) (lent : Memory) (p : Left) (m : Machine) → Follows g lent p m → tables_left g.setup p ≡ m.tables
follows_tables g lent p m (stands at) = same_tables g p m at
follows_tables g lent p m (off o fresh same) = rw fresh (fresh_left g lent p o)

-- a further call
module _ (g : Given) (lent : Memory) (p : Left) (m : Machine) (a : Ask) (l : Left) where
  pub follows_next : Follows g lent p m → MayStep g p a l → Follows g lent l (answered g m a).machine
  unfolding refused
  follows_next (stands at) c = stands (next_stands g p m at a l c)
  follows_next (off o fresh same) c = rw (same a) (off (next_off g lent p o a l c) fresh same)

  pub follows_answer : Follows g lent p m → MayStep g p a l → l.answer ≡ answer_of (answered g m a)
  unfolding refused
  follows_answer (stands at) c = ap (λ (x : Left). x.answer) (step_left g p m at a l c)
  follows_answer (off o fresh same) c = rw (same a) (ap (λ (x : Left). x.answer) (off_left g lent p o a l c))

  pub follows_buffer : Follows g lent p m → MayStep g p a l → l.buffer ≡ (answered g m a).buffer
  unfolding refused
  follows_buffer (stands at) c = ap (λ (x : Left). x.buffer) (step_left g p m at a l c)
  follows_buffer (off o fresh same) c = rw (same a) (ap (λ (x : Left). x.buffer) (off_left g lent p o a l c))

  pub follows_bytes : Follows g lent p m → MayStep g p a l
      → answer_bytes a.event l ≡ answer_bytes a.event (leaves g.setup (answered g m a))
  follows_bytes f c =
      let n = follows_answer f c in
      let b = follows_buffer f c in
      λ i. cond (eqb (n i).number 0) (take (answer_length a.event) (b i)) []

-- a list of calls
module _ (g : Given) (lent : Memory) where
  pub last_follows : (p : Left) (m : Machine) → Follows g lent p m → (asks : List Ask) (lefts : List Left) → MaySteps g p asks lefts
      → Follows g lent (last_of p lefts) (after g m asks)
  unfolding after
  last_follows p m f [] [] c = f
  last_follows p m f [] (l ∷ lefts) c = absurd c
  last_follows p m f (a ∷ asks) [] c = absurd c
  last_follows p m f (a ∷ asks) (l ∷ lefts) c =
      last_follows l (answered g m a).machine (follows_next g lent p m a l f c.0) asks lefts c.1

  pub same_past : (p : Left) (m : Machine) → Follows g lent p m → (asks : List Ask) (lefts : List Left) → MaySteps g p asks lefts
      → (earlier : List Past) → past_of asks lefts earlier ≡ past_from g m asks earlier
  unfolding past_of past_from
  same_past p m f [] [] c earlier = refl
  same_past p m f [] (l ∷ lefts) c earlier = absurd c
  same_past p m f (a ∷ asks) [] c earlier = absurd c
  same_past p m f (a ∷ asks) (l ∷ lefts) c earlier =
      let number : l.answer.number ≡ (answered g m a).number = ap (λ x. x.number) (follows_answer g lent p m a l f c.0) in
      rw number (same_past l (answered g m a).machine (follows_next g lent p m a l f c.0) asks lefts c.1 _)

-- the start
unfoldable pub frames_of : Given → Memory → Bool → List ℕ
frames_of g lent b = cond b lent.frames (too_many g)

module _ (g : Given) (lent : Memory) (l : Left) (c : MayStart g lent l) where
  by : (b : Bool) → taken g lent ≡ b → Follows g lent l (start g (frames_of g lent b) lent.store)
  unfolding frames_of
  by true q = stands (start_stands g lent (taken_right g lent q) l c)
  by false q =
      off (start_off g lent q l c) (ap (λ (x : State). x.tables) (start_state g (too_many g) lent.store))
      (λ a. step_refused g (too_many g) lent.store (too_many_holds g lent.store) a.event a.new a.buffer)

  pub start_follows : Follows g lent l (start g (frames_of g lent (taken g lent)) lent.store)
  start_follows = by (taken g lent) refl
