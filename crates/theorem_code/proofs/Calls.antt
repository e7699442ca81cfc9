-- What a call may leave is what its promise fixes, and there is a run for every list of events.
use Rattle.std.proofs.Common.{◌≡◌, ℕ, List, [], ◌∷◌, sym, refl, ◌∙◌, Bor, MutBor}
use Rattle.rules.specs.Records.{Given}
use Rattle.rules.specs.Runs.{Ask}
use Rattle.core_answer.specs.Handed.{handed, Left, stepped}
use Rattle.core_entry.specs.Started.{started}
use Rattle.theorem_code.specs.Calls.{Memory, MayStart, MayStep, MaySteps, CodeRun}
use Rattle.theorem_code.specs.Told.{handed_on}

-- what a start leaves
abbrev pub started_over : Given → Memory → Left
started_over g lent = started g.setup lent.tables lent.saved lent.frames lent.store g.supply

module _ (g : Given) where
  -- a call leaves what its promise fixes
  pub start_left : (lent : Memory) (l : Left) → MayStart g lent l → l ≡ started_over g lent
  start_left lent l c =
      sym c.leaves ∙ c.promise
      ∙ (λ i.
      started (c.setup i) (c.tables_lent i) (c.saved_lent i) (c.frames_lent i) (c.store_lent i) (c.supply_lent i))

  pub step_words : (p : Left) (a : Ask) (l : Left) → MayStep g p a l → l ≡ stepped (handed_on g p a)
  step_words p a l c =
      sym c.leaves ∙ c.promise
      ∙ (λ i.
      stepped
      (handed (c.setup i) (c.tables_lent i) (c.saved_lent i) (c.frames_lent i) (c.store_lent i) (c.supply_lent i) (c.event i)
      (c.data_lent i) (c.buffer_lent i)))

-- There is a run for every list of events, since what is fixed is what the promises allow.
abbrev lent_as : List ℕ → Bor (List ℕ)
lent_as list = record { ref_ptr = (0, 0); now = list }

abbrev written_as : List ℕ → MutBor (List ℕ)
written_as list = record { ref_ptr = (0, 0); ghost_name = 0; now = list }

module _ (g : Given) where
  may_start : (lent : Memory) → MayStart g lent (started_over g lent)
  unfolding started
  may_start lent =
      let l = started_over g lent in
      let supply = lent_as g.supply in
      record {
        lifetimes = ([], ([], ([], ([], ([], tt)))));
        handed = (
          g.setup,
          (written_as lent.tables, (written_as lent.saved, (written_as lent.frames, (written_as lent.store, (supply, tt))))),
        );
        result = l.answer;
        at_exit = (
          g.setup,
          (written_as l.tables, (written_as l.saved, (written_as l.frames, (written_as l.store, (supply, tt))))),
        );
        promise = refl;
        setup = refl;
        tables_lent = refl;
        saved_lent = refl;
        frames_lent = refl;
        store_lent = refl;
        supply_lent = refl;
        leaves = refl;
      }

  may_step : (p : Left) (a : Ask) → MayStep g p a (stepped (handed_on g p a))
  may_step p a =
      let l = stepped (handed_on g p a) in
      let supply = lent_as g.supply in
      let new = lent_as a.new in
      record {
        lifetimes = ([], ([], ([], ([], ([], ([], ([], tt)))))));
        handed = (
          g.setup,
          (
            written_as p.tables,
            (
              written_as p.saved,
              (written_as p.frames, (written_as p.store, (supply, (a.event, (new, (written_as a.buffer, tt)))))),
            ),
          ),
        );
        result = l.answer;
        at_exit = (
          g.setup,
          (
            written_as l.tables,
            (
              written_as l.saved,
              (written_as l.frames, (written_as l.store, (supply, (a.event, (new, (written_as l.buffer, tt)))))),
            ),
          ),
        );
        promise = refl;
        setup = refl;
        tables_lent = refl;
        saved_lent = refl;
        frames_lent = refl;
        store_lent = refl;
        supply_lent = refl;
        event = refl;
        data_lent = refl;
        buffer_lent = refl;
        leaves = refl;
      }

  lefts_of : Left → List Ask → List Left
  lefts_of p [] = []
  lefts_of p (a ∷ asks) = stepped (handed_on g p a) ∷ lefts_of (stepped (handed_on g p a)) asks

  may_steps : (p : Left) (asks : List Ask) → MaySteps g p asks (lefts_of p asks)
  unfolding lefts_of
  may_steps p [] = tt
  may_steps p (a ∷ asks) = (may_step p a, may_steps (stepped (handed_on g p a)) asks)

  pub runs_on : (lent : Memory) (asks : List Ask) → CodeRun g lent asks
  runs_on lent asks =
      let l = started_over g lent in
      record { first = l; lefts = lefts_of l asks; starts = may_start lent; steps = may_steps l asks }
