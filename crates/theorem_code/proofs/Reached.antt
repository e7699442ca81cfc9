-- What holds of the words and bytes at each point of a run of the code, and of a further call there: the laws of `theorem_reached`.
use Rattle.std.proofs.Common.{◌≡◌, ℕ, ◌+◌, ◌*◌, ◌<◌, ◌≤◌, Bool, true, false, T, ltb, ◌≢◌, List, get_or, sym, refl, ap, ◌∙◌, subst, arith}
use Rattle.std.proofs.Common.{lt-ltb, eq-eqb}
use native.Mathlib.Decide.{dec_lt}
use Rattle.rules.specs.Bytes.{same_bytes, zeros}
use Rattle.rules.specs.Sizes.{max_domains, max_pages, max_contexts, page_number}
use Rattle.rules.specs.Records.{Given, Machine, state_of, fresh_tables, public_page, zero_registers, place_of}
use Rattle.rules.specs.Sound.{saved_sound, whole, sound}
use Rattle.rules.specs.Events.{max_seals}
use Rattle.rules.specs.Answers.{outset}
use Rattle.rules.specs.Runs.{Ask}
use Rattle.rules.proofs.Tests.{each, all, passed, passes, second_or, all_of_holds}
use Rattle.rules.proofs.Lists.{get_d_fresh}
use Rattle.rules.specs.declared.Setup.{Setup}
use Rattle.rules.specs.declared.Tables.{Tables}
use Rattle.rules.specs.declared.Place.TheVariants.{Public}
use Rattle.core_tables.specs.Image.{saved_in, state_in}
use Rattle.core_tables.proofs.Registers.{length_saved, saved_past}
use Rattle.core_answer.specs.Handed.{Left}
use Rattle.theorem_reached.specs.States.{reached, answered, CleanAgree}
use Rattle.theorem_reached.proofs.Start.{fresh_sound}
use Rattle.theorem_reached.proofs.Main as rule
use Rattle.theorem_code.specs.Calls.{Memory, MayStep, CodeRun, point, tables_left, held}
use Rattle.theorem_code.proofs.Stands.{taken, taken_right, is_held, same_tables, step_left, next_stands}
use Rattle.theorem_code.proofs.Refused.{fresh_left}
use Rattle.theorem_code.proofs.Follows.{follows_tables, follows_next, follows_answer}
use Rattle.theorem_code.proofs.Points.{words_right, rules_start, run_stands, run_off, ran, run_follows}

-- fresh tables are sound with whatever words the saved registers of the setup's contexts are
module _ (s : Setup) (y : List ℕ) (few : s.contexts ≤ max_contexts) where
  saved_sound_holds : (i : ℕ) → Dec (i < s.contexts) → i < max_contexts
      → T (saved_sound s i (get_or (saved_in s.contexts y) i zero_registers))
  unfolding saved_sound same_bytes zeros
  saved_sound_holds i (yes h) inside = rw (lt-ltb i s.contexts h) tt
  saved_sound_holds i (no h) inside = second_or (ltb i s.contexts) _ (rw (saved_past s.contexts i y (omega arith) inside) tt)

  fresh_with : T (sound s (record { tables = fresh_tables; saved = saved_in s.contexts y }))
  unfolding sound whole
  fresh_with =
      let e = each _ (fresh_sound s) in
      let w = each _ e.0 in
      let long = length_saved s.contexts y few in
      all _ (
        all _ (w.0, (w.1.0, (passed _ (eq-eqb _ _ long), w.1.1.1))),
        (
          e.1.0,
          (
            e.1.1.0,
            (
              e.1.1.1.0,
              (
                all_of_holds (saved_sound s) zero_registers (saved_in s.contexts y)
                    (λ i h. saved_sound_holds i (dec_lt i s.contexts) (rw long at h)),
                e.1.1.1.1.1,
              ),
            ),
          ),
        ),
      )

module _ {g : Given} {lent : Memory} {asks : List Ask} (r : CodeRun g lent asks) where
  abbrev p : Left
  p = point r

  pub point_sound : g.setup.contexts ≤ max_contexts → sound g.setup (state_in g.setup p.tables p.saved) ≡ true
  unfolding outset
  point_sound few = by (taken g lent) refl
    where
      by : (b : Bool) → taken g lent ≡ b → sound g.setup (state_in g.setup p.tables p.saved) ≡ true
      by true q =
          ap (λ (m : Machine). sound g.setup (state_of m)) (is_held g p _ (run_stands r (taken_right g lent q)))
          ∙ rule.reached_sound g lent.frames lent.store asks
      by false q =
          ap (λ (t : Tables). sound g.setup (record { tables = t; saved = saved_in g.setup.contexts p.saved }))
          (fresh_left g lent p (run_off r q))
          ∙ passes _ (fresh_with g.setup p.saved few)

  tables_are : tables_left g.setup p ≡ (reached g (ran r) lent.store asks).tables
  tables_are = follows_tables g lent p _ (run_follows r)

  pub point_used : (tables_left g.setup p).used ≤ g.setup.signatures
  point_used = rw tables_are (rule.used_within g (ran r) lent.store asks)

  module _ (a : Ask) (l : Left) (c : MayStep g p a l) where
    next_tables : tables_left g.setup l ≡ (answered g (reached g (ran r) lent.store asks) a).machine.tables
    next_tables = follows_tables g lent l _ (follows_next g lent p _ a l (run_follows r) c)

    pub next_used : (tables_left g.setup p).used ≤ (tables_left g.setup l).used
    next_used = rw (tables_are, next_tables) (rule.used_never_falls g (ran r) lent.store asks a)

    pub next_few : (tables_left g.setup l).used ≤ (tables_left g.setup p).used + max_seals
    next_few = rw (tables_are, next_tables) (rule.two_signatures g (ran r) lent.store asks a)

    pub next_told : (l.answer.seals ≤ max_seals) × (l.answer.unveils ≤ 1)
    next_told = rw (follows_answer g lent p _ a l (run_follows r) c) (rule.few_told g (ran r) lent.store asks a)

    module _ (ok : r.first.answer.number ≡ 0) where
      pub next_not_10 : l.answer.number ≢ 10
      next_not_10 is-10 =
          rule.never_10 g lent.frames lent.store asks (rules_start r ok) a
          (sym (ap (λ (x : Left). x.answer.number) (step_left g p _ (run_stands r (words_right r ok)) a l c)) ∙ is-10)

      pub next_used_told : l.answer.used ≡ (tables_left g.setup l).used
      next_used_told =
          let at = run_stands r (words_right r ok) in
          ap (λ (x : Left). x.answer.used) (step_left g p _ at a l c)
          ∙ rule.used_told g lent.frames lent.store asks (rules_start r ok) a
          ∙ sym (ap (λ (t : Tables). t.used) (same_tables g l _ (next_stands g p _ at a l c)))

  -- clean pages
  pub point_clean : CleanAgree g.setup (held g.setup p)
  unfolding CleanAgree outset
  point_clean = by (taken g lent) refl
    where
      by : (b : Bool) → taken g lent ≡ b → CleanAgree g.setup (held g.setup p)
      by true q =
          subst (CleanAgree g.setup) (sym (is_held g p _ (run_stands r (taken_right g lent q))))
          (rule.clean_agree g lent.frames lent.store asks)
      by false q = λ d v f k hd hv e.
          let public : place_of g.setup (tables_left g.setup p) d v ≡ Public =
          ap (λ (t : Tables). place_of g.setup t d v) (fresh_left g lent p (run_off r q))
          ∙ ap (λ r. r.place) (get_d_fresh (max_domains * max_pages) (page_number g.setup d v) public_page) in
          let z : ◌≡◌ {A = ℕ} 0 1 = cc in
          absurd (omega arith)
