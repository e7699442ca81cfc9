-- What holds in every state that a run reaches, for every setup, supply, lent frames and store, and every list of events with their data
-- and answer buffers. `reached g frames store asks` is the machine after the start over the lent frames and store and after the events
-- asked; `answered g m a` is what a machine then answers (specs/States.antt).
use mathlib.Core.Path.{◌≡◌}
use mathlib.Core.Logic.{◌≢◌}
use mathlib.Core.List.{List}
use mathlib.Core.Bool.{true}
use Prim.Native.Nat.{ℕ, ◌+◌, ◌≤◌}
use Rattle.rules.specs.Records.{Given, state_of}
use Rattle.rules.specs.Sound.{sound, acceptable}
use Rattle.rules.specs.Events.{max_seals}
use Rattle.rules.specs.Answers.{refused, start_refusal, start}
use Rattle.rules.specs.Runs.{Ask}
use Rattle.rules.proofs.Tests.{passes}
use Rattle.theorem_reached.specs.States.{reached, answered, CleanAgree}
use Rattle.theorem_reached.proofs.DoneOrRefused.{step_counted, step_told}
use Rattle.theorem_reached.proofs.Answer10.{step_answer, step_tells}
use Rattle.theorem_reached.proofs.EveryRun.{run_accepted, run_sound, run_used, run_clean, run_always_10}

module _ (g : Given) (frames store : List ℕ) (asks : List Ask) where
  -- Every reached state is sound, even where the start was refused.
  pub reached_sound : sound g.setup (state_of (reached g frames store asks)) ≡ true
  reached_sound = passes _ (run_sound g frames store asks)

  -- The count of used signatures never passes N.
  pub used_within : (reached g frames store asks).tables.used ≤ g.setup.signatures
  used_within = run_used g frames store asks

  -- No event lets it fall.
  pub used_never_falls : (a : Ask)
      → let m = reached g frames store asks in
      m.tables.used ≤ (answered g m a).machine.tables.used
  used_never_falls a = (step_counted g a.event a.new a.buffer (reached g frames store asks)).kept

  -- An event takes at most two signatures.
  pub two_signatures : (a : Ask)
      → let m = reached g frames store asks in
      (answered g m a).machine.tables.used ≤ m.tables.used + max_seals
  two_signatures a = (step_counted g a.event a.new a.buffer (reached g frames store asks)).few

  -- An event tells of at most two seals and one unveil.
  pub few_told : (a : Ask)
      → let o = answered g (reached g frames store asks) a in
      (o.seals ≤ max_seals) × (o.unveils ≤ 1)
  few_told a = step_told g a.event a.new a.buffer (reached g frames store asks)

  -- A page that is Clear and clean has the same bytes in its frame and in its slot.
  pub clean_agree : CleanAgree g.setup (reached g frames store asks)
  clean_agree = run_clean g frames store asks

  -- After a start that was granted the machine is acceptable: sound, with the lent bytes as many as the setup says.
  pub reached_acceptable : start_refusal g frames store ≡ 0 → acceptable g (reached g frames store asks) ≡ true
  reached_acceptable started = passes _ (run_accepted g frames store asks started).ok

  -- So no event is refused with 10.
  pub never_10 : start_refusal g frames store ≡ 0 → (a : Ask) → (answered g (reached g frames store asks) a).number ≢ 10
  never_10 started a = step_answer g a.event a.new a.buffer _ (run_accepted g frames store asks started)

  -- And the used count that an answer tells is the machine's own.
  pub used_told : start_refusal g frames store ≡ 0 → (a : Ask)
      → let o = answered g (reached g frames store asks) a in
      o.used ≡ o.machine.tables.used
  used_told started a = step_tells g a.event a.new a.buffer _ (run_accepted g frames store asks started)

  -- After a start that was refused every event is refused with 10, and the machine stays as the start left it.
  pub always_10 : start_refusal g frames store ≡ 10 → (a : Ask)
      → answered g (reached g frames store asks) a ≡ refused 10 (start g frames store) a.buffer
  always_10 ten a = run_always_10 g frames store ten asks a
