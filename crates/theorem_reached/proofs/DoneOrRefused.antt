-- One event asked of a machine: it is done or refused. Either way the machine stays acceptable, the counts are bounded, and each page's
-- bytes are as the event's act on the page says.
use mathlib.Core.Path.{◌≡◌, refl}
use mathlib.Core.Logic.{◌≢◌}
use mathlib.Core.List.{List}
use mathlib.Core.Bool.{Bool, true, false, cond}
use Prim.Native.Nat.{ℕ, ◌+◌, ◌≤◌}
use native.Mathlib.Omega.{arith}
use lib.ListN.{length}
use lib.Dec.{T, eqb}
use borrow.Author.Tests.{eqb-true, eqb-false, ne_eqb}
use Rattle.rules.specs.Records.{Given, Machine, state_of}
use Rattle.rules.specs.Sound.{sound, lookable, acceptable}
use Rattle.rules.specs.Sealing.{seal_all}
use Rattle.rules.specs.Events.{row, max_seals}
use Rattle.rules.specs.Answers.{Outcome, refusal, refused, performed, perform, outset, step_from, step}
use Rattle.rules.specs.declared.Asid.{Asid}
use Rattle.rules.specs.declared.Gvpn.{Gvpn}
use Rattle.rules.specs.declared.Event.{Event}
use Rattle.rules.proofs.Tests.{each}
use Rattle.rules.proofs.Rows.{few_seals}
use Rattle.rules.proofs.Facts.{Accepted, outset_accepted}
use Rattle.rules.proofs.Granting.{Unrefused, unrefused}
use Rattle.theorem_reached.proofs.FramesAndSlots.{Within}
use Rattle.theorem_reached.proofs.SealPage.{Stays}
use Rattle.theorem_reached.proofs.SealFrames.{seal_all_used}
use Rattle.theorem_reached.proofs.PageFates.{Quiet, is_same, kept, Fate, is_kept, act_of, after_quiet}
use Rattle.theorem_reached.proofs.EventsPerformed.{performs}
use Rattle.theorem_reached.proofs.Counts.{does_counts, seal_all_counts, seals_fit}

-- no used signature is unused again; an event takes at most two signatures, and tells of at most two seals and one unveil
pub record Counted (m : Machine) (o : Outcome) : Type 0 where
  pub kept : m.tables.used ≤ o.machine.tables.used
  pub few : o.machine.tables.used ≤ m.tables.used + max_seals
  pub seals : o.seals ≤ max_seals
  pub unveils : o.unveils ≤ 1

module _ (g : Given) (e : Event) (new buffer : List ℕ) (m : Machine) where
  -- an event is done, having passed all checks, or refused by one
  pub step_either : (P : Outcome → Type 0)
      → (Unrefused g (outset m) e (length new) (length buffer) → P (performed (perform g e new (outset m)) buffer))
      → ((n : ℕ) → refusal g (outset m) e (length new) (length buffer) ≡ n → n ≢ 0 → P (refused n (outset m) buffer))
      → P (step g e new buffer m)
  unfolding step step_from
  step_either P doing refusing = go (eqb r 0) refl
    where
      r : ℕ
      r = refusal g (outset m) e (length new) (length buffer)

      go : (b : Bool) → eqb r 0 ≡ b → P (cond b (performed (perform g e new (outset m)) buffer) (refused r (outset m) buffer))
      go true q = doing (unrefused g (outset m) e (length new) (length buffer) (eqb-true r 0 q))
      go false q = refusing r refl (eqb-false r 0 q)

  -- which of the two it is, told from the number of the check that refuses it, or 0
  pub step_at : (r : ℕ) → refusal g (outset m) e (length new) (length buffer) ≡ r
      → step g e new buffer m ≡ cond (eqb r 0) (performed (perform g e new (outset m)) buffer) (refused r (outset m) buffer)
  unfolding step step_from
  step_at r q = rw q

  -- an event that is answered 0 was refused by no check
  pub answered_0 : (step g e new buffer m).number ≡ 0 → Unrefused g (outset m) e (length new) (length buffer)
  unfolding performed refused
  answered_0 =
      step_either (λ o. o.number ≡ 0 → Unrefused g (outset m) e (length new) (length buffer)) (λ p _. p) (λ n _ ne q. absurd (ne q))

  pub outset_quiet : (d : Asid) (v : Gvpn) → Quiet g.setup d v m (outset m)
  unfolding outset
  outset_quiet d v =
      let h : Stays g.setup d v m (outset m) = record { place = refl; frame = λ f w c. refl; slot = refl; used = omega arith } in
      is_same h

  pub step_accepted : Accepted g m → Accepted g (step g e new buffer m).machine
  unfolding performed refused
  step_accepted accepted =
      step_either (λ o. Accepted g o.machine) (λ p. (performs g (outset m) new (length buffer) e p).accepted)
      (λ n _ _. outset_accepted g m accepted)

  -- a sound state stays sound, whatever the setup and the lent bytes
  pub step_sound : T (sound g.setup (state_of m)) → T (sound g.setup (state_of (step g e new buffer m).machine))
  unfolding performed refused outset acceptable lookable
  step_sound h =
      step_either (λ o. T (sound g.setup (state_of o.machine)))
      (λ p. (each _ (each _ (performs g (outset m) new (length buffer) e p).accepted.ok).0).1.1.1.0) (λ n _ _. h)

  -- what becomes of each page
  pub step_fate : (d : Asid) (v : Gvpn) → Within g.setup d v
      → Fate g.setup d v m (step g e new buffer m).machine
      (cond (eqb (step g e new buffer m).number 0) (act_of g.setup m.tables e new d v) kept)
  unfolding performed refused outset
  step_fate d v h =
      step_either (λ o. Fate g.setup d v m o.machine (cond (eqb o.number 0) (act_of g.setup m.tables e new d v) kept))
      (λ p. after_quiet g.setup d v m (outset m) _ _ (outset_quiet d v) ((performs g (outset m) new (length buffer) e p).fate d v h))
      (λ n q ne. rw (ne_eqb n 0 ne) (is_kept (outset_quiet d v)))

  -- what is counted
  pub step_counted : Counted m (step g e new buffer m)
  unfolding performed refused outset perform
  step_counted =
      step_either (Counted m)
      (λ p.
      let fs = (row g.setup m.tables e).seals in
      let fit = seals_fit g (outset m) (length buffer) e (length new) p in
      let u = seal_all_used g fs (outset m) p.accepted fit p.granted.signatures in
      let k = seal_all_counts g fs (outset m) in
      let c = does_counts g m.tables e new (seal_all g fs (outset m)) in
      let few = few_seals g.setup m.tables e in
      record { kept = omega arith; few = omega arith; seals = omega arith; unveils = omega arith })
      (λ n _ _. record { kept = omega arith; few = omega arith; seals = omega arith; unveils = omega arith })

  pub step_told : ((step g e new buffer m).seals ≤ max_seals) × ((step g e new buffer m).unveils ≤ 1)
  step_told = let c = step_counted in (c.seals, c.unveils)
