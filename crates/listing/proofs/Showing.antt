-- How much of the answer buffer a line shows: nothing of an event that is not done, and else as much as its event asks, for which the
-- buffer has room.
use Rattle.std.proofs.Common.{◌≡◌, ℕ, ◌≤◌, Bool, true, false, cond, ◌&&◌, eqb, length, refl, ap, ◌∙◌, arith, eqb-true}
use borrow.Author.Tests.{eqb-false}
use Rattle.rules.proofs.Parts.{length_overlay}
use Rattle.rules.specs.Events.{answer_length}
use Rattle.rules.specs.Answers.{refused, perform, performed, step}
use Rattle.rules.specs.declared.Ctc.{Ctc}
use Rattle.rules.specs.declared.Gppn.{Gppn}
use Rattle.rules.specs.declared.Span.{Span}
use Rattle.rules.specs.declared.TrapKind.{TrapKind}
use Rattle.rules.specs.declared.Event.{Event}
use Rattle.rules.specs.declared.Event.TheVariants.{Begin, End, Map, Unmap, KernelRead, KernelWrite, Resume}
use Rattle.rules.specs.declared.Event.TheVariants.{Spawn, Leave, Cloak, Uncloak, Read, Write, Trap}
use Rattle.core_answer.specs.Handed.{Handed, Left, given_in, machine_in, refuses, leaves, keeps, stepped}
use Rattle.core_answer.proofs.Laws.{was_granted, granted_leaves, refused_leaves}
use Rattle.listing.specs.Listing.{shows_answer, is_shown, shown_length}

-- an event of another kind than the two that show something
module _ {e : Event} (no_read : (f : Gppn) (x : Span) → e ≡ KernelRead f x → ⊥)
    (no_trap : (c : Ctc) (k : TrapKind) (mask : ℕ) → e ≡ Trap c k mask → ⊥) where
  -- it shows nothing, whatever it is answered
  pub shown_none : (n : ℕ) → 0 ≡ shown_length e n
  unfolding shown_length is_shown
  shown_none n = go e refl
    where
      go : (x : Event) → e ≡ x → 0 ≡ shown_length x n
      go (Begin d c) s = refl
      go (End d) s = refl
      go (Map d v f) s = refl
      go (Unmap d v) s = refl
      go (KernelRead f x) s = absurd (no_read f x s)
      go (KernelWrite f x) s = refl
      go (Resume d c) s = refl
      go (Spawn c u) s = refl
      go (Leave c) s = refl
      go (Cloak c v) s = refl
      go (Uncloak c v) s = refl
      go (Read c v x) s = refl
      go (Write c v x) s = refl
      go (Trap c k mask) s = absurd (no_trap c k mask s)

module _ (h : Handed) where
  -- what is answered 0 was not refused
  not_refused : (stepped h).answer.number ≡ 0 → refuses h ≡ 0
  unfolding stepped refused
  not_refused = go (eqb (refuses h) 0) refl
    where
      go : (b : Bool) → eqb (refuses h) 0 ≡ b
          → (cond b (leaves h.setup (step (given_in h) h.event h.new h.buffer (machine_in h))) (keeps (refuses h) h)).answer.number
          ≡ 0
          → refuses h ≡ 0
      go true p z = eqb-true (refuses h) 0 p
      go false p z = z

  pub length_buffer : length (stepped h).buffer ≡ length h.buffer
  unfolding performed
  length_buffer = go (eqb (refuses h) 0) refl
    where
      go : (b : Bool) → eqb (refuses h) 0 ≡ b → length (stepped h).buffer ≡ length h.buffer
      go true p =
          ap (λ (l : Left). length l.buffer) (granted_leaves h (eqb-true (refuses h) 0 p))
          ∙ length_overlay 0 (perform (given_in h) h.event h.new (machine_in h)).bytes h.buffer
      go false p = ap (λ (l : Left). length l.buffer) (refused_leaves h (refuses h) (eqb-false (refuses h) 0 p) refl)

  -- WHAT IS SHOWN fits the answer buffer
  pub shown_fits : shown_length h.event (stepped h).answer.number ≤ length (stepped h).buffer
  unfolding shown_length is_shown
  shown_fits = go (shows_answer h.event) (eqb (stepped h).answer.number 0) refl
    where
      go : (a b : Bool) → eqb (stepped h).answer.number 0 ≡ b
          → cond (a && b) (answer_length h.event) 0 ≤ length (stepped h).buffer
      go true true e =
          let granted = was_granted h (not_refused (eqb-true (stepped h).answer.number 0 e)) in
          omega (arith, length_buffer, granted.gives)
      go true false e = omega arith
      go false b e = omega arith
