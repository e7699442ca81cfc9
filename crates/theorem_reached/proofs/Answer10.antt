-- An acceptable machine answers no event with 10, and the used count that its answer tells is its own.
use mathlib.Core.Path.{ap, ◌≡◌, refl, sym, ◌∙◌}
use mathlib.Core.Logic.{◌≢◌}
use mathlib.Core.List.{List, []}
use mathlib.Core.Bool.{not}
use Prim.Native.Nat.{ℕ}
use native.Mathlib.Omega.{arith}
use lib.ListN.{length}
use lib.Dec.{T}
use borrow.Author.Tests.{ne_eqb}
use Rattle.rules.specs.Records.{Given, Machine, domain_of}
use Rattle.rules.specs.Sound.{acceptable}
use Rattle.rules.specs.Sealing.{Effect, done, failed, and_then, unveiled, bring_in, seal_all}
use Rattle.rules.specs.Events.{Row, row, own_frame, does}
use Rattle.rules.specs.Answers.{first_of, checks, refusal, refused, performed, perform, outset, step}
use Rattle.rules.specs.declared.Setup.{Setup}
use Rattle.rules.specs.declared.Tables.{Tables}
use Rattle.rules.specs.declared.Asid.{Asid}
use Rattle.rules.specs.declared.Gvpn.{Gvpn}
use Rattle.rules.specs.declared.Gppn.{Gppn}
use Rattle.rules.specs.declared.Event.{Event}
use Rattle.rules.specs.declared.Event.TheVariants.{Begin, End, Map, Unmap, KernelRead, KernelWrite, Resume, Spawn, Leave, Cloak, Uncloak}
use Rattle.rules.specs.declared.Event.TheVariants.{Read, Write, Trap}
use Rattle.rules.proofs.Checks.{first_skipped, first_other}
use Rattle.rules.proofs.Tests.{passes}
use Rattle.rules.proofs.Facts.{Accepted, outset_accepted}
use Rattle.theorem_reached.proofs.BringIn.{bring_in_cases}
use Rattle.theorem_reached.proofs.DoneOrRefused.{step_either}

-- an event that is done is answered 0 or 8
bring_in_answer : (g : Given) (f : Gppn) (d : Asid) (v : Gvpn) (m : Machine) (next : Machine → Effect)
    → ((n : Machine) → (next n).number ≡ 0) → (and_then (bring_in g f d v m) next).number ≢ 10
unfolding and_then done failed
bring_in_answer g f d v m next is-done =
    bring_in_cases g f d v m (λ e. (and_then e next).number ≢ 10) (omega (arith, is-done m))
    (λ k. omega (arith, is-done (unveiled g f d v k m))) (omega arith)

does_answer : (g : Given) (t : Tables) (e : Event) (new : List ℕ) (m : Machine) → (does g t e new m).number ≢ 10
unfolding does done
does_answer g t (Begin d c) new m = omega arith
does_answer g t (End d) new m = omega arith
does_answer g t (Map d v f) new m = omega arith
does_answer g t (Unmap d v) new m = omega arith
does_answer g t (KernelRead f x) new m = omega arith
does_answer g t (KernelWrite f x) new m = omega arith
does_answer g t (Resume d c) new m = omega arith
does_answer g t (Spawn c u) new m = omega arith
does_answer g t (Leave c) new m = omega arith
does_answer g t (Cloak c v) new m = omega arith
does_answer g t (Uncloak c v) new m = omega arith
does_answer g t (Read c v x) new m = bring_in_answer g (own_frame g.setup t c v) (domain_of t c) v m _ (λ n. refl)
does_answer g t (Write c v x) new m = bring_in_answer g (own_frame g.setup t c v) (domain_of t c) v m _ (λ n. refl)
does_answer g t (Trap c k mask) new m = omega arith

-- and one that is refused by a check after that for 10, with its number
none : first_of [] ≢ 10
unfolding first_of
none = omega arith

checks_answer : (s : Setup) (t : Tables) (e : Event) (r : Row) (new room : ℕ) → first_of (checks s t e r new room) ≢ 10
unfolding checks
checks_answer s t e r new room =
    first_other 10 1 _ _ (omega arith)
    (first_other 10 2 _ _ (omega arith)
    (first_other 10 3 _ _ (omega arith)
    (first_other 10 11 _ _ (omega arith)
    (first_other 10 4 _ _ (omega arith)
    (first_other 10 7 _ _ (omega arith) (first_other 10 5 _ _ (omega arith) (first_other 10 6 _ _ (omega arith) none)))))))

refusal_answer : (g : Given) (m : Machine) → T (acceptable g m) → (e : Event) (new room : ℕ) → refusal g m e new room ≢ 10
unfolding refusal
refusal_answer g m ok e new room ten =
    checks_answer g.setup m.tables e (row g.setup m.tables e) new room
    (sym (first_skipped 10 _ _ (ap not (passes (acceptable g m) ok))) ∙ ten)

pub step_answer : (g : Given) (e : Event) (new buffer : List ℕ) (m : Machine) → Accepted g m → (step g e new buffer m).number ≢ 10
unfolding performed refused perform
step_answer g e new buffer m accepted =
    step_either g e new buffer m (λ o. o.number ≢ 10)
    (λ p. does_answer g (outset m).tables e new (seal_all g (row g.setup (outset m).tables e).seals (outset m)))
    (λ n q ne ten. refusal_answer g (outset m) (outset_accepted g m accepted).ok e (length new) (length buffer) (q ∙ ten))

-- so the used count that is told is the machine's
pub step_tells : (g : Given) (e : Event) (new buffer : List ℕ) (m : Machine) → Accepted g m
    → (step g e new buffer m).used ≡ (step g e new buffer m).machine.tables.used
unfolding performed refused
step_tells g e new buffer m accepted =
    step_either g e new buffer m (λ o. o.used ≡ o.machine.tables.used) (λ p. refl)
    (λ n q ne. rw (ne_eqb n 10
    (λ ten. refusal_answer g (outset m) (outset_accepted g m accepted).ok e (length new) (length buffer) (q ∙ ten))))
