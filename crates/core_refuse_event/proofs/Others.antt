-- What the columns of the rules say of the kinds that a `match` on an event leaves to one arm, which is told that the event is none of
-- those that it names.
use mathlib.Core.Path.{◌≡◌, refl}
use mathlib.Core.Bool.{true}
use Prim.Native.Nat.{ℕ}
use Rattle.rules.specs.Events.{row, on_records, acting, on_page, answer_length}
use Rattle.rules.specs.declared.Setup.{Setup}
use Rattle.rules.specs.declared.Tables.{Tables}
use Rattle.rules.specs.declared.Asid.{Asid}
use Rattle.rules.specs.declared.Ctc.{Ctc}
use Rattle.rules.specs.declared.Gvpn.{Gvpn}
use Rattle.rules.specs.declared.Gppn.{Gppn}
use Rattle.rules.specs.declared.Span.{Span}
use Rattle.rules.specs.declared.TrapKind.{TrapKind}
use Rattle.rules.specs.declared.Event.{Event}
use Rattle.rules.specs.declared.Event.TheVariants.{Begin, End, Map, Unmap, KernelRead, KernelWrite, Resume, Spawn, Leave}
use Rattle.rules.specs.declared.Event.TheVariants.{Cloak, Uncloak, Read, Write, Trap}

-- an event with nothing to ask of its shape: neither a mask nor a span that could be wrong, and no answer
pub record Shapeless (s : Setup) (e : Event) : Type 0 where
  pub mask : (t : Tables) → true ≡ (row s t e).mask
  pub span : (t : Tables) → true ≡ (row s t e).span
  pub answer : 0 ≡ answer_length e

-- all kinds but those with a span, resume and trap
pub shape_of_rest :
    (s : Setup) (e : Event) → ((f : Gppn) (x : Span) → e ≡ KernelRead f x → ⊥) →
    ((f : Gppn) (x : Span) → e ≡ KernelWrite f x → ⊥) → ((d : Asid) (c : Ctc) → e ≡ Resume d c → ⊥) →
    ((c : Ctc) (v : Gvpn) (x : Span) → e ≡ Read c v x → ⊥) → ((c : Ctc) (v : Gvpn) (x : Span) → e ≡ Write c v x → ⊥) →
    ((c : Ctc) (k : TrapKind) (mask : ℕ) → e ≡ Trap c k mask → ⊥) → Shapeless s e
unfolding row on_records acting on_page
shape_of_rest s (Begin d c) _ _ _ _ _ _ = record { mask = λ t. refl; span = λ t. refl; answer = refl }
shape_of_rest s (End d) _ _ _ _ _ _ = record { mask = λ t. refl; span = λ t. refl; answer = refl }
shape_of_rest s (Map d v f) _ _ _ _ _ _ = record { mask = λ t. refl; span = λ t. refl; answer = refl }
shape_of_rest s (Unmap d v) _ _ _ _ _ _ = record { mask = λ t. refl; span = λ t. refl; answer = refl }
shape_of_rest s (KernelRead f x) kr _ _ _ _ _ = absurd (kr f x refl)
shape_of_rest s (KernelWrite f x) _ kw _ _ _ _ = absurd (kw f x refl)
shape_of_rest s (Resume d c) _ _ re _ _ _ = absurd (re d c refl)
shape_of_rest s (Spawn c u) _ _ _ _ _ _ = record { mask = λ t. refl; span = λ t. refl; answer = refl }
shape_of_rest s (Leave c) _ _ _ _ _ _ = record { mask = λ t. refl; span = λ t. refl; answer = refl }
shape_of_rest s (Cloak c v) _ _ _ _ _ _ = record { mask = λ t. refl; span = λ t. refl; answer = refl }
shape_of_rest s (Uncloak c v) _ _ _ _ _ _ = record { mask = λ t. refl; span = λ t. refl; answer = refl }
shape_of_rest s (Read c v x) _ _ _ rd _ _ = absurd (rd c v x refl)
shape_of_rest s (Write c v x) _ _ _ _ wr _ = absurd (wr c v x refl)
shape_of_rest s (Trap c i m) _ _ _ _ _ tr = absurd (tr c i m refl)
