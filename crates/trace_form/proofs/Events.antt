-- Kinds and fields against events, both ways: an event is the one of its kind and its fields, and the event of a kind and
-- of fields that fit it has that kind and those fields.
use mathlib.Core.Path.{◌≡◌, refl, sym, ap, ◌∙◌}
use Prim.Native.Nat.{ℕ, zero, suc, ◌+◌, ◌-◌, ◌^◌, ◌≤◌, ◌<◌}
use native.Mathlib.Nat.{zero-add, add-zero, suc-add, add-suc, le_of_suc-le-suc, not-suc-le-zero}
use native.Mathlib.Omega.{arith}
use lib.Arith.{lt-one}
use lib.Dec.{lit<}
use lib.ListN.{get_or}
use Rattle.rules.specs.Events.{kinds, kind_of}
use Rattle.rules.specs.declared.Span.{Span}
use Rattle.rules.specs.declared.TrapKind.{TrapKind}
use Rattle.rules.specs.declared.TrapKind.TheVariants.{Interrupt, Call}
use Rattle.rules.specs.declared.Event.{Event}
use Rattle.rules.specs.declared.Event.TheVariants.{Begin, End, Map, Unmap, KernelRead, KernelWrite, Resume, Spawn, Leave}
use Rattle.rules.specs.declared.Event.TheVariants.{Cloak, Uncloak, Read, Write, Trap}
use Rattle.trace_form.specs.Form.{numbers, with_span, widths_of, trap_number, trap_of, no_span, fields, fields_of, events, event_of}
use Rattle.trace_form.specs.Bounds.{Within}
use Rattle.trace_form.specs.declared.Form.{Form}
use Rattle.trace_form.specs.declared.Widths.{Widths}
use Rattle.trace_form.specs.declared.Fields.{Fields}
use Rattle.trace_form.proofs.Table.{◌▹◌}

-- the event of a kind that the code found to be n
pub event_at_holds : (v : Fields) (k n : ℕ) → k ≡ n → get_or (events v) n (Leave (record { 0 = 0 })) ≡ event_of k v
unfolding event_of
event_at_holds v k n e = ap (λ (x : ℕ). get_or (events v) x (Leave (record { 0 = 0 }))) (sym e)

-- what holds of each of the n numbers from k on
abbrev Each : (ℕ → Type 0) → ℕ → ℕ → Type 0
Each P k zero = Unit {0}
Each P k (suc n) = P k × Each P (suc k) n

each_from : (P : ℕ → Type 0) (k n i : ℕ) → Each P k n → i < n → P (k + i)
each_from P k zero i t h = absurd (not-suc-le-zero h)
each_from P k (suc n) zero t h = rw add-zero t.0
each_from P k (suc n) (suc i) t h = rw (add-suc, ← suc-add) (each_from P (suc k) n i t.1 (le_of_suc-le-suc h))

each : (P : ℕ → Type 0) (n k : ℕ) → Each P 0 n → k < n → P k
each P n k t h = rw zero-add at (each_from P 0 n k t h)

trap_back : (b : ℕ) → b < 2 → trap_number (trap_of b) ≡ b
trap_back zero h = refl
trap_back (suc zero) h = refl
trap_back (suc (suc b)) h = absurd (let z : ⊥ = omega arith in z)

trap_there : (k : TrapKind) → trap_of (trap_number k) ≡ k
trap_there Interrupt = refl
trap_there Call = refl

pub kind_of_event : (v : Fields) (k : ℕ) → k < kinds → kind_of (event_of k v) ≡ k
unfolding event_of
kind_of_event v k h =
    each (λ (x : ℕ). kind_of (event_of x v) ≡ x) kinds k
    (refl ▹ refl ▹ refl ▹ refl ▹ refl ▹ refl ▹ refl ▹ refl ▹ refl ▹ refl ▹ refl ▹ refl ▹ refl ▹ refl ▹ tt) h

-- fields that fit a row with fewer of them: a field of no bits is 0, and a span of none is the one that stands for none
no_bits : {n : ℕ} → n < 2 ^ 0 → 0 ≡ n
no_bits h = sym (lt-one h)

no_span_holds : (x : Span) → x.off < 2 ^ 0 → x.len - 1 < 2 ^ 0 → 1 ≤ x.len → no_span ≡ x
no_span_holds x ho hl h =
    let e : 1 ≡ x.len = omega (arith, no_bits hl) in
    λ i. record { off = no_bits ho i; len = e i }

module _ (v : Fields) where
  three_numbers : {a b c : ℕ} → Within (numbers a b c) v → fields v.first v.second v.third no_span ≡ v
  three_numbers w =
      ap (λ (x : Span). fields v.first v.second v.third x) (no_span_holds v.span w.four w.five w.some)

  two_numbers : {a b : ℕ} → Within (numbers a b 0) v → fields v.first v.second 0 no_span ≡ v
  two_numbers w = ap (λ (x : ℕ). fields v.first v.second x no_span) (no_bits w.three) ∙ three_numbers w

  one_number : {a : ℕ} → Within (numbers a 0 0) v → fields v.first 0 0 no_span ≡ v
  one_number w = ap (λ (x : ℕ). fields v.first x 0 no_span) (no_bits w.two) ∙ two_numbers w

  span_behind : {a b : ℕ} → Within (with_span a b) v → fields v.first v.second 0 v.span ≡ v
  span_behind w = ap (λ (x : ℕ). fields v.first v.second x v.span) (no_bits w.three)

  span_alone : {a : ℕ} → Within (with_span a 0) v → fields v.first 0 0 v.span ≡ v
  span_alone w = ap (λ (x : ℕ). fields v.first x 0 v.span) (no_bits w.two) ∙ span_behind w

  trap_fields : {a c : ℕ} → Within (numbers a 1 c) v
      → fields v.first (trap_number (trap_of v.second)) v.third no_span ≡ v
  trap_fields w =
      ap (λ (x : ℕ). fields v.first x v.third no_span) (trap_back v.second w.two) ∙ three_numbers w

pub fields_of_event : (f : Form) (v : Fields) (k : ℕ) → k < kinds → Within (widths_of f k) v → fields_of (event_of k v) ≡ v
unfolding event_of widths_of
fields_of_event f v k h =
    each (λ (x : ℕ). Within (widths_of f x) v → fields_of (event_of x v) ≡ v) kinds k
    (two_numbers v
    ▹ one_number v
    ▹ three_numbers v
    ▹ two_numbers v
    ▹ span_alone v
    ▹ span_alone v
    ▹ two_numbers v
    ▹ two_numbers v
    ▹ one_number v
    ▹ two_numbers v
    ▹ two_numbers v
    ▹ span_behind v
    ▹ span_behind v
    ▹ trap_fields v
    ▹ tt)
    h

pub event_of_fields : (e : Event) → event_of (kind_of e) (fields_of e) ≡ e
unfolding event_of
event_of_fields (Begin d c) = refl
event_of_fields (End d) = refl
event_of_fields (Map d v f) = refl
event_of_fields (Unmap d v) = refl
event_of_fields (KernelRead f x) = refl
event_of_fields (KernelWrite f x) = refl
event_of_fields (Resume d c) = refl
event_of_fields (Spawn c u) = refl
event_of_fields (Leave c) = refl
event_of_fields (Cloak c v) = refl
event_of_fields (Uncloak c v) = refl
event_of_fields (Read c v x) = refl
event_of_fields (Write c v x) = refl
event_of_fields (Trap c k mask) = ap (λ (x : TrapKind). Trap c x mask) (trap_there k)

-- an event's span fits its fields, where it can be written; the one that stands for none always does
module _ (f : Form) where
  Spans : Widths → Span → Type 0
  Spans w x = (x.off < 2 ^ w.off) × (x.len - 1 < 2 ^ w.len)

  none_fits : (a b c : ℕ) → Spans (numbers a b c) no_span
  unfolding Spans
  none_fits a b c = (lit< tt, lit< tt)

  span_fits_holds : (a b : ℕ) (x : Span) → x.off ≤ 4095 → x.len ≤ 4096 → Spans (with_span a b) x
  unfolding Spans
  span_fits_holds a b x ho hl = (omega arith, omega arith)

  span_within : (e : Event) → (fields_of e).span.off ≤ 4095 → (fields_of e).span.len ≤ 4096
      → Spans (widths_of f (kind_of e)) (fields_of e).span
  unfolding widths_of
  span_within (Begin d c) ho hl = none_fits 3 f.context 0
  span_within (End d) ho hl = none_fits 3 0 0
  span_within (Map d v g) ho hl = none_fits 3 5 6
  span_within (Unmap d v) ho hl = none_fits 3 5 0
  span_within (KernelRead g x) ho hl = span_fits_holds 6 0 x ho hl
  span_within (KernelWrite g x) ho hl = span_fits_holds 6 0 x ho hl
  span_within (Resume d c) ho hl = none_fits 3 f.context 0
  span_within (Spawn c u) ho hl = none_fits f.context f.context 0
  span_within (Leave c) ho hl = none_fits f.context 0 0
  span_within (Cloak c v) ho hl = none_fits f.context 5 0
  span_within (Uncloak c v) ho hl = none_fits f.context 5 0
  span_within (Read c v x) ho hl = span_fits_holds f.context 5 x ho hl
  span_within (Write c v x) ho hl = span_fits_holds f.context 5 x ho hl
  span_within (Trap c k mask) ho hl = none_fits f.context 1 8

  pub event_within : (e : Event) → let w = widths_of f (kind_of e) in let v = fields_of e in
      (v.first < 2 ^ w.first) → (v.second < 2 ^ w.second) → (v.third < 2 ^ w.third)
      → 1 ≤ v.span.len → v.span.len ≤ 4096 → v.span.off ≤ 4095 → Within w v
  unfolding Spans
  event_within e one two three some len off =
      let x = span_within e off len in
      record { one = one; two = two; three = three; four = x.0; five = x.1; some = some }
