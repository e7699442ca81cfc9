-- Document 01, "The trace form": the widths of each kind's fields, how many bytes they take with the kind before them, and
-- which event has which values. The form is a parameter with one value today, `first`.
use Rattle.std.specs.Prelude.{List, [], ◌∷◌, ℕ, zero, suc, ◌+◌, ◌-◌, ◌*◌, ◌/◌, ◌^◌, ◌≤◌, get_or, take}
use Rattle.trace_bits.specs.Packing.{join, split}
use Rattle.rules.specs.Bytes.{big_endian, number}
use Rattle.rules.specs.Events.{kinds}
use Rattle.rules.specs.declared.Span.{Span}
use Rattle.rules.specs.declared.TrapKind.{TrapKind}
use Rattle.rules.specs.declared.TrapKind.TheVariants.{Interrupt, Call}
use Rattle.rules.specs.declared.Event.{Event}
use Rattle.rules.specs.declared.Event.TheVariants.{Begin, End, Map, Unmap, KernelRead, KernelWrite, Resume, Spawn, Leave}
use Rattle.rules.specs.declared.Event.TheVariants.{Cloak, Uncloak, Read, Write, Trap}
use Rattle.trace_form.specs.declared.Form.{Form}
use Rattle.trace_form.specs.declared.Widths.{Widths}
use Rattle.trace_form.specs.declared.Head.{Head}
use Rattle.trace_form.specs.declared.Fields.{Fields}

-- document 01's form: a kind of 4 bits, a context of 4, and fourteen kinds
abbrev pub kind_bits : ℕ
kind_bits = 4

abbrev pub context_bits : ℕ
context_bits = 4

abbrev pub first : Form
first = record { kind = kind_bits; context = context_bits; kinds = kinds }

-- what every form keeps to: the kind stands in the first byte, which has room for each; and every event has a kind
pub record Right (f : Form) : Type 0 where
  pub kind_bits_holds : f.kind ≤ 8
  pub context_bits_holds : f.context ≤ 8
  pub room : f.kinds ≤ 2 ^ f.kind
  pub every : kinds ≤ f.kinds

-- the widths that no form changes; of a length, one less is written
abbrev pub domain_bits : ℕ
domain_bits = 3

abbrev pub page_bits : ℕ
page_bits = 5

abbrev pub frame_bits : ℕ
frame_bits = 6

abbrev pub off_bits : ℕ
off_bits = 12

abbrev pub len_bits : ℕ
len_bits = 12

abbrev pub trap_bits : ℕ
trap_bits = 1

abbrev pub mask_bits : ℕ
mask_bits = 8

-- a kind has up to three numbers, and then may have a span: a field that it does not have is 0 bits wide
abbrev pub numbers : ℕ → ℕ → ℕ → Widths
numbers a b c = record { first = a; second = b; third = c; off = 0; len = 0 }

abbrev pub with_span : ℕ → ℕ → Widths
with_span a b = record { first = a; second = b; third = 0; off = off_bits; len = len_bits }

-- the fields of kinds 0 to 13, in their order
abbrev pub table : ℕ → List Widths
table context =
    numbers domain_bits context 0
    ∷ numbers domain_bits 0 0
    ∷ numbers domain_bits page_bits frame_bits
    ∷ numbers domain_bits page_bits 0
    ∷ with_span frame_bits 0
    ∷ with_span frame_bits 0
    ∷ numbers domain_bits context 0
    ∷ numbers context context 0
    ∷ numbers context 0 0
    ∷ numbers context page_bits 0
    ∷ numbers context page_bits 0
    ∷ with_span context page_bits
    ∷ with_span context page_bits
    ∷ numbers context trap_bits mask_bits
    ∷ []

unfoldable pub widths_of : Form → ℕ → Widths
widths_of f k = get_or (table f.context) k (numbers 0 0 0)

-- a record before its data: kind and fields, then zero bits to a whole byte
abbrev pub used_bits : ℕ → Widths → ℕ
used_bits kind w = kind + w.first + w.second + w.third + w.off + w.len

abbrev pub head_for : ℕ → Widths → Head
head_for kind w =
    let bytes = (used_bits kind w + 7) / 8 in
    record { kind = kind; widths = w; padding = 8 * bytes - used_bits kind w; bytes = bytes }

unfoldable pub head_of : Form → ℕ → Head
head_of f k = head_for f.kind (widths_of f k)

abbrev pub head_widths : Head → List ℕ
head_widths h =
    h.kind
    ∷ h.widths.first
    ∷ h.widths.second
    ∷ h.widths.third
    ∷ h.widths.off
    ∷ h.widths.len
    ∷ h.padding
    ∷ []

-- the values of a kind's fields, and back
abbrev pub values : ℕ → Fields → List ℕ
values k v = k ∷ v.first ∷ v.second ∷ v.third ∷ v.span.off ∷ (v.span.len - 1) ∷ 0 ∷ []

abbrev pub fields_in : List ℕ → Fields
fields_in vs =
    record {
      first = get_or vs 1 0;
      second = get_or vs 2 0;
      third = get_or vs 3 0;
      span = record { off = get_or vs 4 0; len = get_or vs 5 0 + 1 };
    }

abbrev pub padding_in : List ℕ → ℕ
padding_in vs = get_or vs 6 0

-- a head's bytes, and the values that bytes begin with
unfoldable pub head_bytes : Head → ℕ → Fields → List ℕ
head_bytes h k v = big_endian h.bytes (join 0 (head_widths h) (values k v))

unfoldable pub values_at : Head → List ℕ → List ℕ
values_at h bytes = split (head_widths h) (number (take h.bytes bytes))

-- trap kind 0 is an interrupt, 1 a call
abbrev pub trap_number : TrapKind → ℕ
trap_number Interrupt = 0
trap_number Call = 1

abbrev pub trap_of : ℕ → TrapKind
trap_of zero = Interrupt
trap_of (suc n) = Call

-- the fields of an event; where it has no span, the values of that span's empty fields are 0
abbrev pub no_span : Span
no_span = record { off = 0; len = 1 }

abbrev pub fields : ℕ → ℕ → ℕ → Span → Fields
fields a b c span = record { first = a; second = b; third = c; span = span }

abbrev pub fields_of : Event → Fields
fields_of (Begin d c) = fields d.0 c.0 0 no_span
fields_of (End d) = fields d.0 0 0 no_span
fields_of (Map d v f) = fields d.0 v.0 f.0 no_span
fields_of (Unmap d v) = fields d.0 v.0 0 no_span
fields_of (KernelRead f x) = fields f.0 0 0 x
fields_of (KernelWrite f x) = fields f.0 0 0 x
fields_of (Resume d c) = fields d.0 c.0 0 no_span
fields_of (Spawn c u) = fields c.0 u.0 0 no_span
fields_of (Leave c) = fields c.0 0 0 no_span
fields_of (Cloak c v) = fields c.0 v.0 0 no_span
fields_of (Uncloak c v) = fields c.0 v.0 0 no_span
fields_of (Read c v x) = fields c.0 v.0 0 x
fields_of (Write c v x) = fields c.0 v.0 0 x
fields_of (Trap c k mask) = fields c.0 (trap_number k) mask no_span

-- the event of each kind that has the given fields
abbrev pub events : Fields → List Event
events v =
    Begin (record { 0 = v.first }) (record { 0 = v.second })
    ∷ End (record { 0 = v.first })
    ∷ Map (record { 0 = v.first }) (record { 0 = v.second }) (record { 0 = v.third })
    ∷ Unmap (record { 0 = v.first }) (record { 0 = v.second })
    ∷ KernelRead (record { 0 = v.first }) v.span
    ∷ KernelWrite (record { 0 = v.first }) v.span
    ∷ Resume (record { 0 = v.first }) (record { 0 = v.second })
    ∷ Spawn (record { 0 = v.first }) (record { 0 = v.second })
    ∷ Leave (record { 0 = v.first })
    ∷ Cloak (record { 0 = v.first }) (record { 0 = v.second })
    ∷ Uncloak (record { 0 = v.first }) (record { 0 = v.second })
    ∷ Read (record { 0 = v.first }) (record { 0 = v.second }) v.span
    ∷ Write (record { 0 = v.first }) (record { 0 = v.second }) v.span
    ∷ Trap (record { 0 = v.first }) (trap_of v.second) v.third
    ∷ []

-- asked only of kinds that have one
unfoldable pub event_of : ℕ → Fields → Event
event_of k v = get_or (events v) k (Leave (record { 0 = 0 }))
