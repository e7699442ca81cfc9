-- What writing leaves: the head's bytes and those behind it over the output's front, or the output as it was.
use mathlib.Core.Path.{◌≡◌, sym, ap, ap₂, subst, subst₂, ◌∙◌}
use mathlib.Core.List.{List, ◌++◌, append_assoc}
use Prim.Native.Nat.{ℕ, ◌+◌, ◌≤◌, ◌<◌, ◌^◌}
use native.Mathlib.Nat.{le_trans, lt_of_lt_of_le, zero-add}
use native.Mathlib.Omega.{arith}
use lib.ListN.{length, take, drop, length-append}
use lib.Seq.{take_at, drop_at, drop-drop}
use borrow.Author.Tests.{ne_eqb}
use Rattle.trace_bits.specs.Packing.{join}
use Rattle.rules.specs.Bytes.{overlay, big_endian}
use Rattle.rules.specs.Events.{kind_of, data_length}
use Rattle.rules.proofs.Parts.{overlay_is}
use Rattle.rules.proofs.Rows.{kind_below}
use Rattle.std.specs.Prelude.{Ok, Err}
use Rattle.rules.specs.Refusals.{number_of}
use Rattle.rules.specs.declared.Refusal.{Refusal}
use Rattle.rules.specs.declared.Refusal.TheVariants.{NoEvent, OutOfRange, BadLength, WrongCondition, NotMapped, NoSignature}
use Rattle.rules.specs.declared.Refusal.TheVariants.{Stopped, NotUnveiled, CutShort, NotAcceptable, NoRoom}
use Rattle.rules.specs.declared.Setup.{Setup}
use Rattle.rules.specs.declared.Event.{Event}
use Rattle.trace_form.specs.Form.{Right, head_of, head_widths, values, fields_of, head_bytes}
use Rattle.trace_form.specs.Bounds.{Laid, Within}
use Rattle.rules.specs.Asked.{Limited}
use Rattle.rules.proofs.Facts.{limited}
use Rattle.trace_form.specs.Header.{header_widths, header_length, setup_values, header_bytes, header_of}
use Rattle.trace_form.specs.declared.Form.{Form}
use Rattle.trace_form.specs.declared.Head.{Head}
use Rattle.trace_form.specs.declared.Fields.{Fields}
use Rattle.trace_form.proofs.Heads.{laid, laid_at, length_head}
use Rattle.trace_form.proofs.Events.{event_within}
use Rattle.trace_form.proofs.Headers.{length_header}
use Rattle.trace_write.specs.Writing.{left, written, header_refusal, write_header, record_bytes, refusal_of}
use Rattle.trace_write.specs.Writing.{record_refusal, write_record}
use Rattle.trace_write.proofs.Refusals.{header_ready, RecordReady, record_ready}

-- bytes over the front
pub overlay_front : (new out : List ℕ) → length new ≤ length out → overlay 0 new out ≡ new ++ drop (length new) out
overlay_front new out h =
    overlay_is 0 new out (omega arith) ∙ ap (λ (x : ℕ). new ++ drop x out) (zero-add (length new))

-- a head is stored, and then the others behind it; stored is the output between the two, mid the n bytes behind the head
pub put_over : (hd others out stored mid : List ℕ) (k n : ℕ) → length hd ≡ k → k + length others ≤ length out
    → stored ≡ hd ++ drop k out → mid ≡ others → n ≡ length others
    → take k stored ++ (mid ++ drop n (drop k stored)) ≡ overlay 0 (hd ++ others) out
put_over hd others out stored mid k n hl fits es em en =
    let front : take k stored ≡ hd = ap (take k) es ∙ take_at hd (drop k out) k hl in
    let rest : drop k stored ≡ drop k out = ap (drop k) es ∙ drop_at hd (drop k out) k hl in
    let behind : mid ++ drop n (drop k stored) ≡ others ++ drop (k + length others) out =
    ap₂ (λ (x z : List ℕ). x ++ z) em
    (ap₂ (λ (i : ℕ) (x : List ℕ). drop i x) en rest ∙ drop-drop (length others) k out) in
    let len : length (hd ++ others) ≡ k + length others = length-append hd others ∙ ap (λ (x : ℕ). x + length others) hl in
    ap₂ (λ (x z : List ℕ). x ++ z) front behind
    ∙ sym (append_assoc hd others (drop (k + length others) out))
    ∙ ap (λ (x : ℕ). (hd ++ others) ++ drop x out) (sym len)
    ∙ sym (overlay_front (hd ++ others) out (omega (arith, len)))

-- a refusal has a number
some_number : (r : Refusal) → number_of r ≡ 0 → ⊥
some_number NoEvent e = omega (arith, e)
some_number OutOfRange e = omega (arith, e)
some_number BadLength e = omega (arith, e)
some_number WrongCondition e = omega (arith, e)
some_number NotMapped e = omega (arith, e)
some_number NoSignature e = omega (arith, e)
some_number Stopped e = omega (arith, e)
some_number NotUnveiled e = omega (arith, e)
some_number CutShort e = omega (arith, e)
some_number NotAcceptable e = omega (arith, e)
some_number NoRoom e = omega (arith, e)

-- refused, or done
pub was_refused : (r : Refusal) (m : ℕ) (bytes out : List ℕ) → number_of r ≡ m → left (Err r) out ≡ written m bytes out
unfolding written
was_refused r m bytes out e =
    let is : left (Err r) out ≡ written (number_of r) bytes out = simp (ne_eqb (number_of r) 0 (some_number r)) in
    is ∙ ap (λ (x : ℕ). written x bytes out) e

pub was_done : (m count : ℕ) (bytes out after : List ℕ) → 0 ≡ m → count ≡ length bytes → after ≡ overlay 0 bytes out
    → left (Ok count) after ≡ written m bytes out
unfolding written
was_done m count bytes out after e ec ea =
    let is : left (Ok count) after ≡ written 0 bytes out = λ i. record { number = 0; count = ec i; out = ea i } in
    is ∙ ap (λ (x : ℕ). written x bytes out) e

-- a header, written
pub length_header_of : (s : Setup) (supply : List ℕ) → length (header_of s supply) ≡ header_length + length supply
unfolding header_of
length_header_of s supply = length-append (header_bytes s) supply ∙ ap (λ (x : ℕ). x + length supply) (length_header s)

module _ (s : Setup) (supply out : List ℕ) where
  pub header_refused : (r : Refusal) → number_of r ≡ header_refusal s supply (length out)
      → left (Err r) out ≡ write_header s supply out
  unfolding write_header
  header_refused r e = was_refused r (header_refusal s supply (length out)) (header_of s supply) out e

  module _ (z : 0 ≡ header_refusal s supply (length out)) where
    pub header_fits : Limited s × (header_length + length supply ≤ length out)
    header_fits = let r = header_ready s supply (length out) (sym z) in (limited s r.sizes, r.enough)

    pub header_written : (m count : ℕ) (after : List ℕ) → m ≡ join 0 header_widths (setup_values s)
        → count ≡ header_length + length supply → after ≡ overlay 0 (big_endian header_length m ++ supply) out
        → left (Ok count) after ≡ write_header s supply out
    unfolding write_header header_of header_bytes
    header_written m count after em ec ea =
        was_done (header_refusal s supply (length out)) count (header_of s supply) out after z
        (ec ∙ sym (length_header_of s supply))
        (ea ∙ ap (λ (x : ℕ). overlay 0 (big_endian header_length x ++ supply) out) em)

-- a record, written
pub length_record : (f : Form) (e : Event) (new : List ℕ) → Right f
    → length (record_bytes f e new) ≡ (head_of f (kind_of e)).bytes + length new
unfolding record_bytes
length_record f e new r =
    length-append (head_bytes (head_of f (kind_of e)) (kind_of e) (fields_of e)) new
    ∙ ap (λ (x : ℕ). x + length new) (length_head (head_of f (kind_of e)) (laid f (kind_of e) r) (kind_of e) (fields_of e))

-- what packing an event's head asks, where its record is not refused
module _ (f : Form) (e : Event) (right : Right f) where
  pub kind_fits : kind_of e < 2 ^ (head_of f (kind_of e)).kind
  unfolding head_of
  kind_fits = lt_of_lt_of_le (kind_below e) (le_trans right.every right.room)

  pub fields_fit : (want n room : ℕ) → RecordReady (head_of f (kind_of e)) (fields_of e) want n room
      → Within (head_of f (kind_of e)).widths (fields_of e)
  unfolding head_of
  fields_fit want n room r = event_within f e r.one r.two r.three r.some r.len r.off

-- what the code works out of an event before it writes, and that it is right
pub record Prepared (f : Form) (e : Event) (new out : List ℕ) : Type 0 where
  pub right : Right f
  pub kind : ℕ
  pub kind_is : kind ≡ kind_of e
  pub head : Head
  pub head_is : head ≡ head_of f kind
  pub fields : Fields
  pub fields_is : fields ≡ fields_of e
  pub want : ℕ
  pub want_is : want ≡ data_length e

module _ {f : Form} {e : Event} {new out : List ℕ} (p : Prepared f e new out) where
  abbrev the_head : Head
  the_head = head_of f (kind_of e)

  head_of_event : p.head ≡ the_head
  head_of_event = p.head_is ∙ ap (head_of f) p.kind_is

  -- the refusal that the checks give
  abbrev refusal : ℕ
  refusal = refusal_of p.head p.fields p.want (length new) (length out)

  refusal_of_event : refusal ≡ record_refusal f e new (length out)
  unfolding record_refusal
  refusal_of_event =
      ap₂ (λ (x : Head) (y : Fields). refusal_of x y p.want (length new) (length out)) head_of_event p.fields_is
      ∙ ap (λ (x : ℕ). refusal_of the_head (fields_of e) x (length new) (length out)) p.want_is

  pub record_refused : (r : Refusal) → number_of r ≡ refusal → left (Err r) out ≡ write_record f e new out
  unfolding write_record
  record_refused r er =
      was_refused r (record_refusal f e new (length out)) (record_bytes f e new) out (er ∙ refusal_of_event)

  module _ (z : 0 ≡ refusal) where
    ready : RecordReady the_head (fields_of e) (data_length e) (length new) (length out)
    unfolding record_refusal
    ready = record_ready the_head (fields_of e) (data_length e) (length new) (length out) (sym (z ∙ refusal_of_event))

    pub record_fits : (Laid p.head × Within p.head.widths p.fields × (p.kind < 2 ^ p.head.kind))
        × (p.head.bytes + length new ≤ length out)
    record_fits =
        let within = fields_fit f e p.right (data_length e) (length new) (length out) ready in (
          (
            laid_at f p.kind p.head p.right p.head_is,
            subst₂ (λ (x : Head) (y : Fields). Within x.widths y) (sym head_of_event) (sym p.fields_is) within,
            subst₂ (λ (x : ℕ) (y : Head). x < 2 ^ y.kind) (sym p.kind_is) (sym head_of_event) (kind_fits f e p.right),
          ),
          subst (λ (x : Head). x.bytes + length new ≤ length out) (sym head_of_event) ready.enough,
        )

    pub record_written : (m count : ℕ) (after : List ℕ) → m ≡ join 0 (head_widths p.head) (values p.kind p.fields)
        → count ≡ p.head.bytes + length new → after ≡ overlay 0 (big_endian p.head.bytes m ++ new) out
        → left (Ok count) after ≡ write_record f e new out
    unfolding write_record record_bytes head_bytes
    record_written m count after em ec ea =
        let bytes : big_endian p.head.bytes m ≡ head_bytes the_head (kind_of e) (fields_of e) =
        ap (big_endian p.head.bytes) em
        ∙ ap (λ (x : Head). head_bytes x p.kind p.fields) head_of_event
        ∙ ap₂ (λ (x : ℕ) (y : Fields). head_bytes the_head x y) p.kind_is p.fields_is in
        was_done (record_refusal f e new (length out)) count (record_bytes f e new) out after (z ∙ refusal_of_event)
        (ec ∙ ap (λ (x : Head). x.bytes + length new) head_of_event ∙ sym (length_record f e new p.right))
        (ea ∙ ap (λ (x : List ℕ). overlay 0 (x ++ new) out) bytes)
