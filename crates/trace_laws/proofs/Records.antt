-- One record: what is known of one that was read, and both round trips, in every right form.
use mathlib.Core.Path.{◌≡◌, refl, sym, ap, ap₂, subst₂, ◌∙◌}
use mathlib.Core.Bool.{Bool, true, false, cond}
use mathlib.Core.List.{List, [], ◌∷◌, ◌++◌, append_assoc}
use Prim.Native.Nat.{ℕ, ◌+◌, ◌-◌, ◌/◌, ◌^◌, ◌≤◌, ◌<◌}
use native.Mathlib.Nat.{lt_of_lt_of_le}
use native.Mathlib.Omega.{arith}
use lib.Dec.{leb, ltb, eqb}
use lib.ListN.{get_or, length, take, drop, length-append, length-take, length-drop, get_or-append}
use lib.Pow.{pow_mono}
use lib.Seq.{take_at, drop_at, take-add}
use borrow.Author.Tests.{leb-true, leb-false, lt-ltb, le-ltb, le-leb, eq-eqb}
use Rattle.std.specs.Prelude.{Some, None, Result, Ok, Err}
use Rattle.rules.specs.Bytes.{Bytes, all_of}
use Rattle.rules.specs.Events.{kinds, kind_of, data_length}
use Rattle.rules.specs.Answers.{check, first_of}
use Rattle.rules.proofs.Facts.{each, passed}
use Rattle.rules.proofs.Rows.{kind_below}
use Rattle.rules.specs.declared.Event.{Event}
use Rattle.trace_form.specs.Form.{Right, head_of, widths_of, head_bytes, values_at, fields_in, padding_in, fields_of, event_of, values}
use Rattle.trace_form.specs.Bounds.{Laid, Within}
use Rattle.trace_form.specs.declared.Form.{Form}
use Rattle.trace_form.specs.declared.Head.{Head}
use Rattle.trace_form.specs.declared.Fields.{Fields}
use Rattle.trace_form.proofs.Heads.{laid, length_head, values_of_head, values_back, kind_in_head, read_within, head_of_values}
use Rattle.trace_form.proofs.Events.{kind_of_event, fields_of_event, event_of_fields}
use Rattle.rules.specs.declared.Refusal.{Refusal}
use Rattle.rules.specs.declared.Refusal.TheVariants.{NoEvent, CutShort, NotAcceptable}
use Rattle.trace_read.specs.Reading.{Found, kind_in, has_event, event_at, record_at, data_at, head_whole, record_of, found_of, read_at}
use Rattle.trace_read.specs.declared.Record.{Record}
use Rattle.trace_read.proofs.Places.{data_whole, head_read, read_record}
use Rattle.trace_write.specs.Writing.{record_bytes, numbers_fit, span_fits, max_len, max_off, refusal_of, record_refusal}
use Rattle.trace_write.proofs.Refusals.{record_ready}
use Rattle.trace_write.proofs.Outputs.{length_record, kind_fits, fields_fit}

-- what is known of a record that was read; k is its kind
pub record Stands (f : Form) (unread : List ℕ) (place : ℕ) (r : Record) : Type 0 where
  pub near : place + length unread < 2 ^ 64
  pub kind : ℕ
  pub is_kind : kind ≡ kind_in f unread
  pub below : kind < kinds
  pub head : (head_of f kind).bytes ≤ length unread
  pub padding : padding_in (values_at (head_of f kind) unread) ≡ 0
  pub event : r.event ≡ event_of kind (fields_in (values_at (head_of f kind) unread))
  pub start_at : r.start ≡ (head_of f kind).bytes
  pub data_length_holds : r.len ≡ data_length r.event
  pub inside : r.start + r.len ≤ length unread
  pub next_at : r.next ≡ place + r.start + r.len

-- a test passed, where the other case is no record
taken : {A : Type 0} (r : A) (b : Bool) (x : Result A Refusal) (n : Refusal) → cond b x (Err n) ≡ Ok r
    → (b ≡ true) × (x ≡ Ok r)
taken r true x n h = (refl, h)
taken r false x n h = absurd (cc)

left : {A : Type 0} (r : A) (b : Bool) (x y : Result A Refusal) → (x ≡ Ok r → ⊥) → cond b x y ≡ Ok r
    → (b ≡ false) × (y ≡ Ok r)
left r true x y g h = absurd (g h)
left r false x y g h = (refl, h)

was_record : (r : Record) (x : Result Record Refusal) → found_of x ≡ Ok (Some r) → x ≡ Ok r
was_record r (Ok y) h = cc
was_record r (Err n) h = absurd (cc)

module _ (r : Record) where
  no_refusal : {n : Refusal} → ◌≡◌ {A = Found} (Err n) (Ok (Some r)) → ⊥
  no_refusal h = cc

  no_end : ◌≡◌ {A = Found} (Ok None) (Ok (Some r)) → ⊥
  no_end h = cc

  pub stands : (f : Form) (unread : List ℕ) (place : ℕ) → read_at f unread place ≡ Ok (Some r) → Stands f unread place r
  unfolding read_at record_of has_event head_whole event_at data_at
  stands f unread place h =
      let k : ℕ = kind_in f unread in
      let hd : Head = head_of f k in
      let e : Event = event_of k (fields_in (values_at hd unread)) in
      let whole : Record = record_at e hd.bytes (data_length e) (place + hd.bytes + data_length e) in
      let far = left (Some r) (leb (2 ^ 64) (place + length unread)) (Err NotAcceptable) _ no_refusal h in
      let some = left (Some r) (eqb (length unread) 0) (Ok None) _ no_end far.1 in
      let known = taken (Some r) (all_of (ltb k f.kinds ∷ ltb k kinds ∷ [])) (found_of (record_of f k unread place)) NoEvent some.1 in
      let heads = taken r (all_of (leb hd.bytes (length unread) ∷ eqb (padding_in (values_at hd unread)) 0 ∷ []))
      (data_at (length unread) place hd.bytes e) CutShort (was_record r (record_of f k unread place) known.1) in
      let all = taken r (leb (hd.bytes + data_length e) (length unread)) (Ok whole) CutShort heads.1 in
      let is : whole ≡ r = cc (all.1) in
      let ee : r.event ≡ e = sym (ap (λ (x : Record). x.event) is) in
      let es : r.start ≡ hd.bytes = sym (ap (λ (x : Record). x.start) is) in
      let el : r.len ≡ data_length e = sym (ap (λ (x : Record). x.len) is) in
      let en : r.next ≡ place + hd.bytes + data_length e = sym (ap (λ (x : Record). x.next) is) in
      let ks = each (ltb k f.kinds ∷ ltb k kinds ∷ []) (passed _ known.0) in
      let hs = each (leb hd.bytes (length unread) ∷ eqb (padding_in (values_at hd unread)) 0 ∷ []) (passed _ heads.0) in
      record {
        near = leb-false (2 ^ 64) (place + length unread) far.0;
        kind = k;
        is_kind = refl;
        below = lib.Dec.ltb→lt k kinds ks.1.0;
        head = lib.Dec.leb→le hd.bytes (length unread) hs.0;
        padding = lib.Dec.eqb→eq (padding_in (values_at hd unread)) 0 hs.1.0;
        event = ee;
        start_at = es;
        data_length_holds = el ∙ ap data_length (sym ee);
        inside =
            subst₂ (λ (x y : ℕ). x + y ≤ length unread) (sym es) (sym el)
            (leb-true (hd.bytes + data_length e) (length unread) all.0);
        next_at = en ∙ sym (ap₂ (λ (x y : ℕ). place + x + y) es el);
      }

-- a record that fits: none of the writer's checks but that of the room can refuse it
pub record Fits (f : Form) (e : Event) (new : List ℕ) : Type 0 where
  pub fields : Within (head_of f (kind_of e)).widths (fields_of e)
  pub data_length_holds : length new ≡ data_length e

module _ (f : Form) (right : Right f) where
  -- the length that a span of at most twelve bits can have
  short : (w n : ℕ) → w ≤ 12 → n < 2 ^ w → n < 4096
  short w n h g = lt_of_lt_of_le g (pow_mono {i = w} {j = 12} h)

  pub not_refused : (e : Event) (new : List ℕ) (room : ℕ) → Fits f e new → (head_of f (kind_of e)).bytes + length new ≤ room
      → record_refusal f e new room ≡ 0
  unfolding record_refusal refusal_of numbers_fit span_fits first_of check all_of
  not_refused e new room fit h =
      let hd : Head = head_of f (kind_of e) in
      let v : Fields = fields_of e in
      let w : Within hd.widths v = fit.fields in
      let l : Laid hd = laid f (kind_of e) right in
      let off : v.span.off < 4096 = short hd.widths.off v.span.off l.small.four w.four in
      let len : v.span.len - 1 < 4096 = short hd.widths.len (v.span.len - 1) l.small.five w.five in
      simp (
        lt-ltb v.first (2 ^ hd.widths.first) w.one,
        lt-ltb v.second (2 ^ hd.widths.second) w.two,
        lt-ltb v.third (2 ^ hd.widths.third) w.three,
        lt-ltb 0 v.span.len w.some,
        le-leb v.span.len max_len (omega (arith, w.some)),
        le-leb v.span.off max_off (omega arith),
        eq-eqb (length new) (data_length e) fit.data_length_holds,
        le-ltb room (hd.bytes + length new) h,
      )

  pub fits_where_not_refused : (e : Event) (new : List ℕ) (room : ℕ) → record_refusal f e new room ≡ 0
      → Fits f e new × ((head_of f (kind_of e)).bytes + length new ≤ room)
  unfolding record_refusal
  fits_where_not_refused e new room z =
      let r = record_ready (head_of f (kind_of e)) (fields_of e) (data_length e) (length new) room z in
      (record { fields = fields_fit f e right (data_length e) (length new) room r; data_length_holds = r.data_length_holds }, r.enough)

  -- WRITING WHAT WAS READ
  module _ (unread : List ℕ) (place : ℕ) (r : Record) (st : Stands f unread place r) where
    abbrev k : ℕ
    k = st.kind

    abbrev hd : Head
    hd = head_of f k

    abbrev v : Fields
    v = fields_in (values_at hd unread)

    within : Within (widths_of f k) v
    unfolding head_of
    within = read_within hd (laid f k right) unread

    kind_same : kind_of r.event ≡ k
    kind_same = ap kind_of st.event ∙ kind_of_event v k st.below

    fields_same : fields_of r.event ≡ v
    fields_same = ap fields_of st.event ∙ fields_of_event f v k st.below within

    head_same : head_of f (kind_of r.event) ≡ hd
    head_same = ap (head_of f) kind_same

    pub read_fits : Fits f r.event (take r.len (drop r.start unread))
    unfolding head_of
    read_fits =
        record {
          fields = subst₂ (λ (x : ℕ) (y : Fields). Within (widths_of f x) y) (sym kind_same) (sym fields_same) within;
          data_length_holds =
              length-take r.len (drop r.start unread)
              ∙ omega (arith, length-drop r.start unread, st.inside, st.data_length_holds);
        }

    kind_first : k ≡ get_or unread 0 0 / 2 ^ (8 - hd.kind)
    unfolding head_of kind_in
    kind_first = st.is_kind

    pub written_back : Bytes unread → record_bytes f r.event (take r.len (drop r.start unread)) ≡ take (r.start + r.len) unread
    unfolding record_bytes
    written_back b =
        let heads : head_bytes (head_of f (kind_of r.event)) (kind_of r.event) (fields_of r.event) ≡ take hd.bytes unread =
        ap₂ (λ (x : ℕ) (y : Fields). head_bytes (head_of f x) x y) kind_same fields_same
        ∙ head_of_values hd (laid f k right) unread k st.head b kind_first st.padding in
        ap (λ (x : List ℕ). x ++ take r.len (drop r.start unread)) (heads ∙ ap (λ (x : ℕ). take x unread) (sym st.start_at))
        ∙ sym (take-add r.start r.len unread)

    pub takes_a_byte : 1 ≤ r.start + r.len
    takes_a_byte = omega (arith, st.start_at, (laid f k right).some)

  -- READING WHAT WAS WRITTEN
  module _ (e : Event) (new tail : List ℕ) (place : ℕ) (fit : Fits f e new) where
    abbrev head : Head
    head = head_of f (kind_of e)

    abbrev bytes : List ℕ
    bytes = record_bytes f e new ++ tail

    laid_head : Laid head
    laid_head = laid f (kind_of e) right

    length_bytes : length bytes ≡ head.bytes + data_length e + length tail
    length_bytes = omega (arith, length-append (record_bytes f e new) tail, length_record f e new right, fit.data_length_holds)

    parted : bytes ≡ head_bytes head (kind_of e) (fields_of e) ++ (new ++ tail)
    unfolding record_bytes
    parted = append_assoc (head_bytes head (kind_of e) (fields_of e)) new tail

    begins : take head.bytes bytes ≡ head_bytes head (kind_of e) (fields_of e)
    begins =
        ap (take head.bytes) parted
        ∙ take_at (head_bytes head (kind_of e) (fields_of e)) (new ++ tail) head.bytes
        (length_head head laid_head (kind_of e) (fields_of e))

    behind_head : drop head.bytes bytes ≡ new ++ tail
    behind_head =
        ap (drop head.bytes) parted
        ∙ drop_at (head_bytes head (kind_of e) (fields_of e)) (new ++ tail) head.bytes
        (length_head head laid_head (kind_of e) (fields_of e))

    kind_back : kind_of e ≡ kind_in f bytes
    unfolding kind_in head_of
    kind_back =
        let hb : List ℕ = head_bytes head (kind_of e) (fields_of e) in
        let n : length hb ≡ head.bytes = length_head head laid_head (kind_of e) (fields_of e) in
        kind_in_head head laid_head (kind_of e) (fields_of e) (kind_fits f e right) fit.fields
        ∙ ap (λ (x : ℕ). x / 2 ^ (8 - f.kind))
        (sym (ap (λ (x : List ℕ). get_or x 0 0) parted ∙ get_or-append hb (new ++ tail) 0 0 (omega (arith, laid_head.some))))

    values_same : values_at head bytes ≡ values (kind_of e) (fields_of e)
    values_same = values_of_head head laid_head (kind_of e) (fields_of e) (kind_fits f e right) fit.fields bytes begins

    -- the record that is read of it
    abbrev pub whole : Record
    whole = record_at e head.bytes (data_length e) (place + head.bytes + data_length e)

    record_back : Ok whole ≡ record_of f (kind_of e) bytes place
    unfolding values_at
    record_back =
        head_read f bytes place (kind_of e) head refl (omega (arith, length_bytes)) _ refl
        (padding_in (values_at head bytes)) (fields_of e) e _ refl (ap padding_in values_same)
        (sym (ap fields_in values_same ∙ values_back (kind_of e) (fields_of e) fit.fields.some))
        (sym (event_of_fields e))
        (data_whole (length bytes) place head.bytes e (data_length e) refl (omega (arith, length_bytes)) (omega (arith, length_bytes)))

    pub read_back : place + length bytes < 2 ^ 64
        → read_at f bytes place ≡ Ok (Some whole)
    read_back near =
        sym (read_record f bytes place near (λ z. omega (arith, z, length_bytes, laid_head.some)) (kind_of e) kind_back _
        (lt_of_lt_of_le (kind_below e) right.every) (kind_below e) (ap found_of record_back))

    -- its data, and what is unread behind it
    pub data_back : take (data_length e) (drop head.bytes bytes) ≡ new
    data_back = ap (take (data_length e)) behind_head ∙ take_at new tail (data_length e) fit.data_length_holds

    pub rest_back : drop (data_length e) (drop head.bytes bytes) ≡ tail
    rest_back = ap (drop (data_length e)) behind_head ∙ drop_at new tail (data_length e) fit.data_length_holds
