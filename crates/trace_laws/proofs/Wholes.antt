-- Whole traces in document 01's form: the header and its signatures in front of the records.
use mathlib.Core.Path.{◌≡◌, refl, sym, ap, ap₂, subst, ◌∙◌}
use mathlib.Core.Logic.{inl, inr}
use mathlib.Core.Bool.{Bool, true, false, cond}
use mathlib.Core.List.{List, ◌++◌, append_assoc}
use Prim.Native.Nat.{ℕ, ◌+◌, ◌^◌, ◌≤◌, ◌<◌}
use native.Mathlib.Nat.{lt_of_le_of_lt}
use native.Mathlib.Omega.{arith}
use lib.Dec.{T, eqb, leb, lit≤}
use lib.ListN.{length, take, drop, take-append-drop, length-append, length-take, length-drop}
use lib.Seq.{take_at, drop_at, take-add}
use borrow.Author.Tests.{eqb-true, eqb-false, ne_eqb, eq-eqb, le-ltb}
use Rattle.std.specs.Prelude.{Ok, Err}
use Rattle.rules.specs.Bytes.{Bytes, number, overlay, all_of}
use Rattle.rules.specs.Asked.{Limited}
use Rattle.rules.proofs.BigEndian.{bytes_drop}
use Rattle.rules.specs.Sizes.{setup_in_range, supply_right}
use Rattle.rules.specs.Records.{Given, given}
use Rattle.rules.specs.Answers.{check, first_of}
use Rattle.rules.proofs.Facts.{passes, limited}
use Rattle.rules.specs.declared.Setup.{Setup}
use Rattle.rules.specs.Refusals.{number_of}
use Rattle.trace_form.specs.Form.{Right, first}
use Rattle.trace_form.specs.Header.{header_length, setup_in, setup_values, spare_in, supply_length, header_bytes, header_of, header_values}
use Rattle.trace_form.proofs.Headers.{length_header, setup_back, values_of_header, read_in_range, header_of_values}
use Rattle.rules.specs.declared.Refusal.TheVariants.{CutShort}
use Rattle.trace_read.specs.Reading.{Header, records_from, opened_at, sizes_of, sizes_whole, sizes_at, signed, header_at}
use Rattle.trace_read.specs.declared.Opened.{Opened}
use Rattle.trace_read.proofs.Headers.{HeaderRead, opened, sizes_read, header_whole}
use Rattle.trace_write.specs.Writing.{Written, done, written, header_refusal, write_header}
use Rattle.trace_write.proofs.Refusals.{header_ready}
use Rattle.trace_write.proofs.Outputs.{overlay_front, length_header_of}
use Rattle.trace_laws.specs.Traces.{Item, Content, content, Records, Ends, with, read_records, read_from, read_trace}
use Rattle.trace_laws.specs.Traces.{write_records, write_trace}
use Rattle.trace_laws.specs.Traces.Reading.{ended}
use Rattle.trace_laws.specs.Traces.Records.{all, refused}
use Rattle.trace_laws.proofs.Lists.{items_bytes, AllFit, Ended, records_end, records_held, all_back, front, write_all, stays, all_fit}

pub first_right : Right first
first_right = record { kind_bits_holds = lit≤ tt; context_bits_holds = lit≤ tt; room = lit≤ tt; every = lit≤ tt }

-- the bytes of a whole trace, and what it takes to write them
unfoldable pub trace_bytes : Content → List ℕ
trace_bytes c = header_of c.given.setup c.given.supply ++ items_bytes first c.items

pub record Writable (c : Content) : Type 0 where
  pub sizes : T (setup_in_range c.given.setup)
  pub signatures : length c.given.supply ≡ supply_length c.given.setup
  pub records : AllFit first c.items

length_trace : (c : Content) → length (trace_bytes c) ≡ header_length + length c.given.supply + length (items_bytes first c.items)
unfolding trace_bytes
length_trace c =
    length-append (header_of c.given.setup c.given.supply) (items_bytes first c.items)
    ∙ ap (λ (x : ℕ). x + length (items_bytes first c.items)) (length_header_of c.given.setup c.given.supply)

-- ENDING: a header is refused with 9
abbrev Nine : Header → Type 0
Nine (Ok o) = Unit {0}
Nine (Err r) = r ≡ CutShort

nine : (b : Bool) (o : Opened) → Nine (cond b (Ok o) (Err CutShort))
nine true o = tt
nine false o = refl

nine_signed : (m : ℕ) (h : Header) → Nine h → Nine (signed m h)
nine_signed m (Ok o) t = nine (leb o.records m) o
nine_signed m (Err r) t = t

nine_header : (t : List ℕ) → Nine (header_at t)
unfolding header_at sizes_at
nine_header t =
    let s = setup_in (header_values t) in
    nine_signed (length t) (sizes_at t) (nine (sizes_whole t) (opened_at s (records_from s)))

pub trace_ends : (t : List ℕ) → Ends (read_trace t)
unfolding read_trace
trace_ends t = go (header_at t) refl
  where
    records : (g : Given) (r : Records) → Ended r → Ends (with g r)
    records g (all is) h = tt
    records g (refused n) h = h

    go : (h : Header) → header_at t ≡ h → Ends (read_from t h)
    go (Err r) e = inr (inl (ap number_of (subst Nine e (nine_header t))))
    go (Ok o) e =
        let at = o.records in
        records (given o.setup (take (supply_length o.setup) (drop header_length t)))
        (read_records first (length t) (drop at t) at)
        (records_end first first_right (length t) (drop at t) at (omega (arith, length-drop at t)))

-- READING, THEN WRITING
with_ended : (g : Given) (r : Records) (c : Content) → with g r ≡ ended c → (P : Content → Type 0)
    → ((is : List Item) → r ≡ all is → P (content g is)) → P c
with_ended g (all is) c e P h = let q : content g is ≡ c = cc in subst P q (h is refl)
with_ended g (refused n) c e P h = absurd (let z : ◌≡◌ {A = ℕ} 0 1 = cc in let q : ⊥ = omega arith in q)

pub record Kept (t : List ℕ) (c : Content) : Type 0 where
  pub bytes : trace_bytes c ≡ t
  pub writable : Writable c

module _ (t : List ℕ) (b : Bytes t) where
  read_sizes : (s : Setup) → s ≡ setup_in (header_values t) → T (setup_in_range s)
  unfolding header_values
  read_sizes s e = subst (λ (x : Setup). T (setup_in_range x)) (sym e) (read_in_range (number (take header_length t)))

  header_kept : (o : Opened) → HeaderRead t o
      → header_of o.setup (take (supply_length o.setup) (drop header_length t)) ≡ take o.records t
  unfolding header_of
  header_kept o h =
      ap (λ (x : List ℕ). x ++ take (supply_length o.setup) (drop header_length t))
      (ap header_bytes h.setup ∙ header_of_values t h.long b h.spare)
      ∙ sym (take-add header_length (supply_length o.setup) t)
      ∙ ap (λ (x : ℕ). take x t) (sym h.start)

  kept_from : (c : Content) (h : Header) → header_at t ≡ h → read_from t h ≡ ended c → Kept t c
  unfolding trace_bytes
  kept_from c (Err r) eh e = absurd (cc)
  kept_from c (Ok o) eh e =
      let s : Setup = o.setup in
      let at : ℕ = o.records in
      let hr = opened o t eh in
      let supply : List ℕ = take (supply_length s) (drop header_length t) in
      with_ended (given s supply) (read_records first (length t) (drop at t) at) c e (Kept t)
      (λ is g.
      let held = records_held first first_right (length t) (drop at t) at is g (bytes_drop at t b) in
      record {
        bytes = ap₂ (λ (x y : List ℕ). x ++ y) (header_kept o hr) held.bytes ∙ take-append-drop at t;
        writable =
            record {
              sizes = read_sizes s hr.setup;
              signatures =
                  length-take (supply_length s) (drop header_length t)
                  ∙ omega (arith, length-drop header_length t, hr.start, hr.whole);
              records = held.fit;
            };
      })

  pub trace_kept : (c : Content) → read_trace t ≡ ended c → Kept t c
  unfolding read_trace
  trace_kept c e = kept_from c (header_at t) refl e

-- writing what can be written, where there is room
module _ (c : Content) (out : List ℕ) where
  abbrev s : Setup
  s = c.given.setup

  abbrev supply : List ℕ
  supply = c.given.supply

  header_front : header_refusal s supply (length out) ≡ 0 → write_header s supply out ≡ front out (header_of s supply)
  unfolding write_header written
  header_front z = rw z

  header_not_refused : Writable c → header_length + length supply ≤ length out → header_refusal s supply (length out) ≡ 0
  unfolding header_refusal first_of check all_of supply_right
  header_not_refused w h =
      simp (
        passes (setup_in_range s) w.sizes,
        eq-eqb (length supply) (supply_length s) w.signatures,
        le-ltb (length out) (header_length + length supply) h,
      )

  pub trace_written : Writable c → length (trace_bytes c) ≤ length out → write_trace c out ≡ front out (trace_bytes c)
  unfolding write_trace trace_bytes
  trace_written w h =
      let len = length_trace c in
      let z = header_not_refused w (omega (arith, len)) in
      ap (write_records first c.items) (header_front z)
      ∙ write_all first first_right c.items out (header_of s supply) w.records (omega (arith, len, length_header_of s supply))

  -- and where writing succeeds, it could be written, and there was room
  header_refused : (header_refusal s supply (length out) ≡ 0 → ⊥)
      → (write_header s supply out).number ≡ header_refusal s supply (length out)
  unfolding write_header written
  header_refused ne = rw (ne_eqb (header_refusal s supply (length out)) 0 ne)

  fits_by : (b : Bool) → eqb (header_refusal s supply (length out)) 0 ≡ b → (write_trace c out).number ≡ 0
      → Writable c × (length (trace_bytes c) ≤ length out)
  unfolding write_trace
  fits_by true t z =
      let none = eqb-true (header_refusal s supply (length out)) 0 t in
      let ready = header_ready s supply (length out) none in
      let long = length_header_of s supply in
      let r = all_fit first first_right c.items out (header_of s supply) (omega (arith, ready.enough, long))
      (sym (ap (λ (x : Written). (write_records first c.items x).number) (header_front none)) ∙ z) in (
        record { sizes = ready.sizes; signatures = ready.signatures; records = r.0 },
        omega (arith, r.1, length_trace c, long),
      )
  fits_by false t z =
      let ne = eqb-false (header_refusal s supply (length out)) 0 t in
      let w : Written = write_header s supply out in
      let n = header_refused ne in
      absurd (ne (sym n ∙ sym (ap (λ (x : Written). x.number) (stays first first_right c.items w (λ y. ne (sym n ∙ y)))) ∙ z))

  pub trace_fits : (write_trace c out).number ≡ 0 → Writable c × (length (trace_bytes c) ≤ length out)
  trace_fits z = fits_by (eqb (header_refusal s supply (length out)) 0) refl z

-- the front of an output that was written
taken : (out bytes : List ℕ) → length bytes ≤ length out → take (length bytes) (overlay 0 bytes out) ≡ bytes
taken out bytes h = ap (take (length bytes)) (overlay_front bytes out h) ∙ take_at bytes _ (length bytes) refl

-- the bytes of a trace, read
module _ (c : Content) (w : Writable c) where
  abbrev setup : Setup
  setup = c.given.setup

  abbrev signatures : List ℕ
  signatures = c.given.supply

  abbrev bytes : List ℕ
  bytes = trace_bytes c

  range : Limited setup
  range = limited setup w.sizes

  parted : bytes ≡ header_bytes setup ++ (signatures ++ items_bytes first c.items)
  unfolding trace_bytes header_of
  parted = append_assoc (header_bytes setup) signatures (items_bytes first c.items)

  begins : take header_length bytes ≡ header_bytes setup
  begins = ap (take header_length) parted ∙ take_at (header_bytes setup) _ header_length (length_header setup)

  behind_header : drop header_length bytes ≡ signatures ++ items_bytes first c.items
  behind_header = ap (drop header_length) parted ∙ drop_at (header_bytes setup) _ header_length (length_header setup)

  values_same : header_values bytes ≡ setup_values setup
  values_same = values_of_header setup range bytes begins

  sizes_back : sizes_of setup ≡ sizes_at bytes
  unfolding header_values
  sizes_back =
      sizes_read bytes (number (take header_length bytes)) (omega (arith, length_trace c)) refl
      (spare_in (header_values bytes)) setup refl (ap spare_in values_same)
      (sym (ap setup_in values_same ∙ setup_back setup range))

  header_back : header_at bytes ≡ sizes_of setup
  header_back =
      header_whole bytes (opened_at setup (records_from setup)) (sym sizes_back) (omega (arith, length_trace c, w.signatures))

  supply_back : take (supply_length setup) (drop header_length bytes) ≡ signatures
  supply_back = ap (take (supply_length setup)) behind_header ∙ take_at signatures _ (supply_length setup) w.signatures

  records_back : drop (records_from setup) bytes ≡ items_bytes first c.items
  unfolding trace_bytes
  records_back =
      drop_at (header_of setup signatures) (items_bytes first c.items) (records_from setup)
      (length_header_of setup signatures ∙ ap (λ (x : ℕ). header_length + x) w.signatures)

  pub trace_back : length bytes < 2 ^ 64 → read_trace bytes ≡ ended c
  unfolding read_trace
  trace_back near =
      let at : ℕ = records_from setup in
      let long = length_trace c in
      ap (read_from bytes) header_back
      ∙ ap₂ (λ (x y : List ℕ). with (given setup x) (read_records first (length bytes) y at)) supply_back records_back
      ∙ ap (with (given setup signatures))
      (all_back first first_right c.items (length bytes) at w.records (omega (arith, long)) (omega (arith, long, w.signatures)))

-- both ways
pub written_again : (t : List ℕ) (c : Content) (out : List ℕ) → Bytes t → read_trace t ≡ ended c → length t ≤ length out
    → write_trace c out ≡ done t out
written_again t c out b e h =
    let k = trace_kept t b c e in
    trace_written c out k.writable (subst (λ (x : List ℕ). length x ≤ length out) (sym k.bytes) h)
    ∙ ap (front out) k.bytes

pub read_again : (c : Content) (out : List ℕ) → length out < 2 ^ 64 → (write_trace c out).number ≡ 0
    → read_trace (take (write_trace c out).count (write_trace c out).out) ≡ ended c
read_again c out h z =
    let fit = trace_fits c out z in
    let is : write_trace c out ≡ front out (trace_bytes c) = trace_written c out fit.0 fit.1 in
    ap (λ (x : Written). read_trace (take x.count x.out)) is
    ∙ ap read_trace (taken out (trace_bytes c) fit.1)
    ∙ trace_back c fit.0 (lt_of_le_of_lt fit.1 h)
