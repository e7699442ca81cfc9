-- Which case of `sizes_at` and `header_at` holds, by the tests that the code made; and what is known of a header that was read.
use mathlib.Core.Path.{◌≡◌, refl, sym, ap, subst, ◌∙◌}
use mathlib.Core.Bool.{Bool, true, false, cond}
use mathlib.Core.List.{List, [], ◌∷◌}
use Prim.Native.Nat.{ℕ, ◌-◌, ◌≤◌, ◌<◌}
use native.Mathlib.Omega.{arith}
use lib.ListN.{length, take, drop}
use lib.Dec.{leb, eqb, leb→le, eqb→eq}
use borrow.Author.Tests.{lt-leb, le-leb, eq-eqb, leb-true}
use Rattle.std.specs.Prelude.{Ok, Err}
use Rattle.trace_bits.specs.Packing.{split}
use Rattle.rules.specs.Bytes.{number, all_of}
use Rattle.rules.specs.declared.Setup.{Setup}
use Rattle.trace_form.specs.Header.{header_widths, header_length, setup_in, spare_in, supply_length, header_values}
use Rattle.rules.proofs.Facts.{each, passed}
use Rattle.trace_read.specs.declared.Opened.{Opened}
use Rattle.rules.specs.declared.Refusal.{Refusal}
use Rattle.rules.specs.declared.Refusal.TheVariants.{CutShort}
use Rattle.trace_read.specs.Reading.{Header, opened_at, sizes_whole, records_from, sizes_of, sizes_at, signed, header_at}
use Rattle.trace_read.specs.Reading.{supply_in, records_in}

module _ (trace : List ℕ) where
  -- n is the number that the header's bytes spell
  module _ (n : ℕ) (h : header_length ≤ length trace) (en : n ≡ number (take header_length trace)) where
    values : header_values trace ≡ split header_widths n
    unfolding header_values
    values = ap (split header_widths) (sym en)

    pub sizes_read : (x : ℕ) (s : Setup) → x ≡ spare_in (split header_widths n) → x ≡ 0 → s ≡ setup_in (split header_widths n)
        → sizes_of s ≡ sizes_at trace
    unfolding sizes_at sizes_whole all_of
    sizes_read x s ex z es =
        let clear : spare_in (header_values trace) ≡ 0 = ap spare_in values ∙ sym ex ∙ z in
        simp (le-leb header_length (length trace) h, eq-eqb (spare_in (header_values trace)) 0 clear)
        (ap sizes_of (es ∙ ap setup_in (sym values)))

-- whole
module _ (trace : List ℕ) (o : Opened) (er : sizes_at trace ≡ Ok o) where
  pub header_whole : o.records ≤ length trace → header_at trace ≡ Ok o
  unfolding header_at
  header_whole h =
      let is : signed (length trace) (Ok o) ≡ Ok o = simp (le-leb o.records (length trace) h) in
      ap (signed (length trace)) er ∙ is

-- cut short; r is what `read_sizes` found
module _ (trace : List ℕ) (r : Header) (er : r ≡ sizes_at trace) where
  -- a header whose signatures are cut short is refused
  pub header_cut : (o : Opened) → r ≡ Ok o → length trace < o.records → Err CutShort ≡ header_at trace
  unfolding header_at
  header_cut o e h =
      let cut : Err CutShort ≡ signed (length trace) (Ok o) = simp (lt-leb o.records (length trace) h) in
      cut ∙ ap (signed (length trace)) (sym e ∙ er)

-- what is known of a header that was read
pub record HeaderRead (trace : List ℕ) (o : Opened) : Type 0 where
  pub long : header_length ≤ length trace
  pub spare : spare_in (header_values trace) ≡ 0
  pub setup : o.setup ≡ setup_in (header_values trace)
  pub start : o.records ≡ records_from o.setup
  pub whole : o.records ≤ length trace

module _ (o : Opened) where
  -- a test passed, where the other case is no header
  taken : (b : Bool) (x : Header) → cond b x (Err CutShort) ≡ Ok o → (b ≡ true) × (x ≡ Ok o)
  taken true x h = (refl, h)
  taken false x h = absurd (cc)

  sizes_opened : (trace : List ℕ) → sizes_at trace ≡ Ok o → o.records ≤ length trace → HeaderRead trace o
  unfolding sizes_at sizes_whole
  sizes_opened trace e h =
      let s : Setup = setup_in (header_values trace) in
      let tests : List Bool = leb header_length (length trace) ∷ eqb (spare_in (header_values trace)) 0 ∷ [] in
      let read = taken (all_of tests) (sizes_of s) e in
      let p = each tests (passed (all_of tests) read.0) in
      let eo : opened_at s (records_from s) ≡ o = cc (read.1) in
      let es : s ≡ o.setup = ap (λ (x : Opened). x.setup) eo in
      record {
        long = leb→le header_length (length trace) p.0;
        spare = eqb→eq (spare_in (header_values trace)) 0 p.1.0;
        setup = sym es;
        start = sym (ap (λ (x : Opened). x.records) eo) ∙ ap records_from es;
        whole = h;
      }

  signed_opened : (trace : List ℕ) (h : Header) → sizes_at trace ≡ h → signed (length trace) h ≡ Ok o → HeaderRead trace o
  signed_opened trace (Err r) eh e = absurd (cc)
  signed_opened trace (Ok x) eh e =
      let read = taken (leb x.records (length trace)) (Ok x) e in
      let ex : x ≡ o = cc (read.1) in
      sizes_opened trace (eh ∙ read.1)
      (subst (λ (y : Opened). y.records ≤ length trace) ex (leb-true x.records (length trace) read.0))

  pub opened : (trace : List ℕ) → header_at trace ≡ Ok o → HeaderRead trace o
  unfolding header_at
  opened trace e = signed_opened trace (sizes_at trace) refl e

  pub records_start : (trace : List ℕ) → header_at trace ≡ Ok o → o.records ≡ records_from o.setup
  records_start trace e = (opened trace e).start

  pub starts_past : (trace : List ℕ) → header_at trace ≡ Ok o → header_length ≤ o.records
  starts_past trace e = omega (arith, records_start trace e)

-- the parts of a trace whose header was read, and of one whose header was not; r is what `read_header` found
module _ (trace : List ℕ) (r : Header) (er : r ≡ header_at trace) where
  module _ (o : Opened) (e : r ≡ Ok o) where
    -- what lies between the header's bytes and the place of the records is the supply
    pub supply_part : (bytes : List ℕ) → bytes ≡ take (o.records - header_length) (drop header_length trace)
        → bytes ≡ supply_in (header_at trace) trace
    supply_part bytes eb =
        let n : o.records - header_length ≡ supply_length o.setup = omega (arith, records_start o trace (sym er ∙ e)) in
        eb
        ∙ ap (λ (x : ℕ). take x (drop header_length trace)) n
        ∙ ap (λ (h : Header). supply_in h trace) (sym e ∙ er)

    -- what lies from that place on is the records
    pub records_part : (bytes : List ℕ) → bytes ≡ drop o.records trace → bytes ≡ records_in (header_at trace) trace
    records_part bytes eb = eb ∙ ap (λ (h : Header). records_in h trace) (sym e ∙ er)

  -- behind a refused header there is no supply
  pub no_supply : (n : Refusal) → r ≡ Err n → [] ≡ supply_in (header_at trace) trace
  no_supply n e = ap (λ (h : Header). supply_in h trace) (sym e ∙ er)

  -- and there are no records
  pub no_records : (n : Refusal) → r ≡ Err n → [] ≡ records_in (header_at trace) trace
  no_records n e = ap (λ (h : Header). records_in h trace) (sym e ∙ er)
