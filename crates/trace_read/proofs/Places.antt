-- Which case of `read_at` holds, by the tests that the code made; and what is known of a record that was read.
use mathlib.Core.Path.{◌≡◌, sym, ap, subst, ◌∙◌}
use mathlib.Core.Bool.{cond}
use mathlib.Core.List.{List}
use Prim.Native.Nat.{ℕ, ◌+◌, ◌-◌, ◌≤◌, ◌<◌, ◌^◌}
use native.Mathlib.Omega.{arith}
use lib.ListN.{length, take}
use borrow.Author.Tests.{lt-ltb, lt-leb, le-leb, eq-eqb, ne_eqb}
use Rattle.std.specs.Prelude.{None, Result, Ok, Err}
use Rattle.trace_bits.specs.Packing.{split}
use Rattle.rules.specs.Bytes.{number, all_of}
use Rattle.rules.specs.Events.{kinds, data_length}
use Rattle.rules.specs.declared.Event.{Event}
use Rattle.trace_form.specs.Form.{head_of, head_widths, values_at, fields_in, padding_in, event_of}
use Rattle.trace_form.specs.declared.Form.{Form}
use Rattle.trace_form.specs.declared.Head.{Head}
use Rattle.trace_form.specs.declared.Fields.{Fields}
use Rattle.rules.specs.declared.Refusal.{Refusal}
use Rattle.rules.specs.declared.Refusal.TheVariants.{NoEvent, CutShort}
use Rattle.trace_read.specs.Reading.{Found, kind_in, has_event, event_at, record_at, data_at, head_whole, record_of, found_of, read_at}
use Rattle.trace_read.specs.declared.Record.{Record}

-- a record's data
module _ (n place start : ℕ) (e : Event) (len : ℕ) (el : len ≡ data_length e) (h : start ≤ n) where
  -- a record whose data is cut short is refused
  pub data_short : n - start < len → Err CutShort ≡ data_at n place start e
  unfolding data_at
  data_short g = simp (lt-leb (start + data_length e) n (omega (arith, el)))

  pub data_whole : len ≤ n - start → Ok (record_at e start len (place + start + len)) ≡ data_at n place start e
  unfolding data_at
  data_whole g =
      simp (le-leb (start + data_length e) n (omega (arith, el)))
      (ap (λ (x : ℕ). Ok (record_at e start x (place + start + x))) el)

-- a record's head; h is the head that the code worked out, n the number that its bytes spell
module _ (f : Form) (unread : List ℕ) (place k : ℕ) (h : Head) (eh : h ≡ head_of f k) where
  module _ (g : h.bytes ≤ length unread) (n : ℕ) (en : n ≡ number (take h.bytes unread)) where
    long : (head_of f k).bytes ≤ length unread
    long = subst (λ (x : Head). x.bytes ≤ length unread) eh g

    values : split (head_widths h) n ≡ values_at (head_of f k) unread
    unfolding values_at
    values = ap (split (head_widths h)) en ∙ ap (λ (x : Head). values_at x unread) eh

    pub head_read : (x : ℕ) (v : Fields) (e : Event) (r : Result Record Refusal) → x ≡ padding_in (split (head_widths h) n) → x ≡ 0
        → v ≡ fields_in (split (head_widths h) n) → e ≡ event_of k v → r ≡ data_at (length unread) place h.bytes e
        → r ≡ record_of f k unread place
    unfolding record_of head_whole all_of event_at
    head_read x v e r ex z ev ee er =
        let clear : padding_in (values_at (head_of f k) unread) ≡ 0 = ap padding_in (sym values) ∙ sym ex ∙ z in
        simp (
          le-leb (head_of f k).bytes (length unread) long,
          eq-eqb (padding_in (values_at (head_of f k) unread)) 0 clear,
        )
        (er
        ∙ ap (λ (y : Head). data_at (length unread) place y.bytes e) eh
        ∙ ap (data_at (length unread) place (head_of f k).bytes) (ee ∙ ap (event_of k) (ev ∙ ap fields_in values)))

-- what stands at a place
module _ (f : Form) (unread : List ℕ) (place : ℕ) where
  module _ (near : place + length unread < 2 ^ 64) where
    pub read_end : length unread ≡ 0 → Ok None ≡ read_at f unread place
    unfolding read_at
    read_end z = simp (lt-leb (2 ^ 64) (place + length unread) near, eq-eqb (length unread) 0 z)

    module _ (some : length unread ≡ 0 → ⊥) (k : ℕ) (ek : k ≡ kind_in f unread) where
      read_kind : (r : Found) → r ≡ cond (has_event f k) (found_of (record_of f k unread place)) (Err NoEvent) → r ≡ read_at f unread place
      unfolding read_at
      read_kind r er =
          simp (lt-leb (2 ^ 64) (place + length unread) near, ne_eqb (length unread) 0 some)
          (er ∙ ap (λ (x : ℕ). cond (has_event f x) (found_of (record_of f x unread place)) (Err NoEvent)) ek)

      pub read_record : (r : Found) → k < f.kinds → k < kinds → r ≡ found_of (record_of f k unread place) → r ≡ read_at f unread place
      unfolding has_event all_of
      read_record r h g er = read_kind r (simp (lt-ltb k f.kinds h, lt-ltb k kinds g) er)
