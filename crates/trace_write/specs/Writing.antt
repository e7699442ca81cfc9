-- Document 01, "The trace form" and "What is answered": the bytes of a header and of a record, and what writing them gives,
-- with the checks in their order.
use Rattle.std.specs.Prelude.{List, [], ◌∷◌, ◌++◌, Bool, not, cond, Result, Ok, Err, ℕ, ◌+◌, ◌^◌, length, eqb, leb, ltb}
use Rattle.rules.specs.Bytes.{overlay, all_of}
use Rattle.rules.specs.Sizes.{setup_in_range, supply_right}
use Rattle.rules.specs.Events.{kind_of, data_length}
use Rattle.rules.specs.Answers.{check, first_of}
use Rattle.rules.specs.Refusals.{number_in}
use Rattle.rules.specs.declared.Refusal.{Refusal}
use Rattle.rules.specs.declared.Setup.{Setup}
use Rattle.rules.specs.declared.Span.{Span}
use Rattle.rules.specs.declared.Event.{Event}
use Rattle.trace_form.specs.Form.{head_of, head_bytes, fields_of}
use Rattle.trace_form.specs.Header.{header_length, header_of}
use Rattle.trace_form.specs.declared.Form.{Form}
use Rattle.trace_form.specs.declared.Widths.{Widths}
use Rattle.trace_form.specs.declared.Head.{Head}
use Rattle.trace_form.specs.declared.Fields.{Fields}

-- what writing leaves: the number, the count of bytes written, and the output
pub record Written : Type 0 where
  pub number : ℕ
  pub count : ℕ
  pub out : List ℕ

-- how many bytes were written: none where writing is refused
abbrev pub count_in : Result ℕ Refusal → ℕ
count_in (Ok n) = n
count_in (Err r) = 0

abbrev pub left : Result ℕ Refusal → List ℕ → Written
left r out = record { number = number_in r; count = count_in r; out = out }

-- done: the bytes over the output's front; refused: none, and the output as it was
abbrev pub done : List ℕ → List ℕ → Written
done bytes out = record { number = 0; count = length bytes; out = overlay 0 bytes out }

abbrev pub refused : ℕ → List ℕ → Written
refused n out = record { number = n; count = 0; out = out }

unfoldable pub written : ℕ → List ℕ → List ℕ → Written
written n bytes out = cond (eqb n 0) (done bytes out) (refused n out)

-- a header with its signatures: 10 for a setup out of range or a supply of a wrong length, then 11
unfoldable pub header_refusal : Setup → List ℕ → ℕ → ℕ
header_refusal s supply room =
    first_of
    (check 10 (not (all_of (setup_in_range s ∷ supply_right s supply ∷ [])))
    ∷ check 11 (ltb room (header_length + length supply))
    ∷ [])

unfoldable pub write_header : Setup → List ℕ → List ℕ → Written
write_header s supply out = written (header_refusal s supply (length out)) (header_of s supply) out

-- a record: kind, fields, zero bits to a whole byte, then its data
unfoldable pub record_bytes : Form → Event → List ℕ → List ℕ
record_bytes f e new = head_bytes (head_of f (kind_of e)) (kind_of e) (fields_of e) ++ new

-- its numbers fit their fields, and so does its span
unfoldable pub numbers_fit : Widths → Fields → Bool
numbers_fit w v =
    all_of (ltb v.first (2 ^ w.first) ∷ ltb v.second (2 ^ w.second) ∷ ltb v.third (2 ^ w.third) ∷ [])

abbrev pub max_off : ℕ
max_off = 4095

abbrev pub max_len : ℕ
max_len = 4096

unfoldable pub span_fits : Span → Bool
span_fits x = all_of (ltb 0 x.len ∷ leb x.len max_len ∷ leb x.off max_off ∷ [])

-- 2 for a number beyond its field; 3 for a span that cannot be written, or data of another length than want; then 11
unfoldable pub refusal_of : Head → Fields → ℕ → ℕ → ℕ → ℕ
refusal_of h v want n room =
    first_of
    (check 2 (not (numbers_fit h.widths v))
    ∷ check 3 (not (all_of (span_fits v.span ∷ eqb n want ∷ [])))
    ∷ check 11 (ltb room (h.bytes + n))
    ∷ [])

unfoldable pub record_refusal : Form → Event → List ℕ → ℕ → ℕ
record_refusal f e new room = refusal_of (head_of f (kind_of e)) (fields_of e) (data_length e) (length new) room

unfoldable pub write_record : Form → Event → List ℕ → List ℕ → Written
write_record f e new out = written (record_refusal f e new (length out)) (record_bytes f e new) out
