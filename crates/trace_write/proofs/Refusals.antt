-- What is known where the writer's checks refuse nothing, and that a number beyond its field comes first.
use mathlib.Core.Path.{◌≡◌}
use mathlib.Core.Bool.{Bool, false, not}
use mathlib.Core.List.{List, [], ◌∷◌}
use Prim.Native.Nat.{ℕ, ◌+◌, ◌^◌, ◌≤◌, ◌<◌}
use native.Mathlib.Omega.{arith}
use lib.Dec.{T, eqb, leb, ltb, ltb→lt, leb→le, eqb→eq}
use lib.ListN.{length}
use borrow.Author.Tests.{ltb-false, not-false}
use Rattle.rules.specs.Bytes.{all_of}
use Rattle.rules.specs.Sizes.{setup_in_range, supply_right}
use Rattle.rules.specs.Answers.{check, first_of}
use Rattle.rules.proofs.Facts.{each, passed}
use Rattle.rules.specs.declared.Setup.{Setup}
use Rattle.rules.specs.declared.Span.{Span}
use Rattle.trace_form.specs.Header.{header_length, supply_length}
use Rattle.trace_form.specs.declared.Widths.{Widths}
use Rattle.trace_form.specs.declared.Head.{Head}
use Rattle.trace_form.specs.declared.Fields.{Fields}
use Rattle.rules.proofs.Checks.{first_passed}
use Rattle.trace_write.specs.Writing.{header_refusal, numbers_fit, span_fits, max_off, max_len, refusal_of}

-- what holds of a header that is not refused
pub record HeaderReady (s : Setup) (supply : List ℕ) (room : ℕ) : Type 0 where
  pub sizes : T (setup_in_range s)
  pub signatures : length supply ≡ supply_length s
  pub enough : header_length + length supply ≤ room

pub header_ready : (s : Setup) (supply : List ℕ) (room : ℕ) → header_refusal s supply room ≡ 0 → HeaderReady s supply room
unfolding header_refusal supply_right
header_ready s supply room e =
    let tests : List Bool = setup_in_range s ∷ supply_right s supply ∷ [] in
    let short : Bool = ltb room (header_length + length supply) in
    let a = first_passed 10 (not (all_of tests)) (check 11 short ∷ []) e (λ z. omega (arith, z)) in
    let b = first_passed 11 short [] a.1 (λ z. omega (arith, z)) in
    let p = each tests (passed (all_of tests) (not-false (all_of tests) a.0)) in
    record {
      sizes = p.0;
      signatures = eqb→eq (length supply) (supply_length s) p.1.0;
      enough = ltb-false room (header_length + length supply) b.0;
    }

-- a record with a number that its field cannot hold is refused with 2, whatever else is wrong with it
module _ (h : Head) (v : Fields) (want n room : ℕ) where
  pub record_numbers : numbers_fit h.widths v ≡ false → 2 ≡ refusal_of h v want n room
  unfolding refusal_of first_of check
  record_numbers out = simp out

-- what holds of a record that is not refused
pub record RecordReady (h : Head) (v : Fields) (want n room : ℕ) : Type 0 where
  pub one : v.first < 2 ^ h.widths.first
  pub two : v.second < 2 ^ h.widths.second
  pub three : v.third < 2 ^ h.widths.third
  pub some : 1 ≤ v.span.len
  pub len : v.span.len ≤ max_len
  pub off : v.span.off ≤ max_off
  pub data_length_holds : n ≡ want
  pub enough : h.bytes + n ≤ room

pub record_ready : (h : Head) (v : Fields) (want n room : ℕ) → refusal_of h v want n room ≡ 0 → RecordReady h v want n room
unfolding refusal_of numbers_fit span_fits
record_ready h v want n room e =
    let w : Widths = h.widths in
    let x : Span = v.span in
    let nums : List Bool = ltb v.first (2 ^ w.first) ∷ ltb v.second (2 ^ w.second) ∷ ltb v.third (2 ^ w.third) ∷ [] in
    let spans : List Bool = ltb 0 x.len ∷ leb x.len max_len ∷ leb x.off max_off ∷ [] in
    let lens : List Bool = span_fits x ∷ eqb n want ∷ [] in
    let short : Bool = ltb room (h.bytes + n) in
    let a = first_passed 2 (not (numbers_fit w v)) (check 3 (not (all_of lens)) ∷ check 11 short ∷ []) e (λ z. omega (arith, z)) in
    let b = first_passed 3 (not (all_of lens)) (check 11 short ∷ []) a.1 (λ z. omega (arith, z)) in
    let c = first_passed 11 short [] b.1 (λ z. omega (arith, z)) in
    let p = each nums (passed (all_of nums) (not-false (all_of nums) a.0)) in
    let q = each lens (passed (all_of lens) (not-false (all_of lens) b.0)) in
    let y = each spans q.0 in
    record {
      one = ltb→lt v.first (2 ^ w.first) p.0;
      two = ltb→lt v.second (2 ^ w.second) p.1.0;
      three = ltb→lt v.third (2 ^ w.third) p.1.1.0;
      some = ltb→lt 0 x.len y.0;
      len = leb→le x.len max_len y.1.0;
      off = leb→le x.off max_off y.1.1.0;
      data_length_holds = eqb→eq n want q.1.0;
      enough = ltb-false room (h.bytes + n) c.0;
    }
