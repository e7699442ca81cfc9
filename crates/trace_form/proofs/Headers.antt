-- The header's 48 bits: packing a setup within its limits and taking it out again undo each other, by the laws of packing.
use mathlib.Core.Path.{◌≡◌, refl, sym, ap, ◌∙◌}
use mathlib.Core.List.{List, [], ◌∷◌}
use Prim.Native.Nat.{ℕ, ◌+◌, ◌-◌, ◌*◌, ◌/◌, ◌%◌, ◌^◌, ◌≤◌, ◌<◌}
use native.Mathlib.Nat.{mul-le-mul}
use native.Mathlib.Omega.{arith}
use borrow.Author.Tests.{le-leb, eq-eqb}
use lib.Dec.{T, lit<}
use lib.ListN.{length, take, get_or}
use lib.Seq.{length-take-le}
use Rattle.trace_bits.specs.Packing.{join, split, Fit}
use Rattle.trace_bits.specs.Packing.Fit.{fit_none, fit_one}
use Rattle.trace_bits.proofs.Bytes.{unpacked, repacked}
use Rattle.rules.specs.Bytes.{Bytes, big_endian, number}
use Rattle.rules.specs.Sizes.{between, setup_in_range, size_unit, min_size, max_size, max_domains, max_pages, max_contexts, max_frames}
use Rattle.rules.specs.Sizes.{max_signatures}
use Rattle.rules.proofs.BigEndian.{length_big_endian, bytes_take}
use Rattle.rules.proofs.Facts.{all, passed}
use Rattle.rules.specs.declared.Setup.{Setup}
use Rattle.rules.specs.Asked.{Limited}
use Rattle.trace_form.specs.Form.{domain_bits, page_bits, context_bits, frame_bits}
use Rattle.trace_form.proofs.Table.{◌▹◌}
use Rattle.trace_form.specs.Header.{size_bits, signature_bits, header_widths, header_length, setup_values, setup_in, spare_in}
use Rattle.trace_form.specs.Header.{supply_length, header_bytes, header_values}

pub length_header : (s : Setup) → length (header_bytes s) ≡ header_length
unfolding header_bytes
length_header s = length_big_endian header_length (join 0 header_widths (setup_values s))

module _ (s : Setup) (r : Limited s) where
  -- The one place where the form's room for contexts meets the rules' limit: as many as the rules allow have a number in
  -- the form's bits.
  pub contexts_fit : s.contexts - 1 < 2 ^ context_bits
  contexts_fit = omega arith

  pub fit_setup : Fit header_widths (setup_values s)
  fit_setup =
      let p : s.size / size_unit - 1 < 2 ^ size_bits = omega arith in
      let d : s.domains - 1 < 2 ^ domain_bits = omega arith in
      let v : s.pages - 1 < 2 ^ page_bits = omega arith in
      let f : s.frames - 1 < 2 ^ frame_bits = omega arith in
      let n : s.signatures < 2 ^ signature_bits = omega arith in
      fit_one p (fit_one d (fit_one v (fit_one contexts_fit (fit_one f (fit_one n (fit_one (lit< tt) fit_none))))))

  pub setup_back : setup_in (setup_values s) ≡ s
  setup_back =
      let p : (s.size / size_unit - 1 + 1) * size_unit ≡ s.size = omega arith in
      let d : s.domains - 1 + 1 ≡ s.domains = omega arith in
      let v : s.pages - 1 + 1 ≡ s.pages = omega arith in
      let c : s.contexts - 1 + 1 ≡ s.contexts = omega arith in
      let f : s.frames - 1 + 1 ≡ s.frames = omega arith in
      λ i. record { size = p i; domains = d i; pages = v i; contexts = c i; frames = f i; signatures = s.signatures }

  -- bytes that begin with a header
  pub values_of_header : (t : List ℕ) → take header_length t ≡ header_bytes s → header_values t ≡ setup_values s
  unfolding header_bytes header_values
  values_of_header t e =
      ap (λ (x : List ℕ). split header_widths (number x)) e ∙ unpacked header_widths header_length refl fit_setup

-- its signatures' bytes can be counted
pub supply_counts : (s : Setup) → Limited s → supply_length s ≤ max_signatures * max_size
supply_counts s r = mul-le-mul r.signatures r.size

-- what is read is within the limits
between_in : (low high n : ℕ) → low ≤ n → n ≤ high → T (between low high n)
unfolding between
between_in low high n h g = all _ (passed _ (le-leb low n h), (passed _ (le-leb n high g), tt))

module _ (n : ℕ) where
  abbrev read : Setup
  read = setup_in (split header_widths n)

  pub read_in_range : T (setup_in_range read)
  unfolding setup_in_range
  read_in_range =
      all _
      (between_in min_size max_size read.size (omega arith) (omega arith)
      ▹ passed _ (eq-eqb (read.size % size_unit) 0 (omega arith))
      ▹ between_in 1 max_domains read.domains (omega arith) (omega arith)
      ▹ between_in 1 max_pages read.pages (omega arith) (omega arith)
      ▹ between_in 1 max_contexts read.contexts (omega arith) (omega arith)
      ▹ between_in 1 max_frames read.frames (omega arith) (omega arith)
      ▹ passed _ (le-leb read.signatures max_signatures (omega arith))
      ▹ tt)

-- packing what was read, where its spare bits are zero, gives the bytes
values_back : (a b c d e f : ℕ)
    → setup_values (setup_in (a ∷ b ∷ c ∷ d ∷ e ∷ f ∷ 0 ∷ [])) ≡ a ∷ b ∷ c ∷ d ∷ e ∷ f ∷ 0 ∷ []
values_back a b c d e f =
    let p : (a + 1) * size_unit / size_unit - 1 ≡ a = omega arith in
    λ i. p i ∷ less b i ∷ less c i ∷ less d i ∷ less e i ∷ f ∷ 0 ∷ []
  where
    less : (x : ℕ) → x + 1 - 1 ≡ x
    less x = omega arith

pub header_of_values : (t : List ℕ) → header_length ≤ length t → Bytes t → spare_in (header_values t) ≡ 0
    → header_bytes (setup_in (header_values t)) ≡ take header_length t
unfolding header_bytes header_values
header_of_values t h b e =
    let v : ℕ → ℕ = λ i. get_or (header_values t) i 0 in
    let zero-spare : header_values t ≡ v 0 ∷ v 1 ∷ v 2 ∷ v 3 ∷ v 4 ∷ v 5 ∷ 0 ∷ [] =
    λ i. v 0 ∷ v 1 ∷ v 2 ∷ v 3 ∷ v 4 ∷ v 5 ∷ e i ∷ [] in
    let same : setup_values (setup_in (header_values t)) ≡ header_values t =
    values_back (v 0) (v 1) (v 2) (v 3) (v 4) (v 5) ∙ sym zero-spare in
    ap (λ (x : List ℕ). big_endian header_length (join 0 header_widths x)) same
    ∙ repacked header_widths header_length refl (take header_length t) (length-take-le header_length t h)
    (bytes_take header_length t b)
