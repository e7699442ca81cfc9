-- Heads in every right form: their sizes; that packing a head and taking it apart undo each other, by the laws of packing;
-- and that the kind stands in the first byte.
use mathlib.Core.Path.{◌≡◌, sym, ap, subst, ◌∙◌}
use mathlib.Core.List.{List, [], ◌∷◌}
use Prim.Native.Nat.{ℕ, zero, suc, ◌+◌, ◌-◌, ◌*◌, ◌/◌, ◌^◌, ◌≤◌, ◌<◌}
use native.Mathlib.Nat.{le_of_eq, mod-lt}
use native.Mathlib.Omega.{arith}
use lib.ListN.{length, take, get_or}
use lib.Pow.{pow_pos}
use lib.Seq.{take_all, length-take-le}
use Rattle.trace_bits.specs.Packing.{total, join, split, Fit}
use Rattle.trace_bits.specs.Packing.Fit.{fit_none, fit_one}
use Rattle.trace_bits.proofs.Bytes.{unpacked, repacked, first_field}
use Rattle.rules.specs.Bytes.{Bytes, big_endian, number}
use Rattle.rules.proofs.BigEndian.{length_big_endian, big_endian_bytes, bytes_take}
use Rattle.trace_form.specs.Form.{Right, used_bits, head_for, head_of, head_widths, widths_of, values, fields_in, padding_in}
use Rattle.trace_form.specs.Form.{head_bytes, values_at}
use Rattle.trace_form.specs.Bounds.{Small, Laid, Within}
use Rattle.trace_form.specs.declared.Form.{Form}
use Rattle.trace_form.specs.declared.Widths.{Widths}
use Rattle.trace_form.specs.declared.Head.{Head}
use Rattle.trace_form.specs.declared.Fields.{Fields}
use Rattle.trace_form.proofs.Table.{small}

pub used_at_holds : (f : Form) (k : ℕ) (w : Widths) → Right f → w ≡ widths_of f k → used_bits f.kind w ≤ 48
used_at_holds f k w r e =
    let s : Small w = subst (λ (x : Widths). Small x) (sym e) (small f k r) in
    let h : f.kind ≤ 8 = r.kind_bits_holds in
    omega arith

-- every head of a right form is laid
head_laid : (kind : ℕ) (w : Widths) → 1 ≤ kind → kind ≤ 8 → Small w → Laid (head_for kind w)
head_laid kind w some h s =
    record { small = s; kind = h; some = omega arith; few = omega arith; whole = omega arith }

pub kind_some : (f : Form) → Right f → 1 ≤ f.kind
kind_some f r = go f.kind r.room r.every
  where
    go : (n : ℕ) → f.kinds ≤ 2 ^ n → 14 ≤ f.kinds → 1 ≤ n
    go zero h g = absurd (let z : ⊥ = omega arith in z)
    go (suc n) h g = omega arith

pub laid : (f : Form) (k : ℕ) → Right f → Laid (head_of f k)
unfolding head_of
laid f k r = head_laid f.kind (widths_of f k) (kind_some f r) r.kind_bits_holds (small f k r)

pub laid_at : (f : Form) (k : ℕ) (h : Head) → Right f → h ≡ head_of f k → Laid h
laid_at f k h r e = subst (λ (x : Head). Laid x) (sym e) (laid f k r)

-- fields as values, and back
pub values_back : (k : ℕ) (v : Fields) → 1 ≤ v.span.len → fields_in (values k v) ≡ v
values_back k v h =
    let e : v.span.len - 1 + 1 ≡ v.span.len = omega arith in
    ap (λ (x : ℕ). record { first = v.first; second = v.second; third = v.third; span = record { off = v.span.off; len = x } }) e

module _ (h : Head) (l : Laid h) where
  total_head : total (head_widths h) ≡ 8 * h.bytes
  total_head = omega (arith, l.whole)

  -- the widths behind the kind's
  rest : List ℕ
  rest = h.widths.first ∷ h.widths.second ∷ h.widths.third ∷ h.widths.off ∷ h.widths.len ∷ h.padding ∷ []

  pub fit_values : (k : ℕ) (v : Fields) → k < 2 ^ h.kind → Within h.widths v → Fit (head_widths h) (values k v)
  fit_values k v hk w =
      fit_one hk
      (fit_one w.one
      (fit_one w.two
      (fit_one w.three (fit_one w.four (fit_one w.five (fit_one (pow_pos h.padding) fit_none))))))

  pub length_head : (k : ℕ) (v : Fields) → length (head_bytes h k v) ≡ h.bytes
  unfolding head_bytes
  length_head k v = length_big_endian h.bytes (join 0 (head_widths h) (values k v))

  -- bytes that begin with a packed head
  module _ (k : ℕ) (v : Fields) (hk : k < 2 ^ h.kind) (w : Within h.widths v) (s : List ℕ) where
    pub values_of_head : take h.bytes s ≡ head_bytes h k v → values_at h s ≡ values k v
    unfolding head_bytes values_at
    values_of_head e =
        ap (λ (x : List ℕ). split (head_widths h) (number x)) e
        ∙ unpacked (head_widths h) h.bytes total_head (fit_values k v hk w)

  kind_bits_holds : h.kind + total rest ≡ 8 * h.bytes
  unfolding rest
  kind_bits_holds = omega (arith, l.whole)

  -- the kind of any bytes is in the first
  pub kind_at : (s : List ℕ) → h.bytes ≤ length s → Bytes s → get_or (values_at h s) 0 0 ≡ get_or s 0 0 / 2 ^ (8 - h.kind)
  unfolding values_at rest
  kind_at s g b = first_field h.kind rest h.bytes s l.some g l.kind kind_bits_holds b

  pub kind_in_head : (k : ℕ) (v : Fields) → k < 2 ^ h.kind → Within h.widths v
      → k ≡ get_or (head_bytes h k v) 0 0 / 2 ^ (8 - h.kind)
  unfolding head_bytes
  kind_in_head k v hk w =
      let s : List ℕ = head_bytes h k v in
      let n : length s ≡ h.bytes = length_head k v in
      sym (ap (λ (x : List ℕ). get_or x 0 0) (values_of_head k v hk w s (take_all h.bytes s (le_of_eq n))))
      ∙ kind_at s (le_of_eq (sym n)) (big_endian_bytes h.bytes (join 0 (head_widths h) (values k v)))

  -- what is read fits
  pub read_within : (s : List ℕ) → Within h.widths (fields_in (values_at h s))
  unfolding values_at
  read_within s =
      record {
        one = mod-lt _ (pow_pos h.widths.first);
        two = mod-lt _ (pow_pos h.widths.second);
        three = mod-lt _ (pow_pos h.widths.third);
        four = mod-lt _ (pow_pos h.widths.off);
        five = less h.widths.len _ (mod-lt _ (pow_pos h.widths.len));
        some = omega arith;
      }
    where
      less : (w x : ℕ) → x < 2 ^ w → x + 1 - 1 < 2 ^ w
      less w x g = omega arith

  -- packing what was read, where it has zero bits for padding, gives the bytes
  read_values : (s : List ℕ) (k : ℕ) → k ≡ get_or (values_at h s) 0 0 → padding_in (values_at h s) ≡ 0
      → values k (fields_in (values_at h s)) ≡ values_at h s
  unfolding values_at
  read_values s k ek ep =
      let vs : List ℕ = values_at h s in
      let el : get_or vs 5 0 + 1 - 1 ≡ get_or vs 5 0 = omega arith in
      λ i. ek i ∷ get_or vs 1 0 ∷ get_or vs 2 0 ∷ get_or vs 3 0 ∷ get_or vs 4 0 ∷ el i ∷ sym ep i ∷ []

  pub head_of_values : (s : List ℕ) (k : ℕ) → h.bytes ≤ length s → Bytes s → k ≡ get_or s 0 0 / 2 ^ (8 - h.kind)
      → padding_in (values_at h s) ≡ 0
      → head_bytes h k (fields_in (values_at h s)) ≡ take h.bytes s
  unfolding head_bytes values_at
  head_of_values s k g b ek ep =
      ap (λ (x : List ℕ). big_endian h.bytes (join 0 (head_widths h) x)) (read_values s k (ek ∙ sym (kind_at s g b)) ep)
      ∙ repacked (head_widths h) h.bytes total_head (take h.bytes s) (length-take-le h.bytes s g)
      (bytes_take h.bytes s b)
