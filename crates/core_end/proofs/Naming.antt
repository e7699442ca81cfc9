-- A frame names a page of domain d where one more than the page's number among all lies in d's row.
use Rattle.std.specs.Prelude.{Option, Some, None}
use mathlib.Core.Path.{◌≡◌, refl, sym, ◌∙◌}
use mathlib.Core.Bool.{true, false}
use Prim.Native.Nat.{ℕ, ◌+◌, ◌*◌, ◌≤◌, ◌<◌}
use native.Mathlib.Nat.{mul-le-mul_right}
use native.Mathlib.Decide.{dec_lt}
use native.Mathlib.Omega.{arith}
use borrow.Author.Tests.{eq-eqb, ne_eqb}
use Rattle.std.proofs.Math.Dec.{leb}
use Rattle.std.proofs.lemmas.Bool.{le-leb, lt-leb}
use Rattle.rules.specs.Records.{names_in}
use Rattle.rules.specs.declared.Gvpn.{Gvpn}
use Rattle.rules.specs.declared.Asid.{Asid}
use Rattle.core_tables.specs.Words.{names_word, NamesFit}

-- a number of row e is before row d, or past it
before_row : (v d e p : ℕ) → p < v → e < d → e * v + p < d * v
before_row v d e p h l = omega (arith, mul-le-mul_right v l)

module _ (v w : ℕ) (d : Asid) where
  -- before the row, or 0
  pub names_below : (n : Option (Asid × Gvpn)) → NamesFit v n → w ≡ names_word v n → w ≤ d.0 * v → false ≡ names_in d n
  unfolding NamesFit names_word
  names_below None fit e low = refl
  names_below (Some (a, p)) fit e low =
      sym (ne_eqb a.0 d.0 (λ q. let same : a.0 * v ≡ d.0 * v = rw q in omega arith))

  -- past the row
  pub names_past : (n : Option (Asid × Gvpn)) → NamesFit v n → w ≡ names_word v n → d.0 * v + v < w → false ≡ names_in d n
  unfolding NamesFit names_word
  names_past None fit e high = refl
  names_past (Some (a, p)) fit e high =
      sym (ne_eqb a.0 d.0 (λ q. let same : a.0 * v ≡ d.0 * v = rw q in omega arith))

  -- within it
  pub names_within : (n : Option (Asid × Gvpn)) → NamesFit v n → w ≡ names_word v n → d.0 * v < w → w ≤ d.0 * v + v → true ≡ names_in d n
  unfolding NamesFit names_word
  names_within None fit e low high = absurd (omega arith)
  names_within (Some (a, p)) fit e low high = sym (eq-eqb a.0 d.0 (at (dec_lt a.0 d.0) (dec_lt d.0 a.0)))
    where
      at : Dec (a.0 < d.0) → Dec (d.0 < a.0) → a.0 ≡ d.0
      at (yes l) q = absurd (omega (arith, before_row v d.0 a.0 p.0 fit l))
      at (no l) (yes g) = absurd (omega (arith, before_row v a.0 d.0 0 (omega arith) g, mul-le-mul_right v g))
      at (no l) (no g) = omega arith

  -- after the row's start, by the test of its end
  pub names_to_end : (n : Option (Asid × Gvpn)) → NamesFit v n → w ≡ names_word v n → d.0 * v < w → leb w (d.0 * v + v) ≡ names_in d n
  names_to_end n fit e low = at (dec_lt (d.0 * v + v) w)
    where
      at : Dec (d.0 * v + v < w) → leb w (d.0 * v + v) ≡ names_in d n
      at (yes high) = lt-leb w (d.0 * v + v) high ∙ names_past n fit e high
      at (no few) = le-leb w (d.0 * v + v) (omega arith) ∙ names_within n fit e low (omega arith)
