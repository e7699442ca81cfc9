-- Laws of lists that are filled, changed element by element, or partly replaced: their lengths, and what stands at a place.
use mathlib.Core.Path.{◌≡◌, refl, sym, ap, ◌∙◌}
use mathlib.Core.List.{List, [], ◌∷◌, ◌++◌}
use Prim.Native.Nat.{ℕ, zero, suc, ◌+◌, ◌-◌, ◌≤◌, ◌<◌}
use native.Mathlib.Nat.{zero-add, add-zero, suc-add, add-suc}
use native.Mathlib.Omega.{arith}
use lib.ListN.{length, get_or, take, drop, replicate, length-append, length-take, get_or-append}
use lib.Seq.{sets, sets-eq, get_or-append-add, get_or-take, get_or-drop, length-take-le}
use Rattle.rules.specs.Bytes.{map_from}

-- replicate
pub get_d_fresh : {A : Type 0} (n i : ℕ) (z : A) → get_or (replicate n z) i z ≡ z
get_d_fresh zero i z = refl
get_d_fresh (suc n) zero z = refl
get_d_fresh (suc n) (suc i) z = get_d_fresh n i z

-- map_from, where the default stays as it is
pub get_d_map_from : {A : Type 0} (f : ℕ → A → A) (z : A) → ((i : ℕ) → f i z ≡ z) → (l : List A) (i : ℕ)
    → get_or (map_from f 0 l) i z ≡ f i (get_or l i z)
unfolding map_from
get_d_map_from {A} f z same l i = rw zero-add at (go l 0 i)
  where
    go : (l : List A) (k i : ℕ) → get_or (map_from f k l) i z ≡ f (k + i) (get_or l i z)
    go [] k i = sym (same (k + i))
    go (x ∷ xs) k zero = rw add-zero
    go (x ∷ xs) k (suc i) = rw (add-suc, ← suc-add) (go xs (suc k) i)

pub length_map_from : {A : Type 0} (f : ℕ → A → A) (l : List A) (k : ℕ) → length (map_from f k l) ≡ length l
unfolding map_from
length_map_from f [] k = refl
length_map_from f (x ∷ xs) k = ap suc (length_map_from f xs (suc k))

-- sets
module _ {A : Type 0} (l new : List A) (at : ℕ) (z : A) (fits : at + length new ≤ length l) where
  pub get_d_sets_in : (k : ℕ) → k < length new → get_or (sets l at new) (at + k) z ≡ get_or new k z
  get_d_sets_in k h =
      rw (sets-eq new l at fits)
      (get_or-append (take at l ++ new) _ z (at + k) (rw (length-append, length-take) (omega arith))
      ∙ ap (λ (n : ℕ). get_or (take at l ++ new) (n + k) z) (sym (length-take-le at l (omega arith)))
      ∙ get_or-append-add (take at l) new k z)

  pub get_d_sets_before : (i : ℕ) → i < at → get_or (sets l at new) i z ≡ get_or l i z
  get_d_sets_before i h =
      rw (sets-eq new l at fits)
      (get_or-append (take at l ++ new) _ z i (rw (length-append, length-take) (omega arith))
      ∙ get_or-append (take at l) new z i (rw length-take (omega arith))
      ∙ get_or-take at l i z h)

  pub get_d_sets_past : (i : ℕ) → at + length new ≤ i → get_or (sets l at new) i z ≡ get_or l i z
  get_d_sets_past i h =
      let k : ℕ = i - (at + length new) in
      let e : i ≡ at + length new + k = omega arith in
      rw (sets-eq new l at fits, e)
      (ap (λ (n : ℕ). get_or ((take at l ++ new) ++ drop (at + length new) l) (n + k) z)
      (sym (length-append (take at l) new ∙ ap (λ (n : ℕ). n + length new) (length-take-le at l (omega arith))))
      ∙ get_or-append-add (take at l ++ new) (drop (at + length new) l) k z
      ∙ get_or-drop (at + length new) l k z)
