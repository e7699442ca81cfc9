-- Laws of `same_bytes` for loops that gather differences: bytes are the same where no bit of any differs, and where each
-- block of them is.
use mathlib.Core.Path.{◌≡◌, refl, sym, ap, ap₂, ◌∙◌}
use mathlib.Core.Bool.{Bool, true, false, ◌&&◌, and-false, and_assoc}
use mathlib.Core.List.{List, [], ◌∷◌, ◌++◌}
use Rattle.std.specs.Simd.{first_chunks}
use Prim.Native.Nat.{ℕ, zero, suc, ◌+◌, ◌*◌}
use native.Mathlib.Nat.{zero-mul}
use native.Mathlib.Omega.{arith}
use lib.ListN.{length, take, drop, take-append-drop, length-take}
use lib.Seq.{drop-drop}
use lib.Dec.{eqb}
use lib.Bits.{bit_or, bit_xor, xor_self, or_add_and, xor_add_and, and_le_l, and_le_r}
use borrow.Author.Tests.{eq-eqb, ne_eqb, eqb-true, eqb-false}
use Rattle.rules.specs.Bytes.{same_bytes}

-- a number is 0 where each of its bits is, and the bits of x ^ y are those that differ
pub or_none : (x y : ℕ) → eqb (bit_or x y) 0 ≡ eqb x 0 && eqb y 0
or_none x y = at (eqb x 0) refl (eqb y 0) refl
  where
    at : (a : Bool) → eqb x 0 ≡ a → (b : Bool) → eqb y 0 ≡ b → eqb (bit_or x y) 0 ≡ a && b
    at true p true q = eq-eqb (bit_or x y) 0 (omega (arith, eqb-true x 0 p, eqb-true y 0 q, or_add_and x y))
    at true p false q =
        ne_eqb (bit_or x y) 0 (λ z. eqb-false y 0 q (omega (arith, or_add_and x y, and_le_l x y, and_le_r x y)))
    at false p b q =
        ne_eqb (bit_or x y) 0 (λ z. eqb-false x 0 p (omega (arith, or_add_and x y, and_le_l x y, and_le_r x y)))

pub xor_none : (x y : ℕ) → eqb (bit_xor x y) 0 ≡ eqb x y
xor_none x y = at (eqb x y) refl
  where
    at : (b : Bool) → eqb x y ≡ b → eqb (bit_xor x y) 0 ≡ b
    at true p = eq-eqb (bit_xor x y) 0 (rw (eqb-true x y p) (xor_self y))
    at false p =
        ne_eqb (bit_xor x y) 0 (λ z. eqb-false x y p (omega (arith, xor_add_and x y, and_le_l x y, and_le_r x y)))

-- of different lengths
pub same_length : (a b : List ℕ) → (length a ≡ length b → ⊥) → same_bytes a b ≡ false
unfolding same_bytes
same_length [] [] h = absurd (h refl)
same_length [] (y ∷ ys) h = refl
same_length (x ∷ xs) [] h = refl
same_length (x ∷ xs) (y ∷ ys) h =
    ap (λ (b : Bool). eqb x y && b) (same_length xs ys (λ e. h (ap suc e))) ∙ and-false (eqb x y)

-- of bytes with others behind them
same_append : (a b s t : List ℕ) → length a ≡ length b → same_bytes (a ++ s) (b ++ t) ≡ same_bytes a b && same_bytes s t
unfolding same_bytes
same_append [] [] s t e = refl
same_append [] (y ∷ ys) s t e = let never : ⊥ = omega arith in absurd never
same_append (x ∷ xs) [] s t e = let never : ⊥ = omega arith in absurd never
same_append (x ∷ xs) (y ∷ ys) s t e =
    ap (λ (b : Bool). eqb x y && b) (same_append xs ys s t (omega arith)) ∙ sym (and_assoc (eqb x y) _ _)

-- bytes that are cut in two at one place, a into p and x, b into q and y: whether all is the same where the fronts are, and
-- where they are not
module _ (a b : List ℕ) (n : ℕ) {p x q y : List ℕ} (long : length a ≡ length b) (front : p ≡ take n a) (back : x ≡ drop n a)
    (front_b : q ≡ take n b) (back_b : y ≡ drop n b) {told : Bool} (answer : told ≡ same_bytes p q) where
  cut : same_bytes a b ≡ told && same_bytes x y
  cut =
      sym (ap₂ same_bytes (take-append-drop n a) (take-append-drop n b))
      ∙ rw (answer, front, back, front_b, back_b)
      (same_append (take n a) (take n b) (drop n a) (drop n b) (simp (length-take, long)))

  pub front_same : told ≡ true → same_bytes x y ≡ same_bytes a b
  front_same t = sym (cut ∙ ap (λ (s : Bool). s && same_bytes x y) t)

  pub front_differs : told ≡ false → told ≡ same_bytes a b
  front_differs f = f ∙ sym (cut ∙ ap (λ (s : Bool). s && same_bytes x y) f)

-- a turn of the loop over bytes: d has gathered the differences of those before x and y
pub same_next : (d x y : ℕ) {a b xs ys : List ℕ} → a ≡ x ∷ xs → b ≡ y ∷ ys → length a ≡ length b
    → (length xs ≡ length ys) × (eqb (bit_or d (bit_xor x y)) 0 && same_bytes xs ys ≡ eqb d 0 && same_bytes a b)
unfolding same_bytes
same_next d x y {xs = xs} {ys = ys} p q e =
    let long : suc (length xs) ≡ suc (length ys) = sym (ap length p) ∙ e ∙ ap length q in
    (omega arith, rw (p, q, or_none, xor_none) (and_assoc (eqb d 0) (eqb x y) (same_bytes xs ys)))

-- blocks and what is left over behind them, as one list; bytes are the blocks that they are cut into
abbrev pub joined : List (List ℕ) → List ℕ → List ℕ
joined [] rest = rest
joined (block ∷ blocks) rest = block ++ joined blocks rest

joined_blocks : (n k : ℕ) (bytes : List ℕ) → joined (first_chunks n k bytes) (drop (k * n) bytes) ≡ bytes
joined_blocks n zero bytes = ap (λ (m : ℕ). drop m bytes) (zero-mul n)
joined_blocks n (suc k) bytes =
    let more : suc k * n ≡ n + k * n = omega arith in
    rw (more, ← drop-drop (k * n) n bytes, joined_blocks n k (drop n bytes)) (take-append-drop n bytes)

pub joined_all : (n k : ℕ) (bytes : List ℕ) {xs : List (List ℕ)} {x : List ℕ}
    → xs ≡ first_chunks n k bytes → x ≡ drop (k * n) bytes → joined xs x ≡ bytes
joined_all n k bytes e f = rw (e, f) (joined_blocks n k bytes)

-- a turn of the loop over blocks: d tells of the blocks p and q
module _ (d : ℕ) {p q : List ℕ} (x y : List ℕ) {a b xs ys : List (List ℕ)} (first : a ≡ p ∷ xs) (second : b ≡ q ∷ ys)
    (block : eqb d 0 ≡ same_bytes p q) (long : length p ≡ length q) where
  split : same_bytes (joined a x) (joined b y) ≡ eqb d 0 && same_bytes (joined xs x) (joined ys y)
  split = rw (first, second, block) (same_append p q (joined xs x) (joined ys y) long)

  pub block_same : d ≡ 0 → same_bytes (joined xs x) (joined ys y) ≡ same_bytes (joined a x) (joined b y)
  block_same z = sym (split ∙ ap (λ (t : Bool). t && same_bytes (joined xs x) (joined ys y)) (eq-eqb d 0 z))

  pub block_differs : (d ≡ 0 → ⊥) → false ≡ same_bytes (joined a x) (joined b y)
  block_differs n = sym (split ∙ ap (λ (t : Bool). t && same_bytes (joined xs x) (joined ys y)) (ne_eqb d 0 n))
