-- A table of records by their numbers: its length, what stands in it, and the same where one record changed.
use mathlib.Core.Path.{◌≡◌, refl, sym, ap, ◌∙◌}
use mathlib.Core.List.{List, ◌∷◌, ◌++◌, map}
use Prim.Native.Nat.{ℕ, zero, suc, ◌+◌, ◌≤◌, ◌<◌}
use native.Mathlib.Nat.{add-zero}
use native.Mathlib.Decide.{dec_lt}
use native.Mathlib.Omega.{arith}
use lib.ListN.{length, get_or, set, drop, replicate}
use lib.Seq.{drop-cons}
use Rattle.core_tables.specs.Image.{table}

shift : (k i : ℕ) → k + suc i ≡ suc k + i
shift k i = omega arith

module _ {A : Type 0} where
  pub length_table : (f : ℕ → A) (k n : ℕ) → length (table f k n) ≡ n
  unfolding table
  length_table f k zero = refl
  length_table f k (suc n) = ap suc (length_table f (suc k) n)

  pub get_d_table : (f : ℕ → A) (k n i : ℕ) (d : A) → i < n → get_or (table f k n) i d ≡ f (k + i)
  unfolding table
  get_d_table f k zero i d h = absurd (omega arith)
  get_d_table f k (suc n) zero d h = rw add-zero
  get_d_table f k (suc n) (suc i) d h = rw shift (get_d_table f (suc k) n i d (omega arith))

  -- the same records
  pub table_same : (f g : ℕ → A) (k n : ℕ) → ((i : ℕ) → k ≤ i → i < k + n → g i ≡ f i) → table g k n ≡ table f k n
  unfolding table
  table_same f g k zero e = refl
  table_same f g k (suc n) e =
      rw (e k (omega arith) (omega arith), table_same f g (suc k) n (λ i a b. e i (omega arith) (omega arith)))

  -- one changed
  pub table_set : (f g : ℕ → A) (k n i : ℕ) (r : A) → i < n → g (k + i) ≡ r
      → ((j : ℕ) → k ≤ j → j < k + n → (j ≡ k + i → ⊥) → g j ≡ f j)
      → table g k n ≡ set (table f k n) i r
  unfolding table
  table_set f g k zero i r h new old = absurd (omega arith)
  table_set f g k (suc n) zero r h new old =
      rw (
        ← new,
        add-zero,
        table_same f g (suc k) n (λ j a b. old j (omega arith) (omega arith) (λ e. omega arith)),
      )
  table_set f g k (suc n) (suc i) r h new old =
      rw (
        old k (omega arith) (omega arith) (λ e. omega arith),
        table_set f g (suc k) n i r (omega arith) (ap g (sym (shift k i)) ∙ new)
            (λ j a b ne. old j (omega arith) (omega arith) (λ e. ne (e ∙ shift k i))),
      )

  pub table_one : (f : ℕ → A) (r : A) (k n : ℕ) → ((i : ℕ) → k ≤ i → i < k + n → f i ≡ r) → table f k n ≡ replicate n r
  unfolding table
  table_one f r k zero e = refl
  table_one f r k (suc n) e =
      rw (e k (omega arith) (omega arith), table_one f r (suc k) n (λ i a b. e i (omega arith) (omega arith)))

  -- the words of a table, where they stand in x from at on, and back
  pub words_of : (code : A → ℕ) (f : ℕ → A) (x : List ℕ) (at k n : ℕ) → at + (k + n) ≤ length x
      → ((i : ℕ) → k ≤ i → i < k + n → code (f i) ≡ get_or x (at + i) 0)
      → map code (table f k n) ++ drop (at + (k + n)) x ≡ drop (at + k) x
  unfolding table
  words_of code f x at k zero l e = rw add-zero
  words_of code f x at k (suc n) l e =
      let next : at + suc k ≡ suc (at + k) = omega arith in
      rw (shift k n, drop-cons x (at + k) 0 (omega arith), e k (omega arith) (omega arith))
      (ap (λ (r : List ℕ). get_or x (at + k) 0 ∷ r)
      (words_of code f x at (suc k) n (omega arith) (λ i a b. e i (omega arith) (omega arith)) ∙ ap (λ (m : ℕ). drop m x) next))

  pub words_back : (code : A → ℕ) (f : ℕ → A) (x rest : List ℕ) (at k n : ℕ) → at + (k + n) ≤ length x
      → map code (table f k n) ++ rest ≡ drop (at + k) x
      → ((i : ℕ) → k ≤ i → i < k + n → code (f i) ≡ get_or x (at + i) 0) × (rest ≡ drop (at + (k + n)) x)
  unfolding table
  words_back code f x rest at k zero l e = ((λ i a b. absurd (omega arith)), rw add-zero e)
  words_back code f x rest at k (suc n) l e =
      let next : at + suc k ≡ suc (at + k) = omega arith in
      let q : code (f k) ∷ (map code (table f (suc k) n) ++ rest) ≡ get_or x (at + k) 0 ∷ drop (suc (at + k)) x =
      e ∙ drop-cons x (at + k) 0 (omega arith) in
      let tail : map code (table f (suc k) n) ++ rest ≡ drop (at + suc k) x = rw next (cc) in
      let more = words_back code f x rest at (suc k) n (omega arith) tail in
      let head : code (f k) ≡ get_or x (at + k) 0 = cc in
      ((λ i a b. by i a b head more (dec_lt k i)), rw (shift k n) more.1)
    where
      by : (i : ℕ) → k ≤ i → i < k + suc n → code (f k) ≡ get_or x (at + k) 0
          → ((j : ℕ) → suc k ≤ j → j < suc k + n → code (f j) ≡ get_or x (at + j) 0) × (rest ≡ drop (at + (suc k + n)) x)
          → Dec (k < i) → code (f i) ≡ get_or x (at + i) 0
      by i a b head more (yes h) = more.0 i h (omega arith)
      by i a b head more (no h) = let same : i ≡ k = omega arith in rw same head
