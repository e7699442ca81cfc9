-- The tables of two images that differ in the words of one record, or in none of a table.
use Rattle.std.specs.Prelude.{Option}
use mathlib.Core.Path.{◌≡◌, refl, ap}
use mathlib.Core.Bool.{Bool, true, false}
use mathlib.Core.List.{List}
use Prim.Native.Nat.{ℕ, ◌+◌, ◌<◌}
use native.Mathlib.Nat.{zero-add}
use native.Mathlib.Omega.{arith}
use lib.Dec.{eqb}
use borrow.Author.Tests.{eqb-true, eqb-false}
use lib.ListN.{get_or, set}
use lib.Seq.{get_or-set_other}
use Rattle.rules.specs.Records.{public_page}
use Rattle.rules.specs.declared.Gppn.{Gppn}
use Rattle.rules.specs.declared.Place.{Place}
use Rattle.core_tables.specs.Words.{mapping_in, place_in, home_word}
use Rattle.core_tables.specs.Image.{mapped_at, home_at, sign_at, max_entries, page_at, table}
use Rattle.core_tables.proofs.Sections.{table_same, table_set, get_d_table}

-- the words of y from a on, n of them, are those of x
abbrev pub Same : List ℕ → List ℕ → ℕ → ℕ → Type 0
Same x y a n = (i : ℕ) → i < n → get_or y (a + i) 0 ≡ get_or x (a + i) 0

-- but for that of number k
abbrev pub Else : List ℕ → List ℕ → ℕ → ℕ → ℕ → Type 0
Else x y a n k = (i : ℕ) → i < n → (i ≡ k → ⊥) → get_or y (a + i) 0 ≡ get_or x (a + i) 0

module _ (x : List ℕ) (j w : ℕ) where
  pub same : (a n : ℕ) → ((i : ℕ) → i < n → a + i ≡ j → ⊥) → Same x (set x j w) a n
  same a n apart i b = get_or-set_other x j (a + i) w 0 (apart i b)

  pub other : (a n k : ℕ) → a + k ≡ j → Else x (set x j w) a n k
  other a n k e i b ne = get_or-set_other x j (a + i) w 0 (λ q. ne (omega arith))

-- a table of which no word, or one record's, changed
module _ {A : Type 0} (decode : ℕ → A) (x y : List ℕ) (a n : ℕ) where
  pub kept : Same x y a n → table (λ i. decode (get_or y (a + i) 0)) 0 n ≡ table (λ i. decode (get_or x (a + i) 0)) 0 n
  kept s = table_same _ _ 0 n (λ i l b. ap decode (s i (omega arith)))

  pub changed : (k w : ℕ) (r : A) → k < n → Else x y a n k → get_or y (a + k) 0 ≡ w → decode w ≡ r
      → table (λ i. decode (get_or y (a + i) 0)) 0 n ≡ set (table (λ i. decode (get_or x (a + i) 0)) 0 n) k r
  changed k w r h s new back =
      table_set _ _ 0 n k r h (rw (zero-add, new) back) (λ i l b ne. ap decode (s i (omega arith) (λ e. ne (rw zero-add e))))

  pub coded : (code : A → ℕ) (k w : ℕ) → Else x y a n k → get_or y (a + k) 0 ≡ w → code (decode w) ≡ w
      → ((i : ℕ) → i < n → code (decode (get_or x (a + i) 0)) ≡ get_or x (a + i) 0) → (i : ℕ) → i < n
      → code (decode (get_or y (a + i) 0)) ≡ get_or y (a + i) 0
  coded code k w s new fresh old i b = by (eqb i k) refl
    where
      by : (p : Bool) → eqb i k ≡ p → code (decode (get_or y (a + i) 0)) ≡ get_or y (a + i) 0
      by true e = rw (eqb-true i k e, new) fresh
      by false e = rw (s i b (eqb-false i k e)) (old i b)

  pub still : (code : A → ℕ) → Same x y a n → ((i : ℕ) → i < n → code (decode (get_or x (a + i) 0)) ≡ get_or x (a + i) 0)
      → (i : ℕ) → i < n → code (decode (get_or y (a + i) 0)) ≡ get_or y (a + i) 0
  still code s old i b = rw (s i b) (old i b)

-- the pages, of whose words none changed
module _ (x y : List ℕ) (m : Same x y mapped_at max_entries) (h : Same x y home_at max_entries) (s : Same x y sign_at max_entries) where
  pub pages_kept : table (page_at y) 0 max_entries ≡ table (page_at x) 0 max_entries
  pages_kept = table_same (page_at x) (page_at y) 0 max_entries (λ i l b. rw (m i (omega arith), h i (omega arith), s i (omega arith)))

pub home_still : (x y : List ℕ) → Same x y home_at max_entries → Same x y sign_at max_entries
    → ((i : ℕ) → i < max_entries → home_word (place_in (get_or x (home_at + i) 0) (get_or x (sign_at + i) 0)) ≡ get_or x (home_at + i) 0)
    → (i : ℕ) → i < max_entries → home_word (place_in (get_or y (home_at + i) 0) (get_or y (sign_at + i) 0)) ≡ get_or y (home_at + i) 0
home_still x y h s old i b = rw (h i b, s i b) (old i b)

-- one page's mapping changed
pub page_mapping : (x y : List ℕ) (k w : ℕ) (r : Option Gppn) → k < max_entries → Else x y mapped_at max_entries k
    → get_or y (mapped_at + k) 0 ≡ w
    → mapping_in w ≡ r → Same x y home_at max_entries → Same x y sign_at max_entries
    → table (page_at y) 0 max_entries
    ≡ set (table (page_at x) 0 max_entries) k
    (record { mapping = r; place = (get_or (table (page_at x) 0 max_entries) k public_page).place })
page_mapping x y k w r b m new back h s =
    table_set (page_at x) (page_at y) 0 max_entries k _ b
    (rw (zero-add, new, back, h k b, s k b, get_d_table (page_at x) 0 max_entries k public_page b, zero-add))
    (λ i l c ne. rw (m i (omega arith) (λ e. ne (rw zero-add e)), h i (omega arith), s i (omega arith)))

-- one page's place
pub page_place : (x y : List ℕ) (k w z : ℕ) (r : Place) → k < max_entries → Else x y home_at max_entries k → Else x y sign_at max_entries k
    → get_or y (home_at + k) 0 ≡ w → get_or y (sign_at + k) 0 ≡ z → place_in w z ≡ r → Same x y mapped_at max_entries
    → table (page_at y) 0 max_entries
    ≡ set (table (page_at x) 0 max_entries) k
    (record { mapping = (get_or (table (page_at x) 0 max_entries) k public_page).mapping; place = r })
page_place x y k w z r b h s newh news back m =
    table_set (page_at x) (page_at y) 0 max_entries k _ b
    (rw (zero-add, newh, news, back, m k b, get_d_table (page_at x) 0 max_entries k public_page b, zero-add))
    (λ i l c ne. rw (m i (omega arith), h i (omega arith) (λ e. ne (rw zero-add e)), s i (omega arith) (λ e. ne (rw zero-add e))))

pub home_coded : (x y : List ℕ) (k w z : ℕ) → Else x y home_at max_entries k → Else x y sign_at max_entries k
    → get_or y (home_at + k) 0 ≡ w → get_or y (sign_at + k) 0 ≡ z → home_word (place_in w z) ≡ w
    → ((i : ℕ) → i < max_entries → home_word (place_in (get_or x (home_at + i) 0) (get_or x (sign_at + i) 0)) ≡ get_or x (home_at + i) 0)
    → (i : ℕ) → i < max_entries → home_word (place_in (get_or y (home_at + i) 0) (get_or y (sign_at + i) 0)) ≡ get_or y (home_at + i) 0
home_coded x y k w z h s newh news fresh old i b = by (eqb i k) refl
  where
    by : (p : Bool) → eqb i k ≡ p → home_word (place_in (get_or y (home_at + i) 0) (get_or y (sign_at + i) 0)) ≡ get_or y (home_at + i) 0
    by true e = rw (eqb-true i k e, newh, news) fresh
    by false e = rw (h i b (eqb-false i k e), s i b (eqb-false i k e)) (old i b)
