-- The table of widths: which row a kind has, and what every row keeps to, in every right form.
use mathlib.Core.Path.{◌≡◌, sym, ap}
use mathlib.Core.List.{List, [], ◌∷◌}
use Prim.Native.Nat.{ℕ, zero, suc, ◌≤◌, zero-le}
use native.Mathlib.Omega.{arith}
use lib.Arith.{lt_of_le-ne}
use lib.ListN.{get_or, get_or-eq_default}
use Rattle.trace_form.specs.Form.{Right, numbers, with_span, table, widths_of}
use Rattle.trace_form.specs.Bounds.{Small}
use Rattle.trace_form.specs.declared.Form.{Form}
use Rattle.trace_form.specs.declared.Widths.{Widths}

-- the row of a kind that the code found to be n
pub row_at : (f : Form) (k n : ℕ) → k ≡ n → get_or (table f.context) n (numbers 0 0 0) ≡ widths_of f k
unfolding widths_of
row_at f k n e = ap (λ (x : ℕ). get_or (table f.context) x (numbers 0 0 0)) (sym e)

-- a number that is none of the first n is at least n
abbrev pub None : ℕ → ℕ → Type 0
None zero k = Unit {0}
None (suc n) k = None n k × (k ≡ n → ⊥)

pub past : (n k : ℕ) → None n k → n ≤ k
past zero k t = zero-le
past (suc n) k t = lt_of_le-ne (past n k t.0) (λ e. t.1 (sym e))

pub row_past : (f : Form) (k : ℕ) → None 14 k → numbers 0 0 0 ≡ widths_of f k
unfolding widths_of
row_past f k t = sym (get_or-eq_default (table f.context) (numbers 0 0 0) {n = k} (past 14 k t))

-- a row of facts, one for each kind
infixr 30 ◌▹◌
abbrev pub ◌▹◌ : {A B : Type 0} → A → B → A × B
a ▹ b = (a, b)

-- what every row keeps to
plain : (a b c : ℕ) → a ≤ 8 → b ≤ 8 → c ≤ 8 → Small (numbers a b c)
plain a b c ha hb hc =
    record { one = ha; two = hb; three = hc; four = omega arith; five = omega arith; all = omega arith }

spanning : (a b : ℕ) → a ≤ 8 → b ≤ 8 → Small (with_span a b)
spanning a b ha hb =
    record { one = ha; two = hb; three = omega arith; four = omega arith; five = omega arith; all = omega arith }

abbrev Every : List Widths → Type 0
Every [] = Unit {0}
Every (w ∷ ws) = Small w × Every ws

every_at : (ws : List Widths) (k : ℕ) → Every ws → Small (get_or ws k (numbers 0 0 0))
every_at [] k t = plain 0 0 0 (omega arith) (omega arith) (omega arith)
every_at (w ∷ ws) zero t = t.0
every_at (w ∷ ws) (suc k) t = every_at ws k t.1

pub small : (f : Form) (k : ℕ) → Right f → Small (widths_of f k)
unfolding widths_of
small f k r = every_at (table c) k rows
  where
    c : ℕ
    c = f.context

    h : c ≤ 8
    h = r.context_bits_holds

    rows : Every (table c)
    rows =
        plain 3 c 0 (omega arith) h (omega arith)
        ▹ plain 3 0 0 (omega arith) (omega arith) (omega arith)
        ▹ plain 3 5 6 (omega arith) (omega arith) (omega arith)
        ▹ plain 3 5 0 (omega arith) (omega arith) (omega arith)
        ▹ spanning 6 0 (omega arith) (omega arith)
        ▹ spanning 6 0 (omega arith) (omega arith)
        ▹ plain 3 c 0 (omega arith) h (omega arith)
        ▹ plain c c 0 h h (omega arith)
        ▹ plain c 0 0 h (omega arith) (omega arith)
        ▹ plain c 5 0 h (omega arith) (omega arith)
        ▹ plain c 5 0 h (omega arith) (omega arith)
        ▹ spanning c 5 h (omega arith)
        ▹ spanning c 5 h (omega arith)
        ▹ plain c 1 8 h (omega arith) (omega arith)
        ▹ tt
