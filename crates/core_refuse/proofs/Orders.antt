-- Laws of the first of some checks that is to be answered: what a stage that passed or refused says of the stages after it.
use mathlib.Core.Path.{◌≡◌, refl, sym, ap, ◌∙◌}
use mathlib.Core.List.{List, [], ◌∷◌, ◌++◌}
use mathlib.Core.Bool.{Bool, true, false, cond}
use Prim.Native.Nat.{ℕ, ◌≤◌, ◌<◌}
use native.Mathlib.Nat.{add-zero}
use native.Mathlib.Omega.{arith}
use lib.Dec.{ltb, ltb→lt, lit<}
use borrow.Author.Tests.{le-ltb}
use Rattle.rules.specs.Bytes.{all_of}
use Rattle.rules.proofs.Facts.{each, passed}
use Rattle.rules.specs.Events.{Row, row}
use Rattle.rules.specs.Answers.{Check, check, first_of}
use Rattle.rules.specs.Refusals.{number_of}
use Rattle.core_refuse.specs.Stages.{record_checks, seal_checks}
use Rattle.core_refuse_event.specs.Stages.{shape_checks, by_shape}
use Rattle.rules.specs.declared.Setup.{Setup}
use Rattle.rules.specs.declared.Tables.{Tables}
use Rattle.rules.specs.declared.Event.{Event}
use Rattle.rules.specs.declared.Refusal.{Refusal}

-- no refusal has the number 0
pub numbered : (r : Refusal) → number_of r ≡ 0 → ⊥
numbered r e = grind arith

-- a stage that refuses is the answer
pick_refused : (b : Bool) (n x y : ℕ) → (cond b n y ≡ 0 → ⊥) → ((y ≡ 0 → ⊥) → x ≡ y) → cond b n x ≡ cond b n y
pick_refused true n x y h rest = refl
pick_refused false n x y h rest = rest h

first_refused : (cs ds : List Check) → (first_of cs ≡ 0 → ⊥) → first_of (cs ++ ds) ≡ first_of cs
unfolding first_of
first_refused [] ds h = absurd (h refl)
first_refused (c ∷ cs) ds h = pick_refused c.when c.answer _ _ h (first_refused cs ds)

pub stage_refused : (cs ds : List Check) (r : Refusal) → number_of r ≡ first_of cs → number_of r ≡ first_of (cs ++ ds)
stage_refused cs ds r e = e ∙ sym (first_refused cs ds (λ z. numbered r (e ∙ z)))

-- one that passes leaves it to the next, where none of its checks answers 0
abbrev Numbered : List Check → Type 0
Numbered [] = Unit {0}
Numbered (c ∷ cs) = (0 < c.answer) × Numbered cs

pick_passed : (b : Bool) (n x y z : ℕ) → 0 < n → cond b n y ≡ 0 → (y ≡ 0 → x ≡ z) → cond b n x ≡ z
pick_passed true n x y z h e rest = absurd (omega arith)
pick_passed false n x y z h e rest = rest e

first_passed : (cs ds : List Check) → Numbered cs → first_of cs ≡ 0 → first_of (cs ++ ds) ≡ first_of ds
unfolding first_of
first_passed [] ds p e = refl
first_passed (c ∷ cs) ds p e = pick_passed c.when c.answer _ (first_of cs) _ p.0 e (first_passed cs ds p.1)

pub stage_passed : (s : Setup) (e : Event) (r : Row) (new room : ℕ) (ds : List Check) → 0 ≡ first_of (by_shape s e r new room)
    → first_of (by_shape s e r new room ++ ds) ≡ first_of ds
unfolding by_shape shape_checks check
stage_passed s e r new room ds q = first_passed _ ds (lit< tt, (lit< tt, (lit< tt, (lit< tt, tt)))) (sym q)

-- the checks of an event's second stage, on the conditions of its records
abbrev pub of_row : Setup → Tables → Event → List Check
of_row s t e = record_checks (row s t e).condition (row s t e).live (row s t e).mapped

pub records_passed : (condition live mapped : Bool) (ds : List Check) → 0 ≡ first_of (record_checks condition live mapped)
    → first_of (record_checks condition live mapped ++ ds) ≡ first_of ds
unfolding record_checks check
records_passed condition live mapped ds q = first_passed _ ds (lit< tt, (lit< tt, (lit< tt, tt))) (sym q)

-- an idle last check changes nothing: no signature is asked for, and no more are used than there are
first_idle : (cs : List Check) (n : ℕ) → first_of (cs ++ (check n false ∷ [])) ≡ first_of cs
unfolding first_of check
first_idle [] n = refl
first_idle (c ∷ cs) n = ap (cond c.when c.answer) (first_idle cs n)

pub none_asked : (s : Setup) (used : ℕ) (cs : List Check) → used ≤ s.signatures
    → first_of (cs ++ seal_checks s used 0) ≡ first_of cs
unfolding seal_checks
none_asked s used cs h = rw (add-zero, le-ltb s.signatures used h) (first_idle cs 6)

-- what a stage that passed tells: its condition holds, and the page is mapped
pub records_told : (condition live mapped : Bool) → first_of (record_checks condition live mapped) ≡ 0
    → (condition ≡ true) × (mapped ≡ true)
unfolding record_checks check first_of
records_told false live mapped e = absurd (omega arith)
records_told true false mapped e = absurd (omega arith)
records_told true true false e = absurd (omega arith)
records_told true true true e = (refl, refl)

pub mapped_told : (condition live mapped : Bool) → 0 ≡ first_of (record_checks condition live mapped) → mapped ≡ true
mapped_told condition live mapped e = (records_told condition live mapped (sym e)).1

-- two numbers that pass the test of their limits are below them
pub two_below : (a m b n : ℕ) → all_of (ltb a m ∷ ltb b n ∷ []) ≡ true → (a < m) × (b < n)
two_below a m b n e = let r = each _ (passed _ e) in (ltb→lt a m r.0, ltb→lt b n r.1.0)

-- and so is the first number of those that pass, whatever else is tested
pub first_below : (a m : ℕ) (tests : List Bool) → all_of (ltb a m ∷ tests) ≡ true → a < m
first_below a m tests e = ltb→lt a m (each _ (passed _ e)).0
