-- Laws of tests: what a list of tests that is passed tells of each of them, and back; the same of a test of every element of a list; and
-- what the tests of two lists of bytes and of a number within the setup tell.
use mathlib.Core.Path.{◌≡◌, refl, sym, ap₂, ◌∙◌}
use mathlib.Core.List.{List, [], ◌∷◌}
use mathlib.Core.Bool.{Bool, true, false, ◌&&◌, ◌||◌, not, cond, true≢false, and-true}
use Prim.Native.Nat.{ℕ, zero, suc, ◌+◌, ◌<◌}
use native.Mathlib.Nat.{zero-add, add-zero, suc-add, add-suc, le_of_suc-le-suc, not-suc-le-zero}
use native.Mathlib.Omega.{arith}
use lib.ListN.{length, get_or}
use lib.Dec.{T, eqb, ltb→lt}
use borrow.Author.Tests.{eqb-true, eq-eqb}
use Rattle.std.specs.Prelude.{Option, Some, None, is_some}
use Rattle.rules.specs.Bytes.{all_of, all_from, same_bytes}
use Rattle.rules.specs.Records.{is_unmapped}
use Rattle.rules.specs.Sizes.{domain_in, page_in, frame_in, context_in}
use Rattle.rules.specs.declared.Setup.{Setup}
use Rattle.rules.specs.declared.Asid.{Asid}
use Rattle.rules.specs.declared.Gvpn.{Gvpn}
use Rattle.rules.specs.declared.Gppn.{Gppn}
use Rattle.rules.specs.declared.Ctc.{Ctc}

-- one test and another
left : (a b : Bool) → T (a && b) → T a
left true b t = tt
left false b t = absurd t

right : (a b : Bool) → T (a && b) → T b
right true b t = t
right false b t = absurd t

both : (a b : Bool) → T a → T b → T (a && b)
both true b t u = u
both false b t u = t

-- one test or another
pub first_or : (a b : Bool) → T a → T (a || b)
first_or true b t = tt
first_or false b t = absurd t

pub second_or : (a b : Bool) → T b → T (a || b)
second_or true b t = tt
second_or false b t = t

pub implied : (a b : Bool) → T (not a || b) → T a → T b
implied true b t u = t
implied false b t u = absurd u

-- a test in front of a list of tests, as `both` joins them; t is what the test a is known to be
pub joined : {r t : Bool} (a b : Bool) (bs : List Bool) → r ≡ all_of (a ∷ b ∷ []) → a ≡ t → b ≡ all_of bs → r ≡ all_of (t ∷ bs)
unfolding all_of
joined a b bs p e q = p ∙ simp and-true (ap₂ ◌&&◌ e q)

pub alone : (b : Bool) → b ≡ all_of (b ∷ [])
unfolding all_of
alone b = sym (and-true b)

pub passes : (b : Bool) → T b → b ≡ true
passes true t = refl
passes false t = absurd t

pub passed : (b : Bool) → b ≡ true → T b
passed b e = rw e tt

-- each of a list of tests
abbrev pub Each : List Bool → Type 0
Each [] = Unit {0}
Each (b ∷ bs) = T b × Each bs

pub each : (bs : List Bool) → T (all_of bs) → Each bs
unfolding all_of
each [] t = tt
each (true ∷ bs) t = (tt, each bs t)
each (false ∷ bs) t = absurd t

pub all : (bs : List Bool) → Each bs → T (all_of bs)
unfolding all_of
all [] t = tt
all (true ∷ bs) t = all bs t.1
all (false ∷ bs) t = t.0

-- a test of each element, by its place
from : {A : Type 0} (test : ℕ → A → Bool) (z : A) (l : List A) (k : ℕ) → T (all_from test k l) → (i : ℕ) → i < length l
    → T (test (k + i) (get_or l i z))
unfolding all_from
from test z [] k t i h = absurd (not-suc-le-zero h)
from test z (x ∷ xs) k t zero h = rw add-zero (left (test k x) (all_from test (suc k) xs) t)
from test z (x ∷ xs) k t (suc i) h =
    rw (add-suc, ← suc-add)
    (from test z xs (suc k) (right (test k x) (all_from test (suc k) xs) t) i (le_of_suc-le-suc h))

pub all_at : {A : Type 0} (test : ℕ → A → Bool) (z : A) (l : List A) → T (all_from test 0 l) → (i : ℕ) → i < length l
    → T (test i (get_or l i z))
all_at test z l t i h = rw zero-add at (from test z l 0 t i h)

from_each : {A : Type 0} (test : ℕ → A → Bool) (z : A) (l : List A) (k : ℕ)
    → ((i : ℕ) → i < length l → T (test (k + i) (get_or l i z))) → T (all_from test k l)
unfolding all_from
from_each test z [] k h = tt
from_each test z (x ∷ xs) k h =
    both (test k x) (all_from test (suc k) xs) (rw add-zero at (h 0 (omega arith)))
    (from_each test z xs (suc k) (λ i q. rw (add-suc, ← suc-add) at (h (suc i) (omega arith))))

-- a test that holds at each place holds of the list
pub all_of_holds : {A : Type 0} (test : ℕ → A → Bool) (z : A) (l : List A) → ((i : ℕ) → i < length l → T (test i (get_or l i z)))
    → T (all_from test 0 l)
all_of_holds test z l h = from_each test z l 0 (λ i q. rw zero-add (h i q))

-- the comparison of two lists of bytes
pub same_bytes_holds : (x y : List ℕ) → same_bytes x y ≡ true → x ≡ y
unfolding same_bytes
same_bytes_holds [] [] e = refl
same_bytes_holds [] (y ∷ ys) e = absurd (true≢false (sym e))
same_bytes_holds (x ∷ xs) [] e = absurd (true≢false (sym e))
same_bytes_holds (x ∷ xs) (y ∷ ys) e = go (eqb x y) refl e (same_bytes_holds xs ys)
  where
    go : (b : Bool) → eqb x y ≡ b → (b && same_bytes xs ys) ≡ true → (same_bytes xs ys ≡ true → xs ≡ ys) → x ∷ xs ≡ y ∷ ys
    go true q e rest = ap₂ ◌∷◌ (eqb-true x y q) (rest e)
    go false q e rest = absurd (true≢false (sym e))

pub bytes_same : (x : List ℕ) → same_bytes x x ≡ true
unfolding same_bytes
bytes_same [] = refl
bytes_same (x ∷ xs) = rw (eq-eqb x x refl) (bytes_same xs)

-- a number within the setup
pub domain_below : (s : Setup) (d : Asid) → T (domain_in s d) → d.0 < s.domains
unfolding domain_in
domain_below s d h = ltb→lt _ _ h

pub page_below : (s : Setup) (v : Gvpn) → T (page_in s v) → v.0 < s.pages
unfolding page_in
page_below s v h = ltb→lt _ _ h

pub frame_below : (s : Setup) (f : Gppn) → T (frame_in s f) → f.0 < s.frames
unfolding frame_in
frame_below s f h = ltb→lt _ _ h

pub context_below : (s : Setup) (c : Ctc) → T (context_in s c) → c.0 < s.contexts
unfolding context_in
context_below s c h = ltb→lt _ _ h

-- a choice between one thing and the same, and of what is made of the one chosen
pub cond_same : {A : Type 0} (b : Bool) (x : A) → cond b x x ≡ x
cond_same true x = refl
cond_same false x = refl

pub cond_map : {A B : Type 0} (f : A → B) (b : Bool) (x y : A) → f (cond b x y) ≡ cond b (f x) (f y)
cond_map f true x y = refl
cond_map f false x y = refl

-- a page is mapped where its mapping names a frame
pub some_mapped : (m : Option Gppn) → is_some m ≡ not (is_unmapped m)
some_mapped None = refl
some_mapped (Some f) = refl
