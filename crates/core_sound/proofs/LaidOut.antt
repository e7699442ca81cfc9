-- Laws of the frames' names laid out by page: one more frame, and what the layout tells of the pages' homes.
use mathlib.Core.Path.{◌≡◌, refl, sym, ap, ◌∙◌}
use mathlib.Core.Bool.{Bool, true, false}
use mathlib.Core.List.{List}
use Prim.Native.Nat.{ℕ, zero, suc, ◌+◌, ◌-◌, ◌<◌}
use native.Mathlib.Omega.{arith}
use lib.Dec.{eqb}
use borrow.Author.Tests.{eqb-true, eqb-false}
use lib.ListN.{length, get_or, set, replicate}
use lib.Seq.{get_or-set_same, get_or-set_other}
use Rattle.core_tables.specs.Image.{word_at, frames_at, home_at}
use Rattle.core_sound.specs.Told.{Tells, Holds, NamesHome, HomeNames, BothWays, Kept, Late}
use Rattle.core_sound.proofs.Telling.{told}

zeros_at : (n j : ℕ) → ◌≡◌ {A = ℕ} (get_or (replicate n 0) j 0) 0
zeros_at zero j = refl
zeros_at (suc n) zero = refl
zeros_at (suc n) (suc j) = zeros_at n j

pub holds_none : (x held : List ℕ) (n : ℕ) → held ≡ replicate n 0 → Holds x 0 held
holds_none x held n e =
    record {
      named = λ j f q. absurd (omega (arith, rw (e, zeros_at n j) at q));
      found = λ f h q. omega arith;
    }

module _ (x held : List ℕ) (n : ℕ) (old : Holds x n held) (fits : word_at x (frames_at + n) < length held) where
  named_more : (j f : ℕ) → get_or (set held (word_at x (frames_at + n)) (n + 1)) j 0 ≡ 1 + f
      → (f < n + 1) × (word_at x (frames_at + f) ≡ j)
  named_more j f e = by (eqb j (word_at x (frames_at + n))) refl
    where
      by : (b : Bool) → eqb j (word_at x (frames_at + n)) ≡ b → (f < n + 1) × (word_at x (frames_at + f) ≡ j)
      by true q =
          let here : j ≡ word_at x (frames_at + n) = eqb-true j _ q in
          let own : n + 1 ≡ 1 + f = rw (here, get_or-set_same held (word_at x (frames_at + n)) (n + 1) 0 fits) at e in
          let same : f ≡ n = omega arith in
          (omega arith, rw same (sym here))
      by false q =
          let was = old.named j f (rw (get_or-set_other held (word_at x (frames_at + n)) j (n + 1) 0 (eqb-false j _ q)) at e) in
          (omega arith, was.1)

  found_more : (f : ℕ) → f < n + 1 → get_or (set held (word_at x (frames_at + n)) (n + 1)) (word_at x (frames_at + f)) 0 ≡ 0 → ⊥
  found_more f h e = by (eqb (word_at x (frames_at + f)) (word_at x (frames_at + n))) refl
    where
      by : (b : Bool) → eqb (word_at x (frames_at + f)) (word_at x (frames_at + n)) ≡ b → ⊥
      by true q =
          let own : n + 1 ≡ 0 =
          rw (eqb-true (word_at x (frames_at + f)) _ q, get_or-set_same held (word_at x (frames_at + n)) (n + 1) 0 fits) at e in
          omega arith
      by false q =
          let ne = eqb-false (word_at x (frames_at + f)) (word_at x (frames_at + n)) q in
          let apart : f ≡ n → ⊥ = λ s. ne (ap (λ (m : ℕ). word_at x (frames_at + m)) s) in
          old.found f (below f n h apart)
          (rw (get_or-set_other held (word_at x (frames_at + n)) (word_at x (frames_at + f)) (n + 1) 0 ne) at e)
        where
          below : (f n : ℕ) → f < n + 1 → (f ≡ n → ⊥) → f < n
          below f n h ne = omega arith

  pub holds_more : Holds x (n + 1) (set held (word_at x (frames_at + n)) (n + 1))
  holds_more = record { named = named_more; found = found_more }

-- what is tested of one frame
pub names_home : (x : List ℕ) (f : ℕ) {r : ℕ}
    → Tells ((word_at x (frames_at + f) ≡ 0 → ⊥) → word_at x (home_at + word_at x (frames_at + f) - 1) ≡ f + 1) r
    → Tells (NamesHome x f) r
names_home x f t =
    told
    (λ p k e.
    let there : home_at + word_at x (frames_at + f) - 1 ≡ home_at + k = omega arith in
    let own : f + 1 ≡ 1 + f = omega arith in
    rw (there, own) at (p (λ z. omega arith)))
    (λ p ne. first (word_at x (frames_at + f)) ne (λ k e. p k e))
    t
  where
    first : (w : ℕ) → (w ≡ 0 → ⊥) → ((k : ℕ) → w ≡ 1 + k → word_at x (home_at + k) ≡ 1 + f) → word_at x (home_at + w - 1) ≡ f + 1
    first w ne p =
        let there : home_at + w - 1 ≡ home_at + (w - 1) = omega arith in
        rw there (p (w - 1) (omega arith) ∙ omega arith)

-- both ways, by the layout
module _ (x held : List ℕ) (frames pages : ℕ) (h : Holds x frames held) where
  -- number by number
  homes_of : ((i : ℕ) → i < pages → word_at x (home_at + i) ≡ get_or held (1 + i) 0) → (i : ℕ) → i < pages → HomeNames frames x i
  homes_of same i b f e = h.named (1 + i) f (sym (same i b) ∙ e)

  held_of : BothWays x frames pages → (i : ℕ) → i < pages → word_at x (home_at + i) ≡ get_or held (1 + i) 0
  held_of w i b = by (get_or held (1 + i) 0) refl (word_at x (home_at + i)) refl
    where
      by : (a : ℕ) → get_or held (1 + i) 0 ≡ a → (z : ℕ) → word_at x (home_at + i) ≡ z → z ≡ a
      by zero p zero q = refl
      by zero p (suc f) q =
          let named = w.homes i b f (q ∙ omega arith) in
          absurd (h.found f named.0 (rw named.1 p))
      by (suc f) p z q =
          let named = h.named (1 + i) f (p ∙ omega arith) in
          sym q ∙ w.names f named.0 i named.1 ∙ omega arith

  pub late_told : {r : ℕ} → Tells (((f : ℕ) → f < frames → NamesHome x f) × ((i : ℕ) → i < pages → Kept x held frames i)) r
      → Tells (Late x frames pages) r
  late_told t =
      told
      (λ p. record {
        ways = record { names = p.0; homes = homes_of (λ i b. (p.1 i b).home) };
        mapped = λ i b. (p.1 i b).mapped;
        sign = λ i b. (p.1 i b).sign;
      })
      (λ w. (w.ways.names, λ i b. record { mapped = w.mapped i b; home = held_of w.ways i b; sign = w.sign i b }))
      t
