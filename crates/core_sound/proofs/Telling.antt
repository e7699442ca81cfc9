-- Laws of what a loop that gathers with | tells.
use mathlib.Core.Path.{◌≡◌, refl, subst, ◌∙◌}
use Prim.Native.Nat.{ℕ, ◌+◌, ◌-◌, ◌*◌, ◌≤◌, ◌<◌}
use native.Mathlib.Omega.{arith}
use native.Mathlib.Decide.{dec_lt}
use lib.Bits.{bit_or, bit_xor, or_add_and, xor_add_and, xor_self, and_le_l, and_le_r}
use mathlib.Core.List.{List}
use lib.ListN.{length, get_or, take, drop, length-take, length-drop}
use lib.Seq.{get_or-drop}
use Rattle.std.proofs.lemmas.List.{get_or-take}
use Rattle.rules.specs.Sizes.{max_domains, max_contexts, max_frames}
use Rattle.rules.specs.declared.Setup.{Setup}
use Rattle.core_tables.specs.Image.{word_at, domains_at, contexts_at, frames_at, mapped_at, home_at, sign_at, used_at, max_entries}
use Rattle.core_sound.specs.Told.{Tells, Each, Section, Bare, Untouched, Early, Kept, Late, Right}

or_first : (a b : ℕ) → bit_or a b ≡ 0 → a ≡ 0
or_first a b e = omega (arith, or_add_and a b, and_le_r a b)

or_second : (a b : ℕ) → bit_or a b ≡ 0 → b ≡ 0
or_second a b e = omega (arith, or_add_and a b, and_le_l a b)

or_none : (a b : ℕ) → a ≡ 0 → b ≡ 0 → bit_or a b ≡ 0
or_none a b p q = omega (arith, or_add_and a b)

-- two at once
pub both : {P Q : Type 0} {a b : ℕ} → Tells P a → Tells Q b → Tells (P × Q) (bit_or a b)
both {P} {Q} {a} {b} p q =
    record {
      holds = λ e. (p.holds (or_first a b e), q.holds (or_second a b e));
      zero = λ h. or_none a b (p.zero h.0) (q.zero h.1);
    }

-- in other words
pub told : {P Q : Type 0} {r : ℕ} → (P → Q) → (Q → P) → Tells P r → Tells Q r
told f g t = record { holds = λ e. f (t.holds e); zero = λ q. t.zero (g q) }

-- that two numbers are the same
pub xor_tells : (a b : ℕ) → Tells (a ≡ b) (bit_xor a b)
xor_tells a b =
    record {
      holds = λ e. omega (arith, xor_add_and a b, and_le_l a b, and_le_r a b);
      zero = λ e. rw e (xor_self b);
    }

pub excess_tells : (w top : ℕ) {r : ℕ} → r ≡ w - top → Tells (w ≤ top) r
excess_tells w top e = record { holds = λ q. omega arith; zero = λ q. omega arith }

-- a loop from a on
module _ (P : ℕ → Type 0) (a : ℕ) where
  pub each_none : Tells (Each P a a) 0
  each_none = record { holds = λ e k l h. absurd (omega arith); zero = λ h. refl }

  pub each_more : {any w : ℕ} (i : ℕ) → a ≤ i → Tells (Each P a i) any → Tells (P i) w → Tells (Each P a (i + 1)) (bit_or any w)
  each_more i start old new =
      told (λ p k l h. by p k l h (dec_lt k i)) (λ p. ((λ k l h. p k l (omega arith)), p i start (omega arith))) (both old new)
    where
      by : Each P a i × P i → (k : ℕ) → a ≤ k → k < i + 1 → Dec (k < i) → P k
      by p k l h (yes q) = p.0 k l q
      by p k l h (no q) = let same : k ≡ i = omega arith in rw same p.1

-- a loop over a part's words: a turn, and the end
module _ (P : ℕ → Type 0) (x : List ℕ) (a n i : ℕ) {any : ℕ} where
  pub word_more : {w : ℕ} → i < length (take n (drop a x)) → Tells (Each (λ k. P (word_at x k)) a (a + i)) any
      → Tells (P (get_or (take n (drop a x)) i 0)) w → Tells (Each (λ k. P (word_at x k)) a (a + (i + 1))) (bit_or any w)
  word_more {w} inside old new =
      let next : a + (i + 1) ≡ a + i + 1 = omega arith in
      let within : i < n = omega (arith, length-take n (drop a x)) in
      let there : get_or (take n (drop a x)) i 0 ≡ word_at x (a + i) =
      get_or-take n (drop a x) i 0 within ∙ get_or-drop a x i 0 in
      rw next
      (each_more (λ k. P (word_at x k)) a (a + i) (omega arith) old (subst (λ v. Tells (P v) w) there new))

  pub words_all : {e : ℕ} → a + n ≡ e → e ≤ length x → i ≤ length (take n (drop a x)) → length (take n (drop a x)) ≤ i
      → Tells (Each (λ k. P (word_at x k)) a (a + i)) any → Tells (Each (λ k. P (word_at x k)) a e) any
  words_all {e} end fits low high t =
      let all : a + i ≡ e = omega (arith, length-take n (drop a x), length-drop a x) in
      rw all at t

-- a run of n from a on, counted from 0
pub counted : {P : ℕ → Type 0} {a n e r : ℕ} → e ≡ a + n → Tells (Each P a e) r → Tells ((i : ℕ) → i < n → P (a + i)) r
counted {P} {a} {n} {e} q t =
    told (λ p i h. p (a + i) (omega arith) (omega arith))
    (λ p k l h. let same : a + (k - a) ≡ k = omega arith in rw same at (p (k - a) (omega arith)))
    t

pub counted_zero : {P : ℕ → Type 0} {n e r : ℕ} → e ≡ n → Tells (Each P 0 e) r → Tells ((i : ℕ) → i < n → P i) r
counted_zero {P} {n} {e} q t = told (λ p i h. p i (omega arith) (omega arith)) (λ p k l h. p k (omega arith)) t

-- a table
module _ (x : List ℕ) (start : ℕ) where
  pub section_tells : (count room top : ℕ) {a b : ℕ} → count ≤ room
      → Tells (Each (λ k. word_at x k ≤ top) start (start + count)) a
      → Tells (Each (λ k. word_at x k ≤ 0) (start + count) (start + room)) b
      → Tells (Section x start count room top) (bit_or a b)
  section_tells count room top fits p q =
      told
      (λ t. record {
        below = λ i h. t.0 (start + i) (omega arith) (omega arith);
        past = λ i l h. omega (arith, t.1 (start + i) (omega arith) (omega arith));
      })
      (λ s. (
        (λ k l h. let same : start + (k - start) ≡ k = omega arith in rw same at (s.below (k - start) (omega arith))),
        (λ k l h.
            let same : start + (k - start) ≡ k = omega arith in
            let none : word_at x k ≡ 0 = rw same at (s.past (k - start) (omega arith) (omega arith)) in
            omega arith),
      ))
      (both p q)

-- a page as freshly started, and so many of a domain
pub untouched_tells : (x : List ℕ) (i : ℕ)
    → Tells (Untouched x i) (bit_or (bit_or (word_at x (mapped_at + i)) (word_at x (home_at + i))) (word_at x (sign_at + i)))
untouched_tells x i =
    told (λ p. record { mapped = p.0.0; home = p.0.1; sign = p.1 }) (λ u. ((u.mapped, u.home), u.sign))
    (both (both (is_zero _) (is_zero _)) (is_zero _))
  where
    is_zero : (w : ℕ) → Tells (w ≡ 0) w
    is_zero w = record { holds = λ e. e; zero = λ e. e }

pub bare_tells : (x : List ℕ) (v d : ℕ) {a b : ℕ}
    → Tells ((i : ℕ) → i < max_contexts → 3 * d < word_at x (contexts_at + i) → word_at x (contexts_at + i) ≤ 3 * d + 3 → ⊥) a
    → Tells (Each (Untouched x) (d * v) (d * v + v)) b → Tells (Bare v x d) (bit_or a b)
bare_tells x v d c u =
    told
    (λ p. record {
      contexts = p.0;
      mapped = λ i l. (p.1 i l).mapped;
      home = λ i l. (p.1 i l).home;
      sign = λ i l. (p.1 i l).sign;
    })
    (λ b. (b.contexts, λ i l. record { mapped = b.mapped i l; home = b.home i l; sign = b.sign i l }))
    (both c (counted refl u))

-- one that is right in any case
pub each_free : {P : ℕ → Type 0} {a any : ℕ} (i : ℕ) → P i → Tells (Each P a i) any → Tells (Each P a (i + 1)) any
each_free {P} {a} i here old = told (λ p k l h. by p k l h (dec_lt k i)) (λ p k l h. p k l (omega arith)) old
  where
    by : Each P a i → (k : ℕ) → a ≤ k → k < i + 1 → Dec (k < i) → P k
    by p k l h (yes q) = p k l q
    by p k l h (no q) = let same : k ≡ i = omega arith in rw same here

-- the tables
pub early_tells : (s : Setup) (x : List ℕ) {a b c d e : ℕ} → Tells (Section x domains_at s.domains max_domains 2) a
    → Tells (Section x contexts_at s.contexts max_contexts (3 * s.domains)) b
    → Tells (Section x frames_at s.frames max_frames (s.domains * s.pages)) c
    → Tells (Each (Untouched x) (s.domains * s.pages) max_entries) d → Tells (word_at x used_at ≤ s.signatures) e
    → Tells (Early s x) (bit_or (bit_or (bit_or (bit_or a b) c) d) e)
early_tells s x a b c d e =
    told
    (λ p. record {
      domains = p.0.0.0.0;
      contexts = p.0.0.0.1;
      frames = p.0.0.1;
      past = p.0.1;
      used = p.1;
    })
    (λ r. ((((r.domains, r.contexts), r.frames), r.past), r.used))
    (both (both (both (both a b) c) d) e)

-- a page whose words are in range, and whose home is held's
pub kept_tells : (x held : List ℕ) (frames i : ℕ) {m s : ℕ} → m ≡ word_at x (mapped_at + i) - frames
    → s ≡ word_at x (sign_at + i) - word_at x used_at
    → Tells (Kept x held frames i) (bit_or (bit_or m (bit_xor (word_at x (home_at + i)) (get_or held (1 + i) 0))) s)
kept_tells x held frames i em es =
    told (λ p. record { mapped = p.0.0; home = p.0.1; sign = p.1 }) (λ k. ((k.mapped, k.home), k.sign))
    (both (both (excess_tells _ _ em) (xor_tells _ _)) (excess_tells _ _ es))

-- the parts together, and apart
pub right_of : (s : Setup) (x : List ℕ) → Early s x → Late x s.frames (s.domains * s.pages)
    → ((d : ℕ) → d < s.domains → word_at x (domains_at + d) ≡ 0 → Bare s.pages x d) → Right s x
right_of s x e l b =
    record {
      ranged = record {
        domains = e.domains;
        contexts = e.contexts;
        frames = e.frames;
        mapped = record { below = l.mapped; past = λ i a h. (e.past i a h).mapped };
        home = λ i a h. (e.past i a h).home;
        sign = record { below = l.sign; past = λ i a h. (e.past i a h).sign };
        used = e.used;
      };
      ways = l.ways;
      empty = b;
    }

pub early_of : (s : Setup) (x : List ℕ) → Right s x → Early s x
early_of s x r =
    record {
      domains = r.ranged.domains;
      contexts = r.ranged.contexts;
      frames = r.ranged.frames;
      past = λ i a h. record { mapped = r.ranged.mapped.past i a h; home = r.ranged.home i a h; sign = r.ranged.sign.past i a h };
      used = r.ranged.used;
    }

pub late_of : (s : Setup) (x : List ℕ) → Right s x → Late x s.frames (s.domains * s.pages)
late_of s x r = record { ways = r.ways; mapped = r.ranged.mapped.below; sign = r.ranged.sign.below }
