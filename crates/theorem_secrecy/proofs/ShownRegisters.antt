-- What a trap shows is the same in two runs where the registers that may be seen are.
use mathlib.Core.Path.{◌≡◌, refl, ap, ap₂, ◌∙◌}
use mathlib.Core.List.{List, ◌∷◌}
use mathlib.Core.Bool.{Bool, true, false, cond}
use Prim.Native.Nat.{ℕ, zero, suc, ◌+◌, ◌*◌, ◌≤◌, ◌<◌}
use native.Mathlib.Omega.{arith}
use lib.ListN.{drop}
use lib.Seq.{drop-drop}
use Rattle.rules.specs.Bytes.{number, words_in, map_from}
use Rattle.rules.specs.Events.{shows, shown}
use Rattle.rules.specs.declared.TrapKind.{TrapKind}
use Rattle.rules.specs.declared.TrapKind.TheVariants.{Interrupt, Call}
use Rattle.theorem_secrecy.specs.Secrets.{register_of, may_be_seen}

-- a trap shows only what may be seen
shows_only : (k : TrapKind) (mask i : ℕ) → shows k mask i ≡ true → may_be_seen k mask i ≡ true
unfolding shows
shows_only Interrupt mask i e = e
shows_only Call mask i e = e

module _ (k : TrapKind) (mask : ℕ) (x y : List ℕ)
    (same : (i : ℕ) → i < 8 → may_be_seen k mask i ≡ true → register_of i x ≡ register_of i y) where
  next : (j : ℕ) (l : List ℕ) → drop 8 (drop (j * 8) l) ≡ drop (suc j * 8) l
  next j l = let e : j * 8 + 8 ≡ suc j * 8 = omega arith in drop-drop 8 (j * 8) l ∙ ap (λ (n : ℕ). drop n l) e

  word_shown : (j : ℕ) → j < 8 → (b : Bool) → shows k mask j ≡ b → cond b (number (register_of j x)) 0 ≡ cond b (number (register_of j y)) 0
  word_shown j h true e = ap number (same j h (shows_only k mask j e))
  word_shown j h false e = refl

  words_shown : (n j : ℕ) → n + j ≤ 8 → map_from (λ i w. cond (shows k mask i) w 0) j (words_in n (drop (j * 8) x))
      ≡ map_from (λ i w. cond (shows k mask i) w 0) j (words_in n (drop (j * 8) y))
  unfolding map_from words_in
  words_shown zero j h = refl
  words_shown (suc n) j h =
      ap₂ ◌∷◌ (word_shown j (omega arith) (shows k mask j) refl) (rw (next j x, next j y) (words_shown n (suc j) (omega arith)))

  pub shown_same : shown k mask (words_in 8 x) ≡ shown k mask (words_in 8 y)
  unfolding shown
  shown_same = words_shown 8 0 (omega arith)
