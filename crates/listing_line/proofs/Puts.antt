-- Texts put one behind the other are one text, and hex byte by byte.
use mathlib.Core.Path.{◌≡◌, refl, sym, ap, ap₂, ◌∙◌}
use mathlib.Core.List.{List, [], ◌∷◌, ◌++◌, append_assoc}
use Prim.Native.Nat.{ℕ, suc, ◌+◌, ◌*◌, ◌/◌, ◌%◌, ◌<◌}
use native.Mathlib.Nat.{add-zero}
use native.Mathlib.Numerals.{add-one}
use native.Mathlib.Omega.{arith}
use lib.ListN.{length, take, get_or, set, length-append}
use lib.Seq.{sets, take-suc}
use Rattle.io.specs.Digits.{hex_digit_ascii}
use Rattle.rules.specs.Bytes.{overlay}
use Rattle.rules.specs.declared.Answer.{Answer}
use Rattle.listing_line.specs.Lines.{dash, hex, last_field, field_then, counts_then, Put}
use Rattle.listing_line.specs.Writing.{Writes}
use Rattle.listing_line.specs.declared.Cursor.{Cursor}

sets_append : (a b l : List ℕ) (i : ℕ) → sets (sets l i a) (i + length a) b ≡ sets l i (a ++ b)
sets_append [] b l i = ap (λ (k : ℕ). sets l k b) (add-zero i)
sets_append (x ∷ a) b l i =
    let e : i + suc (length a) ≡ suc i + length a = omega arith in
    ap (λ (k : ℕ). sets (sets (set l i x) (suc i) a) k b) e ∙ sets_append a b (set l i x) (suc i)

module _ {at r q : ℕ} {a b before between after : List ℕ} where
  pub put_then : Put at a before r between → Put r b between q after → Put at (a ++ b) before q after
  unfolding overlay
  put_then p n =
      record {
        ends = omega (arith, p.ends, n.ends, length-append a b);
        bytes =
            n.bytes
            ∙ ap₂ (λ (x : List ℕ) (k : ℕ). sets x k b) p.bytes p.ends
            ∙ sets_append a b before at;
      }

-- the same of what is written
module _ {m n : ℕ} {before between after : Cursor} where
  pub then : {a b : List ℕ} → Writes a m before between → Writes b n between after → Writes (a ++ b) (m + n) before after
  then p q =
      record {
        put = put_then p.put q.put;
        within = omega arith;
        long = q.long ∙ p.long;
        same_reference = q.same_reference ∙ p.same_reference;
      }

  pub field_then_holds : (f : List ℕ) {rest : List ℕ} → Writes (field_then f []) m before between → Writes rest n between after
      → Writes (field_then f rest) (m + n) before after
  field_then_holds f p q = rw append_assoc at (then p q)

  pub counts_then_holds : (x : Answer) {rest : List ℕ} → Writes (counts_then x []) m before between → Writes rest n between after
      → Writes (counts_then x rest) (m + n) before after
  unfolding counts_then
  counts_then_holds x p q = simp append_assoc at (then p q)

-- once the reference is given back, its owner has what was left behind it
module _ {text after : List ℕ} {n : ℕ} {start end : Cursor} where
  pub given_back : Writes text n start end → (start.out.ghost_name ≡ end.out.ghost_name → after ≡ end.out.now)
      → Put start.at text start.out.now end.at after
  given_back w back = rw (back (sym w.same_reference)) w.put

-- one byte, and two
pub put_one : (at x : ℕ) (before : List ℕ) → Put at (x ∷ []) before (at + 1) (set before at x)
unfolding overlay
put_one at x before = record { ends = refl; bytes = refl }

pub put_two : (at x y : ℕ) (before : List ℕ) → Put at (x ∷ y ∷ []) before (at + 2) (set (set before at x) (at + 1) y)
unfolding overlay
put_two at x y before =
    record { ends = refl; bytes = ap (λ (k : ℕ). set (set before at x) k y) (add-one at) }

-- hex
hex_append : (a b : List ℕ) → hex (a ++ b) ≡ hex a ++ hex b
unfolding hex
hex_append [] b = refl
hex_append (x ∷ a) b = ap (λ (l : List ℕ). hex_digit_ascii (x / 16) ∷ hex_digit_ascii (x % 16) ∷ l) (hex_append a b)

-- two digits for each byte
pub length_hex : (a : List ℕ) → length (hex a) ≡ 2 * length a
unfolding hex
length_hex [] = refl
length_hex (x ∷ a) = omega (arith, length_hex a)

module _ (bytes : List ℕ) (i : ℕ) {start before after : Cursor} where
  -- one byte more
  pub hex_turn : {x y : ℕ} → i < length bytes → Writes (hex (take i bytes)) (2 * i) start before
      → x ≡ hex_digit_ascii (get_or bytes i 0 / 16) → y ≡ hex_digit_ascii (get_or bytes i 0 % 16)
      → Writes (x ∷ y ∷ []) 2 before after
      → Writes (hex (take (i + 1) bytes)) (2 * (i + 1)) start after
  unfolding hex
  hex_turn {x} {y} h so_far ex ey pair =
      let one : hex (take (i + 1) bytes) ≡ hex (take i bytes) ++ (x ∷ y ∷ []) =
      ap (λ (k : ℕ). hex (take k bytes)) (add-one i)
      ∙ ap hex (take-suc bytes i 0 h)
      ∙ hex_append (take i bytes) (get_or bytes i 0 ∷ [])
      ∙ ap₂ (λ (u v : ℕ). hex (take i bytes) ++ (u ∷ v ∷ [])) (sym ex) (sym ey) in
      let room : 2 * i + 2 ≡ 2 * (i + 1) = omega arith in
      rw (one, ← room) (then so_far pair)

-- the last field
pub last_none : (shown : List ℕ) → length shown ≡ 0 → dash ≡ last_field shown
last_none [] e = refl
last_none (x ∷ xs) e = absurd (omega arith)

pub last_some : (shown : List ℕ) → (length shown ≡ 0 → ⊥) → hex shown ≡ last_field shown
last_some [] n = absurd (n refl)
last_some (x ∷ xs) n = refl
