-- Laws of the rules' words in bytes, registers shown and registers given, each for one register more.
use mathlib.Core.Path.{◌≡◌, refl, sym, ap, ap₂, ◌∙◌}
use mathlib.Core.List.{List, [], ◌∷◌, ◌++◌, append_assoc, append-nil}
use Prim.Native.Nat.{ℕ, zero, suc, ◌+◌, ◌-◌, ◌*◌, ◌≤◌, ◌<◌}
use native.Mathlib.Nat.{zero-add, add-zero, add_comm, suc-add, add-suc, suc-mul, add-sub_cancel_left}
use native.Mathlib.Omega.{arith}
use native.Mathlib.Numerals.{add-one}
use lib.ListN.{length, get_or, set, take, drop, length-append, length-take, drop_of_length-le}
use lib.Seq.{take-suc, take-suc-set, take_at, drop_at, drop-cons, drop-set-lt, length-take-le, drop-drop, take_all, set-get_or}
use borrow.Rule.Slice.PartMut.{put_mid}
use Rattle.rules.specs.Bytes.{big_endian, number, words_in, bytes_of, map_from, overlay}
use Rattle.rules.proofs.Parts.{overlay_is}
use Rattle.rules.proofs.BigEndian.{length_big_endian}

-- words_in: one word more
pub words_more : (n : ℕ) (bytes : List ℕ)
    → words_in (suc n) bytes ≡ words_in n bytes ++ (number (take 8 (drop (n * 8) bytes)) ∷ [])
unfolding words_in
words_more zero bytes = refl
words_more (suc n) bytes = rw (words_more n (drop 8 bytes), drop-drop, suc-mul, add_comm (n * 8))

-- bytes_of: a list more, and its length
pub bytes_append : (xs ys : List ℕ) → bytes_of (xs ++ ys) ≡ bytes_of xs ++ bytes_of ys
unfolding bytes_of
bytes_append [] ys = refl
bytes_append (x ∷ xs) ys = rw (bytes_append xs ys, append_assoc)

pub length_bytes_of : (xs : List ℕ) → length (bytes_of xs) ≡ length xs * 8
unfolding bytes_of
length_bytes_of [] = refl
length_bytes_of (x ∷ xs) =
    length-append (big_endian 8 x) (bytes_of xs) ∙ ap₂ ◌+◌ (length_big_endian 8 x) (length_bytes_of xs) ∙ omega arith

-- map_from: a list more
pub map_append : {A : Type 0} (f : ℕ → A → A) (k : ℕ) (xs ys : List A)
    → map_from f k (xs ++ ys) ≡ map_from f k xs ++ map_from f (k + length xs) ys
unfolding map_from
map_append f k [] ys = rw add-zero
map_append f k (x ∷ xs) ys = rw (map_append f (suc k) xs ys, add-suc, suc-add)

-- map_from in place: one element more
pub mapped_more : (f : ℕ → ℕ → ℕ) (l : List ℕ) (i : ℕ) {y : ℕ} → i < length l → y ≡ f i (get_or l i 0)
    → take (i + 1) (set l i y) ++ map_from f (i + 1) (drop (i + 1) (set l i y)) ≡ take i l ++ map_from f i (drop i l)
unfolding map_from
mapped_more f l i {y} inside e =
    rw (
      add-one i,
      take-suc-set l i y inside,
      drop-set-lt (suc i) l i y (omega arith),
      drop-cons l i 0 inside,
      e,
      append_assoc,
    )

pub mapped_all : (f : ℕ → ℕ → ℕ) (l : List ℕ) (i : ℕ) → length l ≤ i → take i l ++ map_from f i (drop i l) ≡ l
unfolding map_from
mapped_all f l i all = rw (drop_of_length-le l {i = i} all, take_all i l all, append-nil)

-- bytes that are laid over the front of others, a register at a time: one register more, its bytes come back as a part
module _ (words old : List ℕ) (i : ℕ) (inside : i < length words) where
  abbrev front : List ℕ
  front = bytes_of (take i words)

  length_front : length front ≡ i * 8
  length_front = length_bytes_of (take i words) ∙ ap (λ (n : ℕ). n * 8) (length-take-le i words (omega arith))

  -- the part of the buffer that the register is stored in has room for nothing else
  abbrev part : List ℕ → List ℕ
  part now = take (i * 8 + 8 - i * 8) (drop (i * 8) now)

  no_more : (now : List ℕ) → drop 8 (part now) ≡ []
  no_more now = drop_of_length-le (part now) {i = 8} (simp length-take (omega arith))

  pub give_more : (now new : List ℕ)
      → now ≡ bytes_of (take i words) ++ drop (i * 8) old → new ≡ big_endian 8 (get_or words i 0) ++ drop 8 (part now)
      → put_mid (i * 8) (i * 8 + 8 - i * 8) now new ≡ bytes_of (take (i + 1) words) ++ drop ((i + 1) * 8) old
  unfolding bytes_of
  give_more now new e f =
      rw (
        f,
        no_more now,
        append-nil,
        e,
        add-sub_cancel_left (i * 8) 8,
        take_at front (drop (i * 8) old) (i * 8) length_front,
        drop_at front (drop (i * 8) old) (i * 8) length_front,
        drop-drop 8 (i * 8) old,
        add-one i,
        take-suc words i 0 inside,
        bytes_append,
        append_assoc,
        append_assoc,
        suc-mul,
      )

-- all registers are given
pub give_all : (words old now : List ℕ) (i : ℕ) → i ≡ length words → i * 8 ≤ length old
    → now ≡ bytes_of (take i words) ++ drop (i * 8) old → now ≡ overlay 0 (bytes_of words) old
give_all words old now i all fits e =
    let long : length (bytes_of words) ≡ i * 8 = length_bytes_of words ∙ ap (λ (n : ℕ). n * 8) (sym all) in
    rw (overlay_is 0 (bytes_of words) old (omega arith), long, zero-add)
    (e ∙ ap (λ (l : List ℕ). bytes_of l ++ drop (i * 8) old) (take_all i words (omega arith)))

-- a register stored where it stands changes nothing
pub store_same : (words : List ℕ) (i x : ℕ) → get_or words i 0 ≡ x → set words i x ≡ words
store_same words i x e = rw (← e) (set-get_or words i 0)
