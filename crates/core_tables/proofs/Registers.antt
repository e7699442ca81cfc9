-- The saved registers: what stands in them at each number, how many there are, and the same where one context's changed.
--
use mathlib.Core.Path.{◌≡◌, refl, sym, ap, ◌∙◌}
use mathlib.Core.List.{List, [], ◌∷◌, ◌++◌}
use Prim.Native.Nat.{ℕ, zero, suc, ◌+◌, ◌-◌, ◌*◌, ◌≤◌, ◌<◌}
use native.Mathlib.Nat.{zero-add, suc-add, add_comm}
use native.Mathlib.Omega.{arith}
use lib.ListN.{length, get_or, set, take, drop, replicate, length-append, length-replicate, get_or-replicate, get_or-append}
use lib.ListN.{drop_of_length-le, length-drop, take-append-drop}
use lib.Seq.{take-nil, length-take-le, set-append_left, get_or-append-add, drop-drop}
use Rattle.rules.specs.Bytes.{overlay}
use Rattle.rules.specs.Sizes.{max_contexts}
use Rattle.rules.specs.Records.{zero_registers}
use Rattle.rules.proofs.Parts.{take_overlay_before, drop_overlay_past, overlay_same}
use Rattle.rules.specs.declared.Registers.{Registers}
use Rattle.core_tables.specs.Image.{registers_in, saved_in, saved_words}

length_registers : (k n : ℕ) (y : List ℕ) → length (registers_in k n y) ≡ n
unfolding registers_in
length_registers k zero y = refl
length_registers k (suc n) y = ap suc (length_registers (8 + k) n y)

get_d_registers : (k n i : ℕ) (y : List ℕ) (z : Registers) → i < n
    → (get_or (registers_in k n y) i z).words ≡ take 8 (drop (k + 8 * i) y)
unfolding registers_in
get_d_registers k zero i y z h = absurd (omega arith)
get_d_registers k (suc n) zero y z h = let e : k + 8 * 0 ≡ k = omega arith in rw e
get_d_registers k (suc n) (suc i) y z h =
    let e : k + 8 * suc i ≡ 8 + k + 8 * i = omega arith in
    rw e (get_d_registers (8 + k) n i y z (omega arith))

-- there are as many as the type says
pub length_saved : (n : ℕ) (y : List ℕ) → n ≤ max_contexts → length (saved_in n y) ≡ max_contexts
unfolding saved_in
length_saved n y h =
    rw (length-append, length_registers 0 n y, length-replicate (max_contexts - n) zero_registers) (omega arith)

pub saved_there : (n i : ℕ) (y : List ℕ) → i < n
    → (get_or (saved_in n y) i zero_registers).words ≡ take 8 (drop (8 * i) y)
unfolding saved_in
saved_there n i y h =
    ap (λ (r : Registers). r.words)
    (get_or-append (registers_in 0 n y) (replicate (max_contexts - n) zero_registers) zero_registers i (rw (length_registers 0 n y) h))
    ∙ get_d_registers 0 n i y zero_registers h
    ∙ rw zero-add

-- eight words each
pub saved_eight : (n i : ℕ) (y : List ℕ) → length y ≡ 8 * n → i < n → length (get_or (saved_in n y) i zero_registers).words ≡ 8
saved_eight n i y l h =
    let left : length (drop (8 * i) y) ≡ length y - 8 * i = length-drop (8 * i) y in
    ap length (saved_there n i y h) ∙ length-take-le 8 (drop (8 * i) y) (omega arith)

-- a part that ends before what is laid over
take_drop : (p n : ℕ) (l : List ℕ) → take p (drop n l) ≡ drop n (take (n + p) l)
take_drop p zero l = rw zero-add
take_drop p (suc n) [] = rw (take-nil, take-nil)
take_drop p (suc n) (x ∷ xs) = rw (suc-add n p) (take_drop p n xs)

-- eight words laid over
module _ (y new : List ℕ) (eight : length new ≡ 8) where
  registers_past : (k n j : ℕ) → j + 8 ≤ length y → j + 8 ≤ k → registers_in k n (overlay j new y) ≡ registers_in k n y
  unfolding registers_in
  registers_past k zero j l h = refl
  registers_past k (suc n) j l h =
      rw (drop_overlay_past j new y (omega arith) k (omega arith), registers_past (8 + k) n j l (omega arith))

  registers_put : (k n i : ℕ) → i < n → k + 8 * i + 8 ≤ length y
      → registers_in k n (overlay (k + 8 * i) new y) ≡ set (registers_in k n y) i (record { words = new })
  unfolding registers_in
  registers_put k zero i h l = absurd (omega arith)
  registers_put k (suc n) zero h l =
      let e : k + 8 * 0 ≡ k = omega arith in
      let same : take 8 (drop k (overlay k new y)) ≡ new = rw eight at (overlay_same k new y (omega arith)) in
      rw (e, same, registers_past (8 + k) n k (omega arith) (omega arith))
  registers_put k (suc n) (suc i) h l =
      let e : k + 8 * suc i ≡ 8 + k + 8 * i = omega arith in
      let kept : take 8 (drop k (overlay (8 + k + 8 * i) new y)) ≡ take 8 (drop k y) =
      take_drop 8 k (overlay (8 + k + 8 * i) new y)
      ∙ ap (drop k) (take_overlay_before (8 + k + 8 * i) new y (omega arith) (k + 8) (omega arith))
      ∙ sym (take_drop 8 k y) in
      rw (e, kept, registers_put (8 + k) n i (omega arith) (omega arith))

  pub put_saved : (n i : ℕ) → i < n → length y ≡ 8 * n
      → saved_in n (overlay (8 * i) new y) ≡ set (saved_in n y) i (record { words = new })
  unfolding saved_in
  put_saved n i h l =
      let e : 0 + 8 * i ≡ 8 * i = omega arith in
      rw (← e, registers_put 0 n i h (omega arith))
      (sym (set-append_left (registers_in 0 n y) (replicate (max_contexts - n) zero_registers) i (record { words = new })
      (rw (length_registers 0 n y) h)))

-- those past the setup's contexts are zero
pub saved_past : (n i : ℕ) (y : List ℕ) → n ≤ i → i < max_contexts → get_or (saved_in n y) i zero_registers ≡ zero_registers
unfolding saved_in
saved_past n i y l h =
    let e : length (registers_in 0 n y) + (i - n) ≡ i = rw (length_registers 0 n y) (omega arith) in
    ap (λ (j : ℕ). get_or (registers_in 0 n y ++ replicate (max_contexts - n) zero_registers) j zero_registers) (sym e)
    ∙ get_or-append-add (registers_in 0 n y) (replicate (max_contexts - n) zero_registers) (i - n) zero_registers
    ∙ get_or-replicate (max_contexts - n) (i - n) zero_registers zero_registers (omega arith)

-- the lent words are those of the saved registers that they hold
words_back : (k n : ℕ) (y : List ℕ) (rest : List Registers) → length y ≡ k + 8 * n
    → saved_words n (registers_in k n y ++ rest) ≡ drop k y
unfolding registers_in saved_words
words_back k zero y rest l = sym (drop_of_length-le y {i = k} (omega arith))
words_back k (suc n) y rest l =
    ap (λ (m : List ℕ). take 8 (drop k y) ++ m)
    (words_back (8 + k) n y rest (omega arith) ∙ ap (λ (j : ℕ). drop j y) (add_comm 8 k) ∙ sym (drop-drop 8 k y))
    ∙ take-append-drop 8 (drop k y)

pub saved_image : (n : ℕ) (y : List ℕ) → length y ≡ 8 * n → y ≡ saved_words n (saved_in n y)
unfolding saved_in
saved_image n y l = sym (words_back 0 n y (replicate (max_contexts - n) zero_registers) (omega arith))
