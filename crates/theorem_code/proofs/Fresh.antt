-- The words that a start leaves, all zero, are the image of the fresh state.
use Rattle.std.proofs.Common.{◌≡◌, ℕ, zero, suc, ◌+◌, ◌*◌, ◌≤◌, T, length, replicate, sym, refl, ap, ◌∙◌, arith, eq-eqb}
use lib.ListN.{length-replicate, replicate-append-replicate}
use Rattle.rules.specs.Bytes.{zeros}
use Rattle.rules.specs.Sizes.{max_contexts}
use Rattle.rules.specs.Records.{fresh_tables, fresh_state, zero_registers}
use Rattle.rules.proofs.Facts.{all, passed}
use Rattle.rules.proofs.Lists.{get_d_fresh}
use Rattle.rules.proofs.Parts.{length_zeros}
use Rattle.rules.specs.declared.Setup.{Setup}
use Rattle.rules.specs.declared.State.{State}
use Rattle.rules.specs.declared.Registers.{Registers}
use Rattle.core_tables.specs.Image.{image_words, tables_in, state_in, image_of, saved_words}
use Rattle.core_tables.proofs.Images.{canonical_image, tell_canonical}
use Rattle.core_tables.proofs.Zeros.{get_d_zeros, zero_tables, fresh_image, fresh_canonical}
use Rattle.core_tables.proofs.Encoding.{Eights, saved_back}
use Rattle.core_answer.specs.Handed.{readable}

-- the words of a state are readable, and hold it
pub record Imaged (s : Setup) (x : State) : Type 0 where
  pub reads : T (readable s (image_of s.pages x.tables) (saved_words s.contexts x.saved))
  pub back : state_in s (image_of s.pages x.tables) (saved_words s.contexts x.saved) ≡ x

pub fresh_tables_holds : (v : ℕ) → zeros image_words ≡ image_of v fresh_tables
fresh_tables_holds v =
    canonical_image v (zeros image_words) (length_zeros image_words) (fresh_canonical v (zeros image_words) refl)
    ∙ ap (image_of v) (fresh_image v (zeros image_words) refl)

saved_zeros : (n m : ℕ) → n ≤ m → saved_words n (replicate m zero_registers) ≡ zeros (8 * n)
unfolding saved_words zeros
saved_zeros zero m h = refl
saved_zeros (suc n) zero h = absurd (omega arith)
saved_zeros (suc n) (suc m) h =
    let more : 8 * suc n ≡ 8 + 8 * n = omega arith in
    rw (saved_zeros n m (omega arith), more) (replicate-append-replicate 8 (8 * n) 0)

pub fresh_saved : (n : ℕ) → n ≤ max_contexts → zeros (8 * n) ≡ saved_words n fresh_state.saved
fresh_saved n h = sym (saved_zeros n max_contexts h)

eights : Eights fresh_state.saved
eights i = ap (λ (r : Registers). length r.words) (get_d_fresh max_contexts i zero_registers)

-- words that are all zero hold fresh tables, however many they are
pub zeros_hold : (v n : ℕ) → tables_in v (zeros n) ≡ fresh_tables
zeros_hold v n = zero_tables v (zeros n) (get_d_zeros n)

pub fresh_imaged : (s : Setup) → s.contexts ≤ max_contexts → Imaged s fresh_state
unfolding readable
fresh_imaged s few =
    let t = fresh_tables_holds s.pages in
    let y = fresh_saved s.contexts few in
    let long = length_zeros image_words in
    let tables = ap (tables_in s.pages) (sym t) ∙ zeros_hold s.pages image_words in
    let saved =
    saved_back s.contexts fresh_state.saved eights (length-replicate max_contexts zero_registers) few
    (λ i past inside. get_d_fresh max_contexts i zero_registers) in
    record {
      reads =
          rw (← t, ← y)
          (all _ (
            passed _ (eq-eqb _ _ long),
            (
              passed _ (eq-eqb _ _ (length_zeros (8 * s.contexts))),
              (tell_canonical s.pages (zeros image_words) long (fresh_canonical s.pages (zeros image_words) refl), tt),
            ),
          ));
      back = λ i. record { tables = tables i; saved = saved i };
    }
