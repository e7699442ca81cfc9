-- Canonical words are the image of the tables that they hold, and the test of that tells it.
use mathlib.Core.Path.{◌≡◌, refl, sym, ap, ◌∙◌}
use mathlib.Core.Bool.{Bool, true, false, ◌&&◌}
use mathlib.Core.List.{List, [], ◌∷◌}
use Prim.Native.Nat.{ℕ}
use native.Mathlib.Omega.{arith}
use lib.Dec.{T, eqb}
use borrow.Author.Tests.{eqb-true, eq-eqb}
use lib.ListN.{length, get_or, drop, drop_of_length-le}
use lib.Seq.{drop-cons}
use Rattle.rules.specs.Bytes.{same_bytes}
use Rattle.rules.specs.Sizes.{max_domains, max_contexts, max_frames}
use Rattle.rules.specs.declared.Tables.{Tables}
use Rattle.rules.specs.declared.DomainRecord.{DomainRecord}
use Rattle.rules.specs.declared.ContextRecord.{ContextRecord}
use Rattle.rules.specs.declared.FrameRecord.{FrameRecord}
use Rattle.rules.specs.declared.PageRecord.{PageRecord}
use Rattle.core_tables.specs.Words.{life_word, activity_word, names_word, mapping_word, home_word, sign_word}
use Rattle.core_tables.specs.Image.{image_words, domains_at, contexts_at, frames_at, mapped_at, home_at, sign_at, used_at}
use Rattle.core_tables.specs.Image.{max_entries, domain_at, context_at, frame_at, page_at, tables_in, image_of, canonical}
use Rattle.core_tables.specs.Image.{Canonical}
use Rattle.core_tables.specs.Put.{Put}
use Rattle.core_tables.proofs.Sections.{words_of, words_back}

module _ (v : ℕ) (x : List ℕ) (long : length x ≡ image_words) where
  last : drop used_at x ≡ get_or x used_at 0 ∷ []
  last =
      drop-cons x used_at 0 (omega arith)
      ∙ ap (λ (l : List ℕ). get_or x used_at 0 ∷ l) (drop_of_length-le x {i = image_words} (omega arith))

  pub canonical_image : Canonical v x → x ≡ image_of v (tables_in v x)
  unfolding tables_in image_of
  canonical_image c =
      sym
      (rw (
        ← last,
        words_of (λ (r : PageRecord). sign_word r.place) (page_at x) x sign_at 0 max_entries (omega arith)
            (λ i a b. c.sign i (omega arith)),
        words_of (λ (r : PageRecord). home_word r.place) (page_at x) x home_at 0 max_entries (omega arith)
            (λ i a b. c.home i (omega arith)),
        words_of (λ (r : PageRecord). mapping_word r.mapping) (page_at x) x mapped_at 0 max_entries (omega arith)
            (λ i a b. c.mapped i (omega arith)),
        words_of (λ (r : FrameRecord). names_word v r.names) (frame_at v x) x frames_at 0 max_frames (omega arith)
            (λ i a b. c.frames i (omega arith)),
        words_of (λ (r : ContextRecord). activity_word r.activity) (context_at x) x contexts_at 0 max_contexts (omega arith)
            (λ i a b. c.contexts i (omega arith)),
        words_of (λ (r : DomainRecord). life_word r.life) (domain_at x) x domains_at 0 max_domains (omega arith)
            (λ i a b. c.domains i (omega arith)),
      ))

  pub image_canonical : x ≡ image_of v (tables_in v x) → Canonical v x
  unfolding tables_in image_of
  image_canonical e =
      let d = words_back (λ (r : DomainRecord). life_word r.life) (domain_at x) x _ domains_at 0 max_domains (omega arith) (sym e) in
      let c = words_back (λ (r : ContextRecord). activity_word r.activity) (context_at x) x _ contexts_at 0 max_contexts (omega arith)
      d.1 in
      let f = words_back (λ (r : FrameRecord). names_word v r.names) (frame_at v x) x _ frames_at 0 max_frames (omega arith) c.1 in
      let m = words_back (λ (r : PageRecord). mapping_word r.mapping) (page_at x) x _ mapped_at 0 max_entries (omega arith) f.1 in
      let h = words_back (λ (r : PageRecord). home_word r.place) (page_at x) x _ home_at 0 max_entries (omega arith) m.1 in
      let s = words_back (λ (r : PageRecord). sign_word r.place) (page_at x) x _ sign_at 0 max_entries (omega arith) h.1 in
      record {
        domains = λ i b. d.0 i (omega arith) (omega arith);
        contexts = λ i b. c.0 i (omega arith) (omega arith);
        frames = λ i b. f.0 i (omega arith) (omega arith);
        mapped = λ i b. m.0 i (omega arith) (omega arith);
        home = λ i b. h.0 i (omega arith) (omega arith);
        sign = λ i b. s.0 i (omega arith) (omega arith);
      }

-- after a change of a canonical image the words are the image of the changed tables
pub put_image : {v : ℕ} {x y : List ℕ} {t : Tables} → length y ≡ image_words → Canonical v x → Put v x y t → y ≡ image_of v t
put_image {v} {x} {y} {t} long c p = canonical_image v y long (p.canonical c) ∙ ap (image_of v) p.tables

-- tables have one canonical image
pub one_image : (v : ℕ) (x y : List ℕ) → length x ≡ image_words → length y ≡ image_words → Canonical v x → Canonical v y
    → tables_in v x ≡ tables_in v y → x ≡ y
one_image v x y lx ly cx cy e = canonical_image v x lx cx ∙ ap (image_of v) e ∙ sym (canonical_image v y ly cy)

-- the test
same : (x y : List ℕ) → T (same_bytes x y) → x ≡ y
unfolding same_bytes
same [] [] t = refl
same [] (b ∷ y) t = absurd t
same (a ∷ x) [] t = absurd t
same (a ∷ x) (b ∷ y) t = by (eqb a b) refl (same x y) t
  where
    by : (p : Bool) → eqb a b ≡ p → (T (same_bytes x y) → x ≡ y) → T (p && same_bytes x y) → a ∷ x ≡ b ∷ y
    by true e more t = rw (eqb-true a b e, more t)
    by false e more t = absurd t

same_self : (x : List ℕ) → T (same_bytes x x)
unfolding same_bytes
same_self [] = tt
same_self (a ∷ x) = rw (eq-eqb a a refl) (same_self x)

module _ (v : ℕ) (x : List ℕ) (long : length x ≡ image_words) where
  pub told_canonical : T (canonical v x) → Canonical v x
  unfolding canonical
  told_canonical t = image_canonical v x long (same x (image_of v (tables_in v x)) t)

  pub tell_canonical : Canonical v x → T (canonical v x)
  unfolding canonical
  tell_canonical c = rw (← canonical_image v x long c) (same_self x)
