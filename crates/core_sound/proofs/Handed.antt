-- Words that are the image of the tables that they hold are right where each record of these is sound.
use mathlib.Core.Path.{◌≡◌, refl, ap, ◌∙◌}
use mathlib.Core.Bool.{true, false, ◌&&◌}
use mathlib.Core.List.{List}
use Prim.Native.Nat.{ℕ, zero, suc, ◌+◌, ◌*◌, ◌-◌, ◌/◌, ◌%◌, ◌≤◌, ◌<◌}
use native.Mathlib.Nat.{mod-lt}
use native.Mathlib.Decide.{dec_lt}
use native.Mathlib.Omega.{arith}
use lib.Arith.{digits_lt, digits_div}
use lib.Dec.{T, ltb, ltb→lt, eqb→eq}
use lib.ListN.{get_or}
use Rattle.rules.specs.Sizes.{max_contexts, max_frames}
use Rattle.rules.specs.Records.{public_page, place_of, is_clear_in}
use Rattle.rules.specs.Sound.{frame_sound}
use Rattle.rules.specs.declared.Setup.{Setup}
use Rattle.rules.specs.declared.PageRecord.{PageRecord}
use Rattle.core_tables.specs.Words.{place_in}
use Rattle.core_tables.specs.Image.{domains_at, contexts_at, frames_at, mapped_at, home_at, sign_at, word_at, tables_in, Canonical}
use Rattle.core_tables.proofs.Ranges.{home_small, some_names}
use Rattle.core_tables.proofs.Reading.{page_there}
use Rattle.core_sound.specs.Told.{Right}
use Rattle.core_sound.proofs.Room.{Room}
use Rattle.core_sound.proofs.Choices.{if_zero, if_some, zero_nor, if_within, if_past, zero_told, first_true, second_true}
use Rattle.core_sound.proofs.Decoded.{life_empty, clear_test, none_test, names_sound_holds}
use Rattle.core_sound.proofs.HandedPages.{Sounds, domain_here_holds, context_past, life_there, life_here, none_here, page_past}
use Rattle.core_sound.proofs.HandedPages.{mapped_few, sign_few, home_told, domains_right, contexts_right}

module _ (s : Setup) (x : List ℕ) (room : Room s) (canon : Canonical s.pages x) (sounds : Sounds s x) where
  -- frames
  module _ (f : ℕ) (inside : f < s.frames) (k : ℕ) (e : word_at x (frames_at + f) ≡ 1 + k) where
    few_here : f < max_frames
    few_here = omega (arith, room.frames)

    -- the page's number
    number : (word_at x (frames_at + f) - 1) / s.pages % 256 * s.pages + (word_at x (frames_at + f) - 1) % s.pages ≡ k
    number =
        let c = canon.frames f few_here in
        let n = some_names s.pages (word_at x (frames_at + f)) (omega arith) in
        omega arith

    names_told : T (ltb ((word_at x (frames_at + f) - 1) / s.pages % 256) s.domains
        && (ltb ((word_at x (frames_at + f) - 1) % s.pages) s.pages
        && (is_clear_in (record { 0 = f })
        (place_of s (tables_in s.pages x) (record { 0 = (word_at x (frames_at + f) - 1) / s.pages % 256 })
        (record { 0 = (word_at x (frames_at + f) - 1) % s.pages })) && true)))
    unfolding frame_sound
    names_told =
        if_some (word_at x (frames_at + f)) true _
        (rw (names_sound_holds s (tables_in s.pages x) (record { 0 = f }) s.pages (word_at x (frames_at + f))) at
        (if_within f s.frames _ _ (sounds.frames f few_here) inside))
        (λ z. omega arith)

    number_few : k < s.domains * s.pages
    number_few =
        let d : (word_at x (frames_at + f) - 1) / s.pages % 256 < s.domains =
        ltb→lt _ _ (first_true (ltb ((word_at x (frames_at + f) - 1) / s.pages % 256) s.domains) _ names_told) in
        rw number at (digits_lt d (mod-lt (word_at x (frames_at + f) - 1) {m = s.pages} room.some_pages))

    clear_here : T (is_clear_in (record { 0 = f }) (place_in (word_at x (home_at + k)) (word_at x (sign_at + k))))
    clear_here =
        let place : place_of s (tables_in s.pages x) (record { 0 = (word_at x (frames_at + f) - 1) / s.pages % 256 })
        (record { 0 = (word_at x (frames_at + f) - 1) % s.pages })
        ≡ place_in (word_at x (home_at + k)) (word_at x (sign_at + k)) =
        ap (λ (n : ℕ). (get_or (tables_in s.pages x).pages n public_page).place) number
        ∙ ap (λ (r : PageRecord). r.place) (page_there s.pages x k (omega (arith, number_few, room.all))) in
        rw place at
        (first_true (is_clear_in (record { 0 = f })
        (place_of s (tables_in s.pages x) (record { 0 = (word_at x (frames_at + f) - 1) / s.pages % 256 })
        (record { 0 = (word_at x (frames_at + f) - 1) % s.pages }))) true
        (second_true (ltb ((word_at x (frames_at + f) - 1) % s.pages) s.pages) _
        (second_true (ltb ((word_at x (frames_at + f) - 1) / s.pages % 256) s.domains) _ names_told)))

    name_told : word_at x (home_at + k) ≡ 1 + f
    name_told =
        let t = rw (clear_test (record { 0 = f }) (word_at x (home_at + k)) (word_at x (sign_at + k))) at clear_here in
        let some : word_at x (home_at + k) ≡ 0 → ⊥ = λ z. if_zero (word_at x (home_at + k)) false _ t z in
        let own : (word_at x (home_at + k) - 1) % 256 ≡ f = eqb→eq _ _ (if_some (word_at x (home_at + k)) false _ t some) in
        let top : word_at x (home_at + k) ≤ 256 = home_small _ _ (canon.home k (omega (arith, number_few, room.all))) in
        last (word_at x (home_at + k)) some own top
      where
        last : (w : ℕ) → (w ≡ 0 → ⊥) → (w - 1) % 256 ≡ f → w ≤ 256 → w ≡ 1 + f
        last w some own top = omega arith

  frame_past : (i : ℕ) → s.frames ≤ i → i < max_frames → word_at x (frames_at + i) ≡ 0
  unfolding frame_sound
  frame_past i l h =
      zero_told _ (rw (none_test s.pages (word_at x (frames_at + i))) at (if_past i s.frames _ _ (sounds.frames i h) l))

  frame_few : (i : ℕ) → i < s.frames → word_at x (frames_at + i) ≤ s.domains * s.pages
  frame_few i h = by (word_at x (frames_at + i)) refl
    where
      by : (w : ℕ) → word_at x (frames_at + i) ≡ w → word_at x (frames_at + i) ≤ s.domains * s.pages
      by zero e = omega arith
      by (suc k) e = omega (arith, number_few i h k (e ∙ omega arith))

  -- an Empty domain
  module _ (d : ℕ) (inside : d < s.domains) (e : word_at x (domains_at + d) ≡ 0) where
    deserted : (i : ℕ) → i < max_contexts → 3 * d < word_at x (contexts_at + i) → word_at x (contexts_at + i) ≤ 3 * d + 3 → ⊥
    deserted i h low high = by (dec_lt i s.contexts)
      where
        few : d < 256
        few = omega (arith, room.domains)

        same : (word_at x (contexts_at + i) - 1) / 3 % 256 ≡ d
        same = omega (arith, few)

        by : Dec (i < s.contexts) → ⊥
        by (yes q) = ((domain_here_holds s x room canon sounds) i q (λ z. omega arith)).1 (rw same e)
        by (no q) = omega (arith, (context_past s x room canon sounds) i (omega arith) h)

    bare_page : (i : ℕ) → i < s.pages
        → (word_at x (mapped_at + (d * s.pages + i)) ≡ 0) × (word_at x (home_at + (d * s.pages + i)) ≡ 0)
        × (word_at x (sign_at + (d * s.pages + i)) ≡ 0)
    bare_page i h =
        let own : (d * s.pages + i) / s.pages ≡ d = digits_div d h in
        let within : d * s.pages + i < s.domains * s.pages = digits_lt inside h in
        let t = rw (
          own,
          (life_there s x room canon sounds) (record { 0 = d }) (omega (arith, room.domains)),
          life_empty
              (word_at x (domains_at + d)),
        ) at ((life_here s x room canon sounds) (d * s.pages + i) within) in
        (none_here s x room canon sounds) (d * s.pages + i) (zero_nor (word_at x (domains_at + d)) _ t e)

  pub all_right : Right s x
  all_right =
      record {
        ranged =
            record {
              domains = (domains_right s x room canon sounds);
              contexts = (contexts_right s x room canon sounds);
              frames = record { below = frame_few; past = frame_past };
              mapped = record { below = (mapped_few s x room canon sounds); past = λ i l h. ((page_past s x room canon sounds) i l h).0 };
              home = λ i l h. ((page_past s x room canon sounds) i l h).1;
              sign = record { below = (sign_few s x room canon sounds); past = λ i l h. ((page_past s x room canon sounds) i l h).2 };
              used = sounds.used;
            };
        ways = record { names = λ f h k e. name_told f h k e; homes = λ i h f e. (home_told s x room canon sounds) i h f e };
        empty =
            λ d h e. record {
              contexts = deserted d h e;
              mapped = λ i l. (bare_page d h e i l).0;
              home = λ i l. (bare_page d h e i l).1;
              sign = λ i l. (bare_page d h e i l).2;
            };
      }
