-- What a sound record says of the words that it is decoded from: domains, contexts and pages.
use mathlib.Core.Path.{◌≡◌, refl, sym, ap, ◌∙◌}
use mathlib.Core.Bool.{true, false, ◌&&◌, ◌||◌, not, cond}
use mathlib.Core.List.{List}
use Prim.Native.Nat.{ℕ, zero, suc, ◌+◌, ◌*◌, ◌-◌, ◌/◌, ◌%◌, ◌≤◌, ◌<◌}
use native.Mathlib.Nat.{div-add-mod', div-lt_iff_lt-mul}
use native.Mathlib.Omega.{arith}
use lib.Dec.{T, eqb, ltb, ltb→lt, eqb→eq}
use borrow.Author.Tests.{eq-eqb}
use Rattle.rules.specs.Bytes.{all_of}
use Rattle.rules.specs.Sizes.{max_domains, max_contexts, max_frames, domain_in}
use Rattle.rules.specs.Records.{life_of, names_of, is_empty, names_page}
use Rattle.rules.specs.Sound.{domain_sound, begun, context_sound, mapping_sound, place_sound, untouched, owned_sound}
use Rattle.rules.specs.Sound.{page_sound, frame_sound}
use Rattle.rules.specs.declared.Setup.{Setup}
use Rattle.rules.specs.declared.Asid.{Asid}
use Rattle.rules.specs.declared.DomainRecord.{DomainRecord}
use Rattle.rules.specs.declared.FrameRecord.{FrameRecord}
use Rattle.core_tables.specs.Words.{life_in, mapping_in, place_in}
use Rattle.core_tables.specs.Image.{domains_at, contexts_at, frames_at, mapped_at, home_at, sign_at, used_at, max_entries, word_at}
use Rattle.core_tables.specs.Image.{domain_at, context_at, frame_at, page_at, tables_in, Canonical}
use Rattle.core_tables.proofs.Ranges.{life_small, mapping_small, home_small, some_acts, some_names}
use Rattle.core_tables.proofs.Reading.{domain_there, frame_there}
use Rattle.core_sound.specs.Told.{Section}
use Rattle.core_sound.proofs.Room.{Room}
use Rattle.core_sound.proofs.Choices.{if_zero, if_some, some_or, if_within, if_past, past_or, zero_told, first_true, second_true}
use Rattle.core_sound.proofs.Decoded.{life_empty, domain_here, context_free, context_sound_holds, mapping_sound_holds, untouched_test}
use Rattle.core_sound.proofs.Decoded.{place_sound_holds, page_test}

-- the records of the words, each sound
pub record Sounds (s : Setup) (x : List ℕ) : Type 0 where
  pub domains : (i : ℕ) → i < max_domains → T (domain_sound s i (domain_at x i))
  pub contexts : (i : ℕ) → i < max_contexts → T (context_sound s (tables_in s.pages x) i (context_at x i))
  pub pages : (i : ℕ) → i < max_entries → T (page_sound s (tables_in s.pages x) i (page_at x i))
  pub frames : (i : ℕ) → i < max_frames → T (frame_sound s (tables_in s.pages x) i (frame_at s.pages x i))
  pub used : word_at x used_at ≤ s.signatures

-- either a number is 0, or what holds of it else
small : (w n : ℕ) → ((w ≡ 0 → ⊥) → w ≤ n) → w ≤ n
small zero n p = omega arith
small (suc w) n p = p (λ e. omega arith)

module _ (s : Setup) (x : List ℕ) (room : Room s) (canon : Canonical s.pages x) (sounds : Sounds s x) where
  pub life_there : (d : Asid) → d.0 < max_domains → life_of (tables_in s.pages x) d ≡ life_in (word_at x (domains_at + d.0))
  life_there d h = ap (λ (r : DomainRecord). r.life) (domain_there s.pages x d.0 h)

  pub domains_right : Section x domains_at s.domains max_domains 2
  unfolding domain_sound
  domains_right =
      record {
        below = λ i h. life_small _ (canon.domains i (omega (arith, room.domains)));
        past = λ i l h. zero_told _ (rw (life_empty (word_at x (domains_at + i))) at (past_or i s.domains _ (sounds.domains i h) l));
      }

  -- contexts
  begun_here : (i : ℕ) → i < s.contexts → (word_at x (contexts_at + i) ≡ 0 → ⊥)
      → T (begun s (tables_in s.pages x) (domain_here (word_at x (contexts_at + i))))
  unfolding context_sound
  begun_here i h ne =
      some_or (word_at x (contexts_at + i)) _
      (rw (context_sound_holds s (tables_in s.pages x) (word_at x (contexts_at + i))) at
      (if_within i s.contexts _ _ (sounds.contexts i (omega (arith, room.contexts))) h))
      ne

  pub domain_here_holds : (i : ℕ) → i < s.contexts → (word_at x (contexts_at + i) ≡ 0 → ⊥)
      → ((word_at x (contexts_at + i) - 1) / 3 % 256 < s.domains)
      × (word_at x (domains_at + (word_at x (contexts_at + i) - 1) / 3 % 256) ≡ 0 → ⊥)
  unfolding begun all_of domain_in
  domain_here_holds i h ne =
      let t = begun_here i h ne in
      let few : (word_at x (contexts_at + i) - 1) / 3 % 256 < s.domains = ltb→lt _ _
      (first_true (ltb ((word_at x (contexts_at + i) - 1) / 3 % 256) s.domains) _ t) in
      let lives = first_true (not (is_empty (life_of (tables_in s.pages x) (domain_here (word_at x (contexts_at + i)))))) true
      (second_true (ltb ((word_at x (contexts_at + i) - 1) / 3 % 256) s.domains) _ t) in
      let lively = rw (
        life_there (domain_here (word_at x (contexts_at + i))) (omega (arith, room.domains)),
        life_empty
            (word_at x (domains_at + (word_at x (contexts_at + i) - 1) / 3 % 256)),
      ) at lives in
      (few, λ e. rw (eq-eqb _ 0 e) at lively)

  pub context_past : (i : ℕ) → s.contexts ≤ i → i < max_contexts → word_at x (contexts_at + i) ≡ 0
  unfolding context_sound
  context_past i l h =
      zero_told _ (rw (context_free (word_at x (contexts_at + i))) at (if_past i s.contexts _ _ (sounds.contexts i h) l))

  pub contexts_right : Section x contexts_at s.contexts max_contexts (3 * s.domains)
  contexts_right =
      record {
        below = λ i h. small (word_at x (contexts_at + i)) _ (λ ne.
            omega (
              arith,
              (domain_here_holds i h ne).0,
              some_acts (word_at x (contexts_at + i)) (some (word_at x (contexts_at + i)) ne),
              canon.contexts i (omega (arith, room.contexts)),
            ));
        past = context_past;
      }
    where
      some : (w : ℕ) → (w ≡ 0 → ⊥) → 0 < w
      some w ne = omega arith

  -- pages
  module _ (i : ℕ) where
    pub none_here : T (untouched (page_at x i))
        → (word_at x (mapped_at + i) ≡ 0) × (word_at x (home_at + i) ≡ 0) × (word_at x (sign_at + i) ≡ 0)
    none_here t =
        let z = rw (untouched_test (word_at x (mapped_at + i)) (word_at x (home_at + i)) (word_at x (sign_at + i))) at t in
        let rest = first_true (eqb (word_at x (home_at + i)) 0 && eqb (word_at x (sign_at + i)) 0) true
        (second_true (eqb (word_at x (mapped_at + i)) 0) _ z) in (
          zero_told _ (first_true (eqb (word_at x (mapped_at + i)) 0) _ z),
          zero_told _ (first_true (eqb (word_at x (home_at + i)) 0) _ rest),
          zero_told _ (second_true (eqb (word_at x (home_at + i)) 0) _ rest),
        )

    pub page_past : s.domains * s.pages ≤ i → i < max_entries
        → (word_at x (mapped_at + i) ≡ 0) × (word_at x (home_at + i) ≡ 0) × (word_at x (sign_at + i) ≡ 0)
    unfolding page_sound
    page_past l h = none_here (if_past i (s.domains * s.pages) _ _ (sounds.pages i h) l)

  module _ (i : ℕ) (inside : i < s.domains * s.pages) where
    here : i < max_entries
    here = omega (arith, room.all)

    domain_few : i / s.pages < s.domains
    domain_few = (div-lt_iff_lt-mul room.some_pages).1 inside

    owned_here : T (owned_sound s (tables_in s.pages x) (record { 0 = i / s.pages }) (record { 0 = i % s.pages }) (page_at x i))
    unfolding page_sound
    owned_here = if_within i (s.domains * s.pages) _ _ (sounds.pages i here) inside

    mapping_here : T (mapping_sound s (mapping_in (word_at x (mapped_at + i))))
    unfolding owned_sound all_of
    mapping_here = first_true (mapping_sound s (mapping_in (word_at x (mapped_at + i)))) _ owned_here

    place_here : T (place_sound s (tables_in s.pages x) (record { 0 = i / s.pages }) (record { 0 = i % s.pages })
        (place_in (word_at x (home_at + i)) (word_at x (sign_at + i))))
    unfolding owned_sound all_of
    place_here =
        first_true (place_sound s (tables_in s.pages x) (record { 0 = i / s.pages }) (record { 0 = i % s.pages })
        (place_in (word_at x (home_at + i)) (word_at x (sign_at + i)))) _
        (second_true (mapping_sound s (mapping_in (word_at x (mapped_at + i)))) _ owned_here)

    pub life_here : T (not (is_empty (life_of (tables_in s.pages x) (record { 0 = i / s.pages }))) || untouched (page_at x i))
    unfolding owned_sound all_of
    life_here =
        first_true (not (is_empty (life_of (tables_in s.pages x) (record { 0 = i / s.pages }))) || untouched (page_at x i)) true
        (second_true (place_sound s (tables_in s.pages x) (record { 0 = i / s.pages }) (record { 0 = i % s.pages })
        (place_in (word_at x (home_at + i)) (word_at x (sign_at + i)))) _
        (second_true (mapping_sound s (mapping_in (word_at x (mapped_at + i)))) _ owned_here))

    pub mapped_few : word_at x (mapped_at + i) ≤ s.frames
    mapped_few =
        small (word_at x (mapped_at + i)) s.frames (λ ne.
        let few : (word_at x (mapped_at + i) - 1) % 256 < s.frames = ltb→lt _ _
        (some_or (word_at x (mapped_at + i)) _ (rw (mapping_sound_holds s (word_at x (mapped_at + i))) at mapping_here) ne) in
        omega (arith, mapping_small _ (canon.mapped i here)))

    -- what the test of the place says
    place_told : T (cond (eqb (word_at x (home_at + i)) 0)
        (eqb (word_at x (sign_at + i)) 0 || ltb (word_at x (sign_at + i) - 1) (word_at x used_at))
        (ltb ((word_at x (home_at + i) - 1) % 256) s.frames
        && (names_page (record { 0 = i / s.pages }) (record { 0 = i % s.pages })
        (names_of (tables_in s.pages x) (record { 0 = (word_at x (home_at + i) - 1) % 256 }))
        && ((eqb (word_at x (sign_at + i)) 0 || ltb (word_at x (sign_at + i) - 1) (word_at x used_at)) && true))))
    unfolding tables_in
    place_told =
        rw (place_sound_holds s (tables_in s.pages x) (record { 0 = i / s.pages }) (record { 0 = i % s.pages }) (word_at x (home_at + i))
        (word_at x (sign_at + i))) at place_here

    sign_told : T (eqb (word_at x (sign_at + i)) 0 || ltb (word_at x (sign_at + i) - 1) (word_at x used_at))
    sign_told = by (word_at x (home_at + i)) refl
      where
        by : (w : ℕ) → word_at x (home_at + i) ≡ w
            → T (eqb (word_at x (sign_at + i)) 0 || ltb (word_at x (sign_at + i) - 1) (word_at x used_at))
        by zero e = if_zero (word_at x (home_at + i)) _ _ place_told e
        by (suc w) e =
            first_true (eqb (word_at x (sign_at + i)) 0 || ltb (word_at x (sign_at + i) - 1) (word_at x used_at)) true
            (second_true (names_page (record { 0 = i / s.pages }) (record { 0 = i % s.pages })
            (names_of (tables_in s.pages x) (record { 0 = (word_at x (home_at + i) - 1) % 256 }))) _
            (second_true (ltb ((word_at x (home_at + i) - 1) % 256) s.frames) _
            (if_some (word_at x (home_at + i)) _ _ place_told (λ z. omega arith))))

    pub sign_few : word_at x (sign_at + i) ≤ word_at x used_at
    sign_few =
        small (word_at x (sign_at + i)) _
        (λ ne. let few : word_at x (sign_at + i) - 1 < word_at x used_at = ltb→lt _ _ (some_or (word_at x (sign_at + i)) _ sign_told ne) in
        omega arith)

    -- a Clear page's frame names it
    clear_told : (f : ℕ) → word_at x (home_at + i) ≡ 1 + f
        → (f < s.frames) × T (names_page (record { 0 = i / s.pages }) (record { 0 = i % s.pages })
        (names_of (tables_in s.pages x) (record { 0 = f })))
    clear_told f e =
        let top : word_at x (home_at + i) ≤ 256 = home_small _ _ (canon.home i here) in
        let same : (word_at x (home_at + i) - 1) % 256 ≡ f = omega arith in
        let t = if_some (word_at x (home_at + i)) _ _ place_told (λ z. omega arith) in
        let few : (word_at x (home_at + i) - 1) % 256 < s.frames = ltb→lt _ _
        (first_true (ltb ((word_at x (home_at + i) - 1) % 256) s.frames) _ t) in (
          omega arith,
          rw same at
              (first_true (names_page (record { 0 = i / s.pages }) (record { 0 = i % s.pages })
              (names_of (tables_in s.pages x) (record { 0 = (word_at x (home_at + i) - 1) % 256 }))) _
              (second_true (ltb ((word_at x (home_at + i) - 1) % 256) s.frames) _ t)),
        )

    pub home_told : (f : ℕ) → word_at x (home_at + i) ≡ 1 + f → (f < s.frames) × (word_at x (frames_at + f) ≡ 1 + i)
    home_told f e = ((clear_told f e).0, named)
      where
        few : f < max_frames
        few = omega (arith, (clear_told f e).0, room.frames)

        told : T (cond (eqb (word_at x (frames_at + f)) 0) false
            (eqb ((word_at x (frames_at + f) - 1) / s.pages % 256) (i / s.pages)
            && (eqb ((word_at x (frames_at + f) - 1) % s.pages) (i % s.pages) && true)))
        told =
            rw (
              ap (λ (r : FrameRecord). r.names) (frame_there s.pages x f few),
              page_test (record { 0 = i / s.pages }) (record { 0 = i % s.pages }) s.pages (word_at x (frames_at + f)),
            ) at
            (clear_told f e).1

        some : (word_at x (frames_at + f) ≡ 0 → ⊥)
        some z = if_zero (word_at x (frames_at + f)) false _ told z

        more : 0 < word_at x (frames_at + f)
        more = positive (word_at x (frames_at + f)) some
          where
            positive : (w : ℕ) → (w ≡ 0 → ⊥) → 0 < w
            positive w ne = omega arith

        named : word_at x (frames_at + f) ≡ 1 + i
        named =
            let t = if_some (word_at x (frames_at + f)) false _ told some in
            let d : (word_at x (frames_at + f) - 1) / s.pages % 256 ≡ i / s.pages =
            eqb→eq _ _ (first_true (eqb ((word_at x (frames_at + f) - 1) / s.pages % 256) (i / s.pages)) _ t) in
            let p : (word_at x (frames_at + f) - 1) % s.pages ≡ i % s.pages =
            eqb→eq _ _
            (first_true (eqb ((word_at x (frames_at + f) - 1) % s.pages) (i % s.pages)) true
            (second_true (eqb ((word_at x (frames_at + f) - 1) / s.pages % 256) (i / s.pages)) _ t)) in
            sym (canon.frames f few) ∙ some_names s.pages (word_at x (frames_at + f)) more ∙ rw (d, p, div-add-mod' i s.pages)
