-- Words that are right are the image of the tables that they hold, and each record of these is sound.
use mathlib.Core.Path.{◌≡◌, refl, ap, ◌∙◌}
use mathlib.Core.Bool.{true, ◌&&◌, ◌||◌, not}
use mathlib.Core.List.{List}
use Prim.Native.Nat.{ℕ, zero, suc, ◌+◌, ◌*◌, ◌-◌, ◌/◌, ◌%◌, ◌≤◌, ◌<◌}
use native.Mathlib.Nat.{div-add-mod', mod-lt, div-le_self, div-lt_iff_lt-mul}
use native.Mathlib.Decide.{dec_lt}
use native.Mathlib.Omega.{arith}
use lib.Dec.{T, eqb, ltb}
use lib.ListN.{get_or}
use borrow.Author.Tests.{eq-eqb, ne_eqb, lt-ltb}
use Rattle.rules.specs.Bytes.{all_of}
use Rattle.rules.specs.Sizes.{max_domains, max_contexts, max_frames, domain_in}
use Rattle.rules.specs.Records.{public_page, life_of, names_of, place_of, is_empty, names_page}
use Rattle.rules.specs.Sound.{domain_sound, begun, context_sound, mapping_sound, place_sound, untouched, owned_sound, page_sound}
use Rattle.rules.specs.Sound.{names_sound, frame_sound}
use Rattle.rules.specs.declared.Setup.{Setup}
use Rattle.rules.specs.declared.Asid.{Asid}
use Rattle.rules.specs.declared.DomainRecord.{DomainRecord}
use Rattle.rules.specs.declared.FrameRecord.{FrameRecord}
use Rattle.rules.specs.declared.PageRecord.{PageRecord}
use Rattle.rules.proofs.Facts.{passed}
use Rattle.core_tables.specs.Words.{life_in, names_in, mapping_in, place_in}
use Rattle.core_tables.specs.Image.{domains_at, contexts_at, frames_at, mapped_at, home_at, sign_at, used_at, max_entries, word_at}
use Rattle.core_tables.specs.Image.{domain_at, context_at, frame_at, page_at, tables_in, Canonical}
use Rattle.core_tables.proofs.Ranges.{life_kept, activity_kept, names_kept, mapping_kept, home_kept, sign_kept}
use Rattle.core_tables.proofs.Reading.{domain_there, frame_there, page_there}
use Rattle.core_sound.specs.Told.{Section, Right}
use Rattle.core_sound.proofs.Room.{Room}
use Rattle.core_sound.proofs.Choices.{by_zero, zero_or, some_nor, by_size, within_or, both_true}
use Rattle.core_sound.proofs.Decoded.{life_empty, domain_here, context_free, context_sound_holds, mapping_sound_holds, untouched_test}
use Rattle.core_sound.proofs.Decoded.{place_sound_holds, clear_test, none_test, page_test, names_sound_holds}

-- every word of a table is at most top
within : {x : List ℕ} {start count room top : ℕ} → Section x start count room top → (i : ℕ) → i < room → word_at x (start + i) ≤ top
within {x} {start} {count} {room} {top} s i h = by (dec_lt i count)
  where
    by : Dec (i < count) → word_at x (start + i) ≤ top
    by (yes q) = s.below i q
    by (no q) = omega (arith, s.past i (omega arith) h)

zero_test : (w : ℕ) → w ≡ 0 → T (eqb w 0)
zero_test w e = passed _ (eq-eqb w 0 e)

module _ (s : Setup) (x : List ℕ) (room : Room s) (right : Right s x) where
  -- the number of pages, and of a page
  home_small : (i : ℕ) → i < max_entries → word_at x (home_at + i) ≤ 64
  home_small i h = by (dec_lt i (s.domains * s.pages))
    where
      one : (w : ℕ) → ((f : ℕ) → w ≡ 1 + f → f < s.frames) → w ≤ 64
      one zero p = omega arith
      one (suc f) p = omega (arith, p f (omega arith), room.frames)

      by : Dec (i < s.domains * s.pages) → word_at x (home_at + i) ≤ 64
      by (yes q) = one (word_at x (home_at + i)) (λ f e. (right.ways.homes i q f e).0)
      by (no q) = omega (arith, right.ranged.home i (omega arith) h)

  names_small : (i : ℕ) → i < max_frames → (word_at x (frames_at + i) - 1) / s.pages < 256
  names_small i h =
      omega (arith, within right.ranged.frames i h, room.all, div-le_self (word_at x (frames_at + i) - 1) s.pages)

  pub right_canonical : Canonical s.pages x
  right_canonical =
      record {
        domains = λ i h. life_kept _ (within right.ranged.domains i h);
        contexts = λ i h. activity_kept _ (omega (arith, within right.ranged.contexts i h, room.domains));
        frames = λ i h. names_kept s.pages _ (names_small i h);
        mapped = λ i h. mapping_kept _ (omega (arith, within right.ranged.mapped i h, room.frames));
        home = λ i h. home_kept _ _ (omega (arith, home_small i h));
        sign = λ i h. sign_kept _ _;
      }

  -- the life of a domain
  life_there : (d : Asid) → d.0 < max_domains → life_of (tables_in s.pages x) d ≡ life_in (word_at x (domains_at + d.0))
  life_there d h = ap (λ (r : DomainRecord). r.life) (domain_there s.pages x d.0 h)

  pub domain_right : (i : ℕ) → i < max_domains → T (domain_sound s i (domain_at x i))
  unfolding domain_sound
  domain_right i h =
      within_or i s.domains _ (λ q. rw (life_empty (word_at x (domains_at + i))) (zero_test _ (right.ranged.domains.past i q h)))

  -- a context
  begun_right : (i : ℕ) → i < max_contexts → (word_at x (contexts_at + i) ≡ 0 → ⊥)
      → T (begun s (tables_in s.pages x) (domain_here (word_at x (contexts_at + i))))
  unfolding begun all_of domain_in
  begun_right i h ne =
      let w : ℕ = word_at x (contexts_at + i) in
      let top = within right.ranged.contexts i h in
      let few = room.domains in
      let d : ℕ = (word_at x (contexts_at + i) - 1) / 3 % 256 in
      let small : (word_at x (contexts_at + i) - 1) / 3 % 256 < s.domains = omega arith in
      rw (
        life_there (domain_here (word_at x (contexts_at + i))) (omega arith),
        life_empty
            (word_at x (domains_at + (word_at x (contexts_at + i) - 1) / 3 % 256)),
      )
      (both_true (ltb ((word_at x (contexts_at + i) - 1) / 3 % 256) s.domains) _ (passed _ (lt-ltb _ _ small))
      (both_true (not (eqb (word_at x (domains_at + (word_at x (contexts_at + i) - 1) / 3 % 256)) 0)) true
      (passed _ (ap not (ne_eqb _ 0 (λ e. (right.empty ((word_at x (contexts_at + i) - 1) / 3 % 256) small e).contexts i h (omega arith)
      (omega arith)))))
      tt))

  pub context_right : (i : ℕ) → i < max_contexts → T (context_sound s (tables_in s.pages x) i (context_at x i))
  unfolding context_sound
  context_right i h =
      by_size i s.contexts _ _
      (λ q. rw (context_sound_holds s (tables_in s.pages x) (word_at x (contexts_at + i))) (zero_or _ _ (λ ne. begun_right i h ne)))
      (λ q. rw (context_free (word_at x (contexts_at + i))) (zero_test _ (right.ranged.contexts.past i q h)))

  -- a page past the sizes, or in an Empty domain
  bare_right : (i : ℕ) → word_at x (mapped_at + i) ≡ 0 → word_at x (home_at + i) ≡ 0 → word_at x (sign_at + i) ≡ 0
      → T (untouched (page_at x i))
  bare_right i m h k =
      rw (untouched_test (word_at x (mapped_at + i)) (word_at x (home_at + i)) (word_at x (sign_at + i)))
      (both_true (eqb (word_at x (mapped_at + i)) 0) _ (zero_test _ m)
      (both_true (eqb (word_at x (home_at + i)) 0 && eqb (word_at x (sign_at + i)) 0) true
      (both_true (eqb (word_at x (home_at + i)) 0) _ (zero_test _ h) (zero_test _ k))
      tt))

  module _ (i : ℕ) (inside : i < s.domains * s.pages) where
    here : i < max_entries
    here = omega (arith, room.all)

    split : i / s.pages * s.pages + i % s.pages ≡ i
    split = div-add-mod' i s.pages

    domain_few : i / s.pages < s.domains
    domain_few = (div-lt_iff_lt-mul room.some_pages).1 inside

    place_there : place_of s (tables_in s.pages x) (record { 0 = i / s.pages }) (record { 0 = i % s.pages })
        ≡ place_in (word_at x (home_at + i)) (word_at x (sign_at + i))
    place_there =
        ap (λ (n : ℕ). (get_or (tables_in s.pages x).pages n public_page).place) split
        ∙ ap (λ (r : PageRecord). r.place) (page_there s.pages x i here)

    mapping_right : T (mapping_sound s (mapping_in (word_at x (mapped_at + i))))
    mapping_right =
        let top = right.ranged.mapped.below i inside in
        let few = room.frames in
        rw (mapping_sound_holds s (word_at x (mapped_at + i)))
        (zero_or (word_at x (mapped_at + i)) _ (λ ne. passed _ (lt-ltb ((word_at x (mapped_at + i) - 1) % 256) s.frames (omega arith))))

    sign_right : T (eqb (word_at x (sign_at + i)) 0 || ltb (word_at x (sign_at + i) - 1) (word_at x used_at))
    sign_right =
        let top = right.ranged.sign.below i inside in
        zero_or (word_at x (sign_at + i)) _ (λ ne. passed _ (lt-ltb (word_at x (sign_at + i) - 1) (word_at x used_at) (omega arith)))

    -- the frame that the page is Clear in names it
    named_right : (f : ℕ) → word_at x (home_at + i) ≡ 1 + f
        → T (names_page (record { 0 = i / s.pages }) (record { 0 = i % s.pages }) (names_of (tables_in s.pages x) (record { 0 = f })))
    named_right f e =
        let told = right.ways.homes i inside f e in
        let few = room.frames in
        let number : word_at x (frames_at + f) ≡ 1 + i = told.1 in
        let less : word_at x (frames_at + f) - 1 ≡ i = omega arith in
        let low : i / s.pages % 256 ≡ i / s.pages = omega (arith, domain_few, room.domains) in
        rw (
          ap (λ (r : FrameRecord). r.names) (frame_there s.pages x f (omega arith)),
          page_test (record { 0 = i / s.pages }) (record { 0 = i % s.pages }) s.pages (word_at x (frames_at + f)),
          ne_eqb (word_at x (frames_at + f)) 0 (λ z. omega arith),
          less,
          low,
          eq-eqb (i / s.pages) (i / s.pages) refl,
          eq-eqb (i % s.pages) (i % s.pages) refl,
        )
        tt

    place_right : T (place_sound s (tables_in s.pages x) (record { 0 = i / s.pages }) (record { 0 = i % s.pages })
        (place_in (word_at x (home_at + i)) (word_at x (sign_at + i))))
    unfolding tables_in
    place_right =
        let small = home_small i here in
        rw (place_sound_holds s (tables_in s.pages x) (record { 0 = i / s.pages }) (record { 0 = i % s.pages }) (word_at x (home_at + i))
        (word_at x (sign_at + i)))
        (by_zero (word_at x (home_at + i)) _ _ (λ e. sign_right)
        (λ ne.
        let low : (word_at x (home_at + i) - 1) % 256 ≡ word_at x (home_at + i) - 1 = omega arith in
        let own : word_at x (home_at + i) ≡ 1 + (word_at x (home_at + i) - 1) = omega arith in
        both_true (ltb ((word_at x (home_at + i) - 1) % 256) s.frames) _
        (passed _ (lt-ltb ((word_at x (home_at + i) - 1) % 256) s.frames
        (omega (arith, (right.ways.homes i inside (word_at x (home_at + i) - 1) own).0))))
        (both_true (names_page (record { 0 = i / s.pages }) (record { 0 = i % s.pages })
        (names_of (tables_in s.pages x) (record { 0 = (word_at x (home_at + i) - 1) % 256 }))) _
        (rw low (named_right (word_at x (home_at + i) - 1) own))
        (both_true (eqb (word_at x (sign_at + i)) 0 || ltb (word_at x (sign_at + i) - 1) (word_at x used_at)) true sign_right tt))))

    life_right : T (not (is_empty (life_of (tables_in s.pages x) (record { 0 = i / s.pages }))) || untouched (page_at x i))
    life_right =
        let few = domain_few in
        rw (life_there (record { 0 = i / s.pages }) (omega (arith, room.domains)), life_empty (word_at x (domains_at + i / s.pages)))
        (some_nor (word_at x (domains_at + i / s.pages)) _ (λ e.
        let bare = right.empty (i / s.pages) few e in
        let low = mod-lt i {m = s.pages} room.some_pages in
        bare_right i (rw split at (bare.mapped (i % s.pages) low)) (rw split at (bare.home (i % s.pages) low))
        (rw split at (bare.sign (i % s.pages) low))))

    owned_right : T (owned_sound s (tables_in s.pages x) (record { 0 = i / s.pages }) (record { 0 = i % s.pages }) (page_at x i))
    unfolding owned_sound all_of
    owned_right =
        both_true (mapping_sound s (mapping_in (word_at x (mapped_at + i)))) _ mapping_right
        (both_true (place_sound s (tables_in s.pages x) (record { 0 = i / s.pages }) (record { 0 = i % s.pages })
        (place_in (word_at x (home_at + i)) (word_at x (sign_at + i)))) _ place_right
        (both_true (not (is_empty (life_of (tables_in s.pages x) (record { 0 = i / s.pages }))) || untouched (page_at x i)) true
        life_right tt))

  pub page_right : (i : ℕ) → i < max_entries → T (page_sound s (tables_in s.pages x) i (page_at x i))
  unfolding page_sound
  page_right i h =
      by_size i (s.domains * s.pages) _ _ (λ q. owned_right i q)
      (λ q. bare_right i (right.ranged.mapped.past i q h) (right.ranged.home i q h) (right.ranged.sign.past i q h))

  -- a frame that names page k
  frame_named : (i k : ℕ) → i < s.frames → word_at x (frames_at + i) ≡ 1 + k
      → T (names_sound s (tables_in s.pages x) (record { 0 = i }) (names_in s.pages (word_at x (frames_at + i))))
  frame_named i k h e =
      let few = room.frames in
      let top = right.ranged.frames.below i h in
      let inside : k < s.domains * s.pages = omega arith in
      let whole = room.all in
      let less : word_at x (frames_at + i) - 1 ≡ k = omega arith in
      let low : k / s.pages % 256 ≡ k / s.pages = omega (arith, domain_few k inside, room.domains) in
      let own : word_at x (home_at + k) ≡ 1 + i = right.ways.names i h k e in
      let back : (word_at x (home_at + k) - 1) % 256 ≡ i = omega arith in
      rw (
        names_sound_holds s (tables_in s.pages x) (record { 0 = i }) s.pages (word_at x (frames_at + i)),
        ne_eqb (word_at x (frames_at + i)) 0 (λ z. omega arith),
        less,
        low,
        lt-ltb (k / s.pages) s.domains (domain_few k inside),
        lt-ltb (k % s.pages) s.pages (mod-lt k {m = s.pages} room.some_pages),
        place_there k inside,
        clear_test (record { 0 = i }) (word_at x (home_at + k)) (word_at x (sign_at + k)),
        ne_eqb (word_at x (home_at + k)) 0 (λ z. omega arith),
        back,
        eq-eqb i i refl,
      )
      tt

  pub frame_right : (i : ℕ) → i < max_frames → T (frame_sound s (tables_in s.pages x) i (frame_at s.pages x i))
  unfolding frame_sound
  frame_right i h =
      by_size i s.frames _ _ (λ q. named (word_at x (frames_at + i)) refl q)
      (λ q. rw (none_test s.pages (word_at x (frames_at + i))) (zero_test _ (right.ranged.frames.past i q h)))
    where
      named : (w : ℕ) → word_at x (frames_at + i) ≡ w → i < s.frames
          → T (names_sound s (tables_in s.pages x) (record { 0 = i }) (names_in s.pages (word_at x (frames_at + i))))
      named zero e q =
          rw (
            names_sound_holds s (tables_in s.pages x) (record { 0 = i }) s.pages (word_at x (frames_at + i)),
            eq-eqb
                (word_at x (frames_at + i)) 0 e,
          ) tt
      named (suc k) e q = frame_named i k q (e ∙ omega arith)
