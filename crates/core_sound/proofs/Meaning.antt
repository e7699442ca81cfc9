-- The words are right where, and only where, they are the one image of a sound state; so what the loops tell is the rules'
-- test.
use mathlib.Core.Path.{◌≡◌, refl}
use mathlib.Core.Bool.{Bool, true, false}
use mathlib.Core.List.{List}
use Prim.Native.Nat.{ℕ, ◌<◌}
use lib.Dec.{T, eqb, leb→le}
use lib.ListN.{length, get_or}
use borrow.Author.Tests.{eq-eqb, ne_eqb, le-leb}
use Rattle.rules.specs.Bytes.{all_from, same_bytes, zeros}
use Rattle.rules.specs.Sizes.{max_contexts}
use Rattle.rules.specs.Records.{empty_domain, free_context, open_frame, public_page, zero_registers}
use Rattle.rules.specs.Sound.{domain_sound, context_sound, saved_sound, page_sound, frame_sound, whole, sound}
use Rattle.rules.specs.declared.Setup.{Setup}
use Rattle.rules.proofs.Facts.{each, all, passed, all_at}
use Rattle.core_tables.specs.Image.{image_words, tables_in, saved_in, state_in, Canonical}
use Rattle.core_tables.proofs.Images.{told_canonical, tell_canonical}
use Rattle.core_tables.proofs.Reading.{domain_there, context_there, frame_there, page_there, used_there, long}
use Rattle.core_tables.proofs.Registers.{length_saved, saved_past}
use Rattle.core_sound.specs.Acceptable.{sound_image}
use Rattle.core_sound.specs.Told.{Tells, Right}
use Rattle.core_sound.proofs.Room.{Room}
use Rattle.core_sound.proofs.Choices.{within_or, each_element}
use Rattle.core_sound.proofs.Rightful.{right_canonical, domain_right, context_right, page_right, frame_right}
use Rattle.core_sound.proofs.HandedPages.{Sounds}
use Rattle.core_sound.proofs.Handed.{all_right}

module _ (s : Setup) (x y : List ℕ) (r : Room s) where
  -- the tables are whole, and the saved registers zero past the sizes, whatever the words
  whole_right : T (whole (state_in s x y))
  unfolding whole
  whole_right =
      let l = long s.pages x in
      all _ (
        passed _ (eq-eqb _ _ l.domains),
        (
          passed _ (eq-eqb _ _ l.contexts),
          (
            passed _ (eq-eqb _ _ (length_saved s.contexts y r.contexts)),
            (passed _ (eq-eqb _ _ l.pages), (passed _ (eq-eqb _ _ l.frames), tt)),
          ),
        ),
      )

  zero_saved : (i : ℕ) → i < max_contexts → T (saved_sound s i (get_or (saved_in s.contexts y) i zero_registers))
  unfolding saved_sound same_bytes zeros
  zero_saved i h = within_or i s.contexts _ (λ l. rw (saved_past s.contexts i y l h) tt)

  saved_right : T (all_from (saved_sound s) 0 (saved_in s.contexts y))
  saved_right =
      each_element (saved_sound s) zero_registers (saved_in s.contexts y)
      (λ i h. zero_saved i (rw (length_saved s.contexts y r.contexts) at h))

  -- the rules' test, record by record
  sound_of : Sounds s x → T (sound s (state_in s x y))
  unfolding sound
  sound_of z =
      let l = long s.pages x in
      let t = tables_in s.pages x in
      all _ (
        whole_right,
        (
          passed _ (le-leb (tables_in s.pages x).used s.signatures (rw (used_there s.pages x) z.used)),
          (
            each_element (domain_sound s) empty_domain t.domains
                (λ i h. let b = rw l.domains at h in rw (domain_there s.pages x i b) (z.domains i b)),
            (
              each_element (context_sound s t) free_context t.contexts
                  (λ i h. let b = rw l.contexts at h in rw (context_there s.pages x i b) (z.contexts i b)),
              (
                saved_right,
                (
                  each_element (page_sound s t) public_page t.pages
                      (λ i h. let b = rw l.pages at h in rw (page_there s.pages x i b) (z.pages i b)),
                  (
                    each_element (frame_sound s t) open_frame t.frames
                        (λ i h. let b = rw l.frames at h in rw (frame_there s.pages x i b) (z.frames i b)),
                    tt,
                  ),
                ),
              ),
            ),
          ),
        ),
      )

  sounds_of : T (sound s (state_in s x y)) → Sounds s x
  unfolding sound
  sounds_of q =
      let e = each _ q in
      let l = long s.pages x in
      let t = tables_in s.pages x in
      record {
        domains = λ i h. rw (domain_there s.pages x i h) at
            (all_at (domain_sound s) empty_domain t.domains e.1.1.0 i (rw l.domains h));
        contexts = λ i h. rw (context_there s.pages x i h) at
            (all_at (context_sound s t) free_context t.contexts e.1.1.1.0 i (rw l.contexts h));
        pages = λ i h. rw (page_there s.pages x i h) at
            (all_at (page_sound s t) public_page t.pages e.1.1.1.1.1.0 i (rw l.pages h));
        frames = λ i h. rw (frame_there s.pages x i h) at
            (all_at (frame_sound s t) open_frame t.frames e.1.1.1.1.1.1.0 i (rw l.frames h));
        used = rw (used_there s.pages x) at (leb→le (tables_in s.pages x).used s.signatures e.1.0);
      }

  module _ (size : length x ≡ image_words) where
    pub right_image : Right s x → T (sound_image s x y)
    unfolding sound_image
    right_image right =
        all _ (
          tell_canonical s.pages x size (right_canonical s x r right),
          (
            sound_of (record {
              domains = domain_right s x r right;
              contexts = context_right s x r right;
              pages = page_right s x r right;
              frames = frame_right s x r right;
              used = right.ranged.used;
            }),
            tt,
          ),
        )

    pub image_right : T (sound_image s x y) → Right s x
    unfolding sound_image
    image_right q =
        let e = each _ q in
        all_right s x r (told_canonical s.pages x size e.0) (sounds_of e.1.0)

-- what an accepted image gives the events: it is canonical, and its state is sound
pub image_told : (s : Setup) (x y : List ℕ) → length x ≡ image_words → T (sound_image s x y)
    → Canonical s.pages x × T (sound s (state_in s x y))
unfolding sound_image
image_told s x y size q = let e = each _ q in (told_canonical s.pages x size e.0, e.1.0)

-- the answer of a test by a number that is 0 where all is right
pub answer : {P : Type 0} (n : ℕ) (c : Bool) → Tells P n → (P → T c) → (T c → P) → eqb n 0 ≡ c
answer n true t to from = eq-eqb n 0 (t.zero (from tt))
answer n false t to from = ne_eqb n 0 (λ e. to (t.holds e))

pub refused : {P : Type 0} (n : ℕ) (c : Bool) → Tells P n → (n ≡ 0 → ⊥) → (T c → P) → false ≡ c
refused n true t ne from = absurd (ne (t.zero (from tt)))
refused n false t ne from = refl
