-- A sound state, whose saved registers are eight words each, has one image: the words of its tables and registers are readable, and hold
-- that state again.
use Rattle.std.specs.Prelude.{Option, Some, None}
use mathlib.Core.Path.{◌≡◌}
use mathlib.Core.Bool.{Bool, true, false, ◌||◌, cond}
use Prim.Native.Nat.{ℕ, ◌*◌, ◌/◌, ◌%◌, ◌≤◌, ◌<◌}
use native.Mathlib.Omega.{arith}
use lib.ListN.{get_or}
use lib.Dec.{T, ltb, ltb→lt}
use borrow.Author.Tests.{eq-eqb, le-ltb}
use Rattle.rules.specs.Bytes.{same_bytes, zeros}
use Rattle.rules.specs.Sizes.{setup_in_range, domain_in, page_in, frame_in, max_contexts}
use Rattle.rules.specs.Records.{free_context, open_frame, public_page, zero_registers, domain_where, frame_where, is_free, is_unmapped}
use Rattle.rules.specs.Records.{is_public, names_none}
use Rattle.rules.specs.Sound.{begun, activity_sound, context_sound, saved_sound, mapping_sound, place_sound, untouched, owned_sound}
use Rattle.rules.specs.Sound.{page_sound, names_sound, frame_sound, sound}
use Rattle.rules.specs.Asked.{Limited}
use Rattle.rules.proofs.Facts.{limited, Shaped, shaped}
use Rattle.rules.proofs.Tests.{each, all, passed, passes, all_at, same_bytes_holds}
use Rattle.rules.specs.declared.Setup.{Setup}
use Rattle.rules.specs.declared.State.{State}
use Rattle.rules.specs.declared.Tables.{Tables}
use Rattle.rules.specs.declared.Asid.{Asid}
use Rattle.rules.specs.declared.Gvpn.{Gvpn}
use Rattle.rules.specs.declared.Gppn.{Gppn}
use Rattle.rules.specs.declared.PageRecord.{PageRecord}
use Rattle.rules.specs.declared.Registers.{Registers}
use Rattle.rules.specs.declared.Activity.{Activity}
use Rattle.rules.specs.declared.Activity.TheVariants.{Free, Running, Kept}
use Rattle.rules.specs.declared.Place.{Place}
use Rattle.rules.specs.declared.Place.TheVariants.{Public, Clear, Sealed}
use Rattle.core_tables.specs.Words.{Housed}
use Rattle.core_tables.specs.Image.{max_entries, state_in, image_of, saved_words}
use Rattle.core_tables.proofs.Images.{tell_canonical}
use Rattle.core_tables.proofs.Encoding.{Fits, NamedFits, length_image, image_back, is_canonical, Eights, length_saved_words, saved_back}
use Rattle.core_answer.specs.Handed.{readable}

-- what a sound record tells of its numbers, within the setup's sizes or past them
module _ (s : Setup) (t : Tables) (sizes : Limited s) where
  begun_few : (d : Asid) → T (begun s t d) → d.0 < 256
  unfolding begun domain_in
  begun_few d h = omega (arith, ltb→lt d.0 s.domains (each _ h).0, sizes.domains)

  activity_few : (b : Bool) (a : Activity) → T (cond b (activity_sound s t a) (is_free a)) → (domain_where a).0 < 256
  unfolding activity_sound
  activity_few b Free h = omega arith
  activity_few true (Running d) h = begun_few d h
  activity_few true (Kept d k) h = begun_few d h
  activity_few false (Running d) h = absurd h
  activity_few false (Kept d k) h = absurd h

  frame_few : (f : Gppn) → T (frame_in s f) → f.0 < 256
  unfolding frame_in
  frame_few f h = omega (arith, ltb→lt f.0 s.frames h, sizes.frames)

  mapping_few : (m : Option Gppn) → T (mapping_sound s m) → (frame_where m).0 < 256
  unfolding mapping_sound
  mapping_few None h = omega arith
  mapping_few (Some f) h = frame_few f h

  unmapped_few : (m : Option Gppn) → T (is_unmapped m) → (frame_where m).0 < 256
  unmapped_few None h = omega arith
  unmapped_few (Some f) h = absurd h

  place_few : (d : Asid) (v : Gvpn) (p : Place) → T (place_sound s t d v p) → Housed p
  unfolding place_sound Housed
  place_few d v Public h = tt
  place_few d v (Clear f w) h = frame_few f (each _ h).0
  place_few d v (Sealed k) h = tt

  public_few : (p : Place) → T (is_public p) → Housed p
  unfolding Housed
  public_few Public h = tt
  public_few (Clear f w) h = absurd h
  public_few (Sealed k) h = absurd h

  page_few : (b : Bool) (d : Asid) (v : Gvpn) (r : PageRecord) → T (cond b (owned_sound s t d v r) (untouched r))
      → ((frame_where r.mapping).0 < 256) × Housed r.place
  unfolding owned_sound untouched
  page_few true d v r h = let e = each _ h in (mapping_few r.mapping e.0, place_few d v r.place e.1.0)
  page_few false d v r h = let e = each _ h in (unmapped_few r.mapping e.0, public_few r.place e.1.0)

  named_few : (b : Bool) (f : Gppn) (d : Asid) (v : Gvpn) → T (cond b (names_sound s t f (Some (d, v))) (names_none (Some (d, v))))
      → NamedFits s.pages d v
  unfolding names_sound domain_in page_in
  named_few true f d v h =
      let e = each _ h in
      record {
        domain = omega (arith, ltb→lt d.0 s.domains e.0, sizes.domains);
        page = ltb→lt v.0 s.pages e.1.0;
      }
  named_few false f d v h = absurd h

past_zero : (b : Bool) (r : Registers) → b ≡ false → T (b || same_bytes r.words (zeros 8)) → r ≡ zero_registers
unfolding zeros
past_zero true r e t = let z : ◌≡◌ {A = ℕ} 0 1 = cc in absurd (omega arith)
past_zero false r e t = let q = same_bytes_holds r.words (zeros 8) (passes _ t) in λ i. record { words = q i }

module _ (s : Setup) (x : State) (ranged : T (setup_in_range s)) (ok : T (sound s x)) (eights : Eights x.saved) where
  sizes : Limited s
  sizes = limited s ranged

  shape : Shaped x
  unfolding sound
  shape = shaped x (each _ ok).0

  page_fits : (i : ℕ) → i < max_entries
      → let r = get_or x.tables.pages i public_page in
      ((frame_where r.mapping).0 < 256) × Housed r.place
  unfolding sound page_sound
  page_fits i h =
      let t = x.tables in
      page_few s t sizes (ltb i (s.domains * s.pages)) (record { 0 = i / s.pages }) (record { 0 = i % s.pages })
      (get_or t.pages i public_page)
      (all_at (page_sound s t) public_page t.pages (each _ ok).1.1.1.1.1.0 i (omega (arith, shape.pages)))

  fits : Fits s.pages x.tables
  unfolding sound context_sound frame_sound
  fits =
      let t = x.tables in
      let e = each _ ok in
      record {
        domains = shape.domains;
        contexts = shape.contexts;
        pages = shape.pages;
        frames = shape.frames;
        activities =
            λ i h.
            activity_few s t sizes (ltb i s.contexts) _
            (all_at (context_sound s t) free_context t.contexts e.1.1.1.0 i (omega (arith, shape.contexts)));
        names =
            λ i h d p q.
            named_few s t sizes (ltb i s.frames) (record { 0 = i }) d p
            (rw q at (all_at (frame_sound s t) open_frame t.frames e.1.1.1.1.1.1.0 i (omega (arith, shape.frames))));
        mappings = λ i h. (page_fits i h).0;
        places = λ i h. (page_fits i h).1;
      }

  saved_past : (i : ℕ) → s.contexts ≤ i → i < max_contexts → get_or x.saved i zero_registers ≡ zero_registers
  unfolding sound saved_sound
  saved_past i l h =
      past_zero (ltb i s.contexts) _ (le-ltb i s.contexts l)
      (all_at (saved_sound s) zero_registers x.saved (each _ ok).1.1.1.1.0 i (omega (arith, shape.saved)))

  -- its words are an image
  pub image_readable : T (readable s (image_of s.pages x.tables) (saved_words s.contexts x.saved))
  unfolding readable
  image_readable =
      let long = length_image s.pages x.tables fits in
      let words = length_saved_words s.contexts x.saved eights (omega (arith, shape.saved, sizes.contexts)) in
      all _ (
        passed _ (eq-eqb _ _ long),
        (
          passed _ (eq-eqb _ _ words),
          (tell_canonical s.pages (image_of s.pages x.tables) long (is_canonical s.pages x.tables fits), tt),
        ),
      )

  -- and hold it
  pub image_state : state_in s (image_of s.pages x.tables) (saved_words s.contexts x.saved) ≡ x
  image_state =
      let t = image_back s.pages x.tables fits in
      let y = saved_back s.contexts x.saved eights shape.saved sizes.contexts saved_past in
      λ i. record { tables = t i; saved = y i }
