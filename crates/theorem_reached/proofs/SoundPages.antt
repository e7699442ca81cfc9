-- Changes of one page's record, with the frame in which it is Clear, that keep a state sound: a page that is mapped, sealed,
-- unveiled, cloaked, uncloaked or marked dirty.
use Rattle.std.specs.Prelude.{Option, Some}
use mathlib.Core.Path.{◌≡◌, refl, ap, ◌∙◌}
use mathlib.Core.Logic.{◌≢◌}
use mathlib.Core.List.{List, [], ◌∷◌}
use mathlib.Core.Bool.{Bool, true, false, ◌||◌, not}
use Prim.Native.Nat.{ℕ, ◌≤◌, ◌<◌}
use native.Mathlib.Decide.{ℕ_discrete}
use native.Mathlib.Omega.{arith}
use lib.ListN.{length, set, length-set}
use lib.Seq.{get_or-set_other}
use lib.Dec.{T, ltb→lt}
use Rattle.rules.specs.Records.{Given, Machine, state_of, public_page, life_of, activity_of, page_of, place_of, mapping_of, names_of}
use Rattle.rules.specs.Records.{is_empty}
use Rattle.rules.specs.Records.{is_unmapped, is_public, is_clear_in, names_none, with_page, with_mapping, with_place, with_names, with_used}
use Rattle.rules.specs.Bytes.{all_of}
use Rattle.rules.specs.Sizes.{page_number, domain_in, page_in, max_domains, max_pages}
use Rattle.rules.specs.Sound.{mapping_sound, place_sound, untouched, owned_sound, names_sound}
use Rattle.rules.specs.declared.Setup.{Setup}
use Rattle.rules.specs.declared.State.{State}
use Rattle.rules.specs.declared.Tables.{Tables}
use Rattle.rules.specs.declared.Asid.{Asid}
use Rattle.rules.specs.declared.Gvpn.{Gvpn}
use Rattle.rules.specs.declared.Gppn.{Gppn}
use Rattle.rules.specs.declared.PageRecord.{PageRecord}
use Rattle.rules.specs.declared.FrameRecord.{FrameRecord}
use Rattle.rules.specs.declared.Wear.{Wear}
use Rattle.rules.specs.declared.Place.{Place}
use Rattle.rules.specs.declared.Place.TheVariants.{Clear}
use Rattle.rules.proofs.Facts.{Accepted}
use Rattle.rules.proofs.Tests.{first_or, each, all}
use Rattle.rules.proofs.PageNumbers.{number_in, number_one, number_within, same_frame}
use Rattle.rules.proofs.Changes.{page_same, page_other, names_same, names_other}
use Rattle.rules.proofs.Soundness.{Sound}
use Rattle.theorem_reached.proofs.FramesAndSlots.{Within}
use Rattle.theorem_reached.proofs.SoundRecords.{activity_kept, owned_kept, names_kept}

-- a page's record in a domain that is not Empty
module _ (s : Setup) (t : Tables) (d : Asid) (v : Gvpn) (r : PageRecord) where
  owned_of : T (mapping_sound s r.mapping) → T (place_sound s t d v r.place) → T (not (is_empty (life_of t d))) → T (owned_sound s t d v r)
  unfolding owned_sound
  owned_of mapping place lives = all _ (mapping, (place, (first_or (not (is_empty (life_of t d))) (untouched r) lives, tt)))

  owned_mapping : T (owned_sound s t d v r) → T (mapping_sound s r.mapping)
  unfolding owned_sound
  owned_mapping h = (each _ h).0

  owned_place : T (owned_sound s t d v r) → T (place_sound s t d v r.place)
  unfolding owned_sound
  owned_place h = (each _ h).1.0

  -- a page that is not Public and unmapped is in such a domain
  owned_lives : T (owned_sound s t d v r) → T (not (is_public r.place)) → T (not (is_empty (life_of t d)))
  unfolding owned_sound untouched
  owned_lives h private = go (is_empty (life_of t d)) (is_public r.place) (each _ h).1.1.0 private
    where
      go : (e p : Bool) → T (not e || all_of (is_unmapped r.mapping ∷ p ∷ [])) → T (not p) → T (not e)
      go true true h n = n
      go true false h n = (each (is_unmapped r.mapping ∷ false ∷ []) h).1.0
      go false p h n = tt

-- the page that a frame names is within the sizes
pub named_within : (s : Setup) (t : Tables) (f : Gppn) (d : Asid) (v : Gvpn) → T (names_sound s t f (Some (d, v)))
    → (d.0 < s.domains) × (v.0 < s.pages)
unfolding names_sound domain_in page_in
named_within s t f d v h = let e = each _ h in (ltb→lt _ _ e.0, ltb→lt _ _ e.1.0)

-- another page's place
pub place_other : (s : Setup) (t : Tables) (d : Asid) (v : Gvpn) (r : PageRecord) (e : Asid) (w : Gvpn)
    → page_number s e w ≢ page_number s d v → place_of s (with_page s d v r t) e w ≡ place_of s t e w
place_other s t d v r e w ne = ap (λ (p : PageRecord). p.place) (page_other s t d v r e w ne)

-- the tables with another record for one page, other frames' records, and another used count
abbrev pub rewritten : Setup → Asid → Gvpn → PageRecord → List FrameRecord → ℕ → Tables → Tables
rewritten s d v r frames used t =
    record {
      domains = t.domains;
      contexts = t.contexts;
      pages = set t.pages (page_number s d v) r;
      frames = frames;
      used = used;
    }

-- a page of an acceptable machine, whose record is to change
module _ (g : Given) (m : Machine) (accepted : Accepted g m) (d : Asid) (v : Gvpn) (hd : Within g.setup d v) where
  abbrev s : Setup
  s = g.setup

  abbrev x : State
  x = state_of m

  abbrev h : Sound s x
  h = accepted.looks.sound

  pub number_long : page_number s d v < length x.tables.pages
  number_long =
      let sizes = accepted.looks.sizes in
      let within = number_within s d v hd.page max_domains max_pages sizes.domains sizes.pages hd.domain in
      omega (arith, accepted.looks.shapes.pages)

  -- a page that is not Public is in a domain that is not Empty
  pub private_lives : T (not (is_public (place_of s m.tables d v))) → T (not (is_empty (life_of m.tables d)))
  private_lives = owned_lives s m.tables d v _ (h.page d v hd.domain hd.page)

  module _ (r : PageRecord) (frames : List FrameRecord) (used : ℕ) where
    t : Tables
    t = x.tables

    u : Tables
    u = rewritten s d v r frames used t

    other : (e : Asid) (w : Gvpn) → page_number s e w ≢ page_number s d v → page_of s u e w ≡ page_of s t e w
    unfolding u t
    other e w ne = page_other s x.tables d v r e w ne

    pub rewritten_sound : length frames ≡ length x.tables.frames → x.tables.used ≤ used → used ≤ s.signatures
        → T (owned_sound s (rewritten s d v r frames used x.tables) d v r)
        → ((e : Asid) (w : Gvpn) (f : Gppn) (y : Wear) → e.0 < s.domains → w.0 < s.pages → page_number s e w ≢ page_number s d v
        → place_of s x.tables e w ≡ Clear f y → names_of x.tables f ≡ Some (e, w)
        → names_of (rewritten s d v r frames used x.tables) f ≡ Some (e, w)) → ((f : Gppn) → f.0 < s.frames
        → T (names_sound s (rewritten s d v r frames used x.tables) f (names_of (rewritten s d v r frames used x.tables) f)))
        → ((f : Gppn) → s.frames ≤ f.0 → T (names_none (names_of (rewritten s d v r frames used x.tables) f)))
        → Sound s (record { tables = rewritten s d v r frames used x.tables; saved = x.saved })
    unfolding t u
    rewritten_sound long more fit own others names past =
        let o = h.shape in
        record {
          shape =
              record {
                domains = o.domains;
                contexts = o.contexts;
                saved = o.saved;
                pages = rw length-set o.pages;
                frames = long ∙ o.frames;
              };
          used = fit;
          domain_past = h.domain_past;
          context = λ c hc. activity_kept s t u (λ d l. l) (activity_of t c) (h.context c hc);
          context_past = h.context_past;
          saved_past = h.saved_past;
          page = λ e w he hw. at e w he hw (ℕ_discrete (page_number s e w) (page_number s d v));
          page_past =
              λ i q.
              let n = number_in s d v hd.page hd.domain in
              rw (get_or-set_other t.pages (page_number s d v) i r public_page (omega arith)) (h.page_past i q);
          frame = names;
          frame_past = past;
        }
      where
        at : (e : Asid) (w : Gvpn) → e.0 < s.domains → w.0 < s.pages → Dec (page_number s e w ≡ page_number s d v)
            → T (owned_sound s u e w (page_of s u e w))
        at e w he hw (yes q) =
            let k = number_one s e d w v hw hd.page q in
            rw (k.0, k.1, page_same s t d v r number_long) own
        at e w he hw (no ne) =
            rw (other e w ne)
            (owned_kept s t u more e w (page_of s t e w) (λ l. l) (λ f y c n. others e w f y he hw ne c n) (h.page e w he hw))

  -- a page's record alone: its frame, if it is Clear, stays
  pub replaced_sound : (r : PageRecord) → T (owned_sound s x.tables d v r)
      → ((f : Gppn) → T (is_clear_in f (place_of s x.tables d v)) → T (is_clear_in f r.place))
      → Sound s (record { tables = rewritten s d v r x.tables.frames x.tables.used x.tables; saved = x.saved })
  replaced_sound r own stays =
      rewritten_sound r t.frames t.used refl (omega arith) h.used
      (owned_kept s t u (omega arith) d v r (λ l. l) (λ f w _ n. n) own) (λ e w f y _ _ _ _ n. n)
      (λ f hf. names_kept s t u f (names_of t f) (λ e w q c. at f hf e w q c (ℕ_discrete (page_number s e w) (page_number s d v)))
      (h.frame f hf))
      h.frame_past
    where
      t : Tables
      t = x.tables

      u : Tables
      u = rewritten s d v r t.frames t.used t

      at : (f : Gppn) → f.0 < s.frames → (e : Asid) (w : Gvpn) → names_of t f ≡ Some (e, w) → T (is_clear_in f (place_of s t e w))
          → Dec (page_number s e w ≡ page_number s d v) → T (is_clear_in f (place_of s u e w))
      at f hf e w q c (yes p) =
          let b = named_within s t f e w (rw q at (h.frame f hf)) in
          let k = number_one s e d w v b.1 hd.page p in
          let now : place_of s u d v ≡ r.place =
          ap (λ (p : PageRecord). p.place) (page_same s t d v r number_long) in
          rw (k.0, k.1, now) (stays f (rw (k.0, k.1) at c))
      at f hf e w q c (no ne) = rw (place_other s t d v r e w ne) c

  pub mapping_sound_holds : (y : Option Gppn) → T (mapping_sound s y) → T (not (is_empty (life_of x.tables d)))
      → Sound s (record { tables = with_mapping s d v y x.tables; saved = x.saved })
  mapping_sound_holds y ok lives =
      let r : PageRecord = record { mapping = y; place = place_of s x.tables d v } in
      let place = owned_place s x.tables d v _ (h.page d v hd.domain hd.page) in
      replaced_sound r (owned_of s x.tables d v r ok place lives) (λ f c. c)

  pub place_replaced : (q : Place) → T (place_sound s x.tables d v q) → T (not (is_empty (life_of x.tables d)))
      → ((f : Gppn) → T (is_clear_in f (place_of s x.tables d v)) → T (is_clear_in f q))
      → Sound s (record { tables = with_place s d v q x.tables; saved = x.saved })
  place_replaced q ok lives stays =
      let r : PageRecord = record { mapping = mapping_of s x.tables d v; place = q } in
      let mapping = owned_mapping s x.tables d v _ (h.page d v hd.domain hd.page) in
      replaced_sound r (owned_of s x.tables d v r mapping ok lives) stays

  -- a page's place, and what frame f names: f named no other page, and the page was Clear in no other frame
  module _ (f : Gppn) (hf : f.0 < s.frames) (lives : T (not (is_empty (life_of x.tables d))))
      (here : (g : Gppn) → T (is_clear_in g (place_of s x.tables d v)) → g.0 ≡ f.0)
      (free : (e : Asid) (w : Gvpn) → names_of x.tables f ≡ Some (e, w) → page_number s e w ≡ page_number s d v)
      (used : ℕ) (more : x.tables.used ≤ used) (fit : used ≤ s.signatures) where
    pub moved_sound : (q : Place) (n : Option (Asid × Gvpn))
        → T (place_sound s (with_names f n (with_place s d v q (with_used used x.tables))) d v q)
        → T (names_sound s (with_names f n (with_place s d v q (with_used used x.tables))) f n)
        → Sound s (record { tables = with_names f n (with_place s d v q (with_used used x.tables)); saved = x.saved })
    moved_sound q n place names =
        rewritten_sound r (set t.frames f.0 (record { names = n })) used
        (length-set t.frames f.0 (record { names = n })) more fit
        (owned_of s u d v r (owned_mapping s t d v (page_of s t d v) (h.page d v hd.domain hd.page)) place lives)
        (λ e w g y he hw ne c m. names_other t f n g (λ p. ne (free e w (rw (same_frame g f p) at m))) ∙ m)
        (λ g hg. at g hg (ℕ_discrete g.0 f.0))
        (λ g past. rw (names_other t f n g (omega arith)) (h.frame_past g past))
      where
        t : Tables
        t = x.tables

        u : Tables
        u = with_names f n (with_place s d v q (with_used used t))

        r : PageRecord
        r = record { mapping = mapping_of s t d v; place = q }

        still : (g : Gppn) → g.0 < s.frames → g.0 ≢ f.0 → (e : Asid) (w : Gvpn) → names_of t g ≡ Some (e, w)
            → T (is_clear_in g (place_of s t e w)) → Dec (page_number s e w ≡ page_number s d v) → T (is_clear_in g (place_of s u e w))
        still g hg ne e w m c (yes p) =
            let b = named_within s t g e w (rw m at (h.frame g hg)) in
            let k = number_one s e d w v b.1 hd.page p in
            absurd (ne (here g (rw (k.0, k.1) at c)))
        still g hg ne e w m c (no p) = rw (place_other s t d v r e w p) c

        at : (g : Gppn) → g.0 < s.frames → Dec (g.0 ≡ f.0) → T (names_sound s u g (names_of u g))
        at g hg (yes p) =
            rw (same_frame g f p, names_same t f n (omega (arith, h.shape.frames, accepted.looks.sizes.frames))) names
        at g hg (no ne) =
            rw (names_other t f n g ne)
            (names_kept s t u g (names_of t g) (λ e w m c. still g hg ne e w m c (ℕ_discrete (page_number s e w) (page_number s d v)))
            (h.frame g hg))
