-- Bringing a page in at the frame to which it is mapped, and storing bytes there. Bringing in does nothing, or unveils the page, or stops
-- its domain; each time the machine stays acceptable.
use Rattle.std.specs.Prelude.{None}
use mathlib.Core.Path.{◌≡◌, refl, sym, ap, ◌∙◌}
use mathlib.Core.Logic.{◌≢◌}
use mathlib.Core.List.{List, []}
use mathlib.Core.Bool.{cond, Bool, true, false, true≢false}
use Prim.Native.Nat.{ℕ, ◌+◌, ◌<◌}
use native.Mathlib.Omega.{arith}
use lib.ListN.{length, set}
use lib.Seq.{set-get_or}
use lib.Dec.{lt→ltb}
use Rattle.rules.specs.Bytes.{same_bytes, overlay}
use Rattle.rules.specs.Sizes.{page_number, frame_in}
use Rattle.rules.specs.Records.{Given, Machine, state_of, public_page, place_of, mapping_of, names_of, with_life, on_tables, frame_bytes}
use Rattle.rules.specs.Records.{slot_bytes}
use Rattle.rules.specs.Sound.{wear_sound, place_sound}
use Rattle.rules.specs.Sealing.{Effect, done, failed, signature, unveiled_tables, unveiled, unveil, bring_in_at, bring_in}
use Rattle.rules.specs.Events.{store_span, written, marked_dirty}
use Rattle.rules.specs.declared.Setup.{Setup}
use Rattle.rules.specs.declared.Span.{Span}
use Rattle.rules.specs.declared.Asid.{Asid}
use Rattle.rules.specs.declared.Gvpn.{Gvpn}
use Rattle.rules.specs.declared.Gppn.{Gppn}
use Rattle.rules.specs.declared.Life.TheVariants.{Stopped}
use Rattle.rules.specs.declared.Wear.{Wear}
use Rattle.rules.specs.declared.Wear.TheVariants.{Dirty, Clean}
use Rattle.rules.specs.declared.Place.{Place}
use Rattle.rules.specs.declared.Place.TheVariants.{Public, Clear, Sealed}
use Rattle.rules.proofs.Tests.{same_bytes_holds, bytes_same, all}
use Rattle.rules.proofs.Parts.{length_overlay}
use Rattle.rules.proofs.Changes.{place_same}
use Rattle.rules.proofs.Facts.{Accepted, accepted_kept}
use Rattle.theorem_reached.proofs.SoundRecords.{names_self, life_sound}
use Rattle.theorem_reached.proofs.SoundPages.{number_long, place_other, place_replaced, private_lives}
use Rattle.theorem_reached.proofs.FramesAndSlots.{unveil_compares, write_dirties, Within, frame_whole, slot_whole}
use Rattle.theorem_reached.proofs.SealPage.{Holds, Stays, frames_apart}
use Rattle.theorem_reached.proofs.MakeClear.{none_clear, filled, unfilled, fill_accepted, Enters, enter_accepted, enter_holds}
use Rattle.theorem_reached.proofs.TouchCases.{TouchCase, public, there, away}

module _ (g : Given) (n : Machine) (accepted : Accepted g n) (f : Gppn) (hf : f.0 < g.setup.frames) (d : Asid) (v : Gvpn)
    (hd : Within g.setup d v) where
  abbrev s : Setup
  s = g.setup

  -- a Sealed page can be made Clear in a frame that names none, with its slot's bytes
  pub sealed_enters : (k : ℕ) → place_of s n.tables d v ≡ Sealed k → names_of n.tables f ≡ None
      → Enters g n f d v (Clean k) (slot_bytes s d v n)
  unfolding wear_sound
  sealed_enters k place none =
      record {
        accepted = accepted;
        frame = hf;
        within = hd;
        lives = private_lives g n accepted d v hd (rw place tt);
        none = none;
        away = λ j c. rw place at c;
        worn = lt→ltb _ _ (accepted.looks.agrees.sealed d v k hd.domain hd.page place);
        whole = slot_whole s d v n hd accepted.looks.store;
      }

  pub unveiled_accepted : (k : ℕ) → place_of s n.tables d v ≡ Sealed k → names_of n.tables f ≡ None
      → Accepted g (unveiled g f d v k n)
  unfolding unveiled unveiled_tables
  unveiled_accepted k place none = enter_accepted g n f d v (Clean k) (slot_bytes s d v n) (sealed_enters k place none) (n.unveils + 1)

  pub opened_holds : (k : ℕ) → place_of s n.tables d v ≡ Sealed k → names_of n.tables f ≡ None
      → Holds s (unveiled g f d v k n).tables f d v (Clean k)
  unfolding unveiled unveiled_tables
  opened_holds k place none = enter_holds g n f d v (Clean k) (slot_bytes s d v n) (sealed_enters k place none) (n.unveils + 1)

  pub stopped_accepted : Accepted g (on_tables (with_life d Stopped) n)
  stopped_accepted =
      accepted_kept g n (on_tables (with_life d Stopped) n) accepted refl refl
      (life_sound s (state_of n) accepted.looks.sizes accepted.looks.sound d hd.domain Stopped tt)

  pub stopped_stays : (e : Asid) (w : Gvpn) → Stays s e w n (on_tables (with_life d Stopped) n)
  stopped_stays e w = record { place = refl; frame = λ h y c. refl; slot = refl; used = omega arith }

  -- bringing in leaves all as it is, or unveils, or stops the domain
  pub bring_in_either : TouchCase s n.tables f d v → (P : Effect → Type 0)
      → (place_of s n.tables d v ≡ Public → names_of n.tables f ≡ None → P (done n []))
      → ((w : Wear) → Holds s n.tables f d v w → P (done n []))
      → ((k : ℕ) → place_of s n.tables d v ≡ Sealed k → names_of n.tables f ≡ None → frame_bytes s f n ≡ signature g k
      → P (done (unveiled g f d v k n) []))
      → ((k : ℕ) → place_of s n.tables d v ≡ Sealed k → names_of n.tables f ≡ None → frame_bytes s f n ≢ signature g k
      → P (failed (on_tables (with_life d Stopped) n))) → P (bring_in g f d v n)
  unfolding bring_in bring_in_at
  bring_in_either (public p none) P a b c e = rw p (a p none)
  bring_in_either (there w h) P a b c e = rw h.place (b w h)
  bring_in_either (away k p none) P a b c e = rw p (compared (same_bytes (frame_bytes s f n) (signature g k)) refl)
    where
      compared : (r : Bool) → same_bytes (frame_bytes s f n) (signature g k) ≡ r → P (unveil g f d v k n)
      compared true q = rw (unveil_compares g f d v k n true q) (c k p none (same_bytes_holds _ _ q))
      compared false q =
          rw (unveil_compares g f d v k n false q)
          (e k p none (λ same. true≢false
          (sym (bytes_same (signature g k)) ∙ ap (λ (x : List ℕ). same_bytes x (signature g k)) (sym same) ∙ q)))

-- what bringing in can come to, whatever the page and the frame are
pub bring_in_cases : (g : Given) (f : Gppn) (d : Asid) (v : Gvpn) (m : Machine) (P : Effect → Type 0) → P (done m [])
    → ((k : ℕ) → P (done (unveiled g f d v k m) [])) → P (failed (on_tables (with_life d Stopped) m)) → P (bring_in g f d v m)
unfolding bring_in bring_in_at unveil
bring_in_cases g f d v m P same opened stopped = placed (place_of g.setup m.tables d v)
  where
    compared : (k : ℕ) (b : Bool) → P (cond b (done (unveiled g f d v k m) []) (failed (on_tables (with_life d Stopped) m)))
    compared k true = opened k
    compared k false = stopped

    placed : (p : Place) → P (bring_in_at g f d v p m)
    placed Public = same
    placed (Clear h w) = same
    placed (Sealed k) = compared k (same_bytes (frame_bytes g.setup f m) (signature g k))

-- which of them it is, told from the record and the frame
module _ (g : Given) (f : Gppn) (d : Asid) (v : Gvpn) (n : Machine) where
  pub brings_public : place_of g.setup n.tables d v ≡ Public → bring_in g f d v n ≡ done n []
  unfolding bring_in bring_in_at
  brings_public p = rw p

  pub brings_clear : (h : Gppn) (w : Wear) → place_of g.setup n.tables d v ≡ Clear h w → bring_in g f d v n ≡ done n []
  unfolding bring_in bring_in_at
  brings_clear h w p = rw p

  pub brings_opened : (k : ℕ) → place_of g.setup n.tables d v ≡ Sealed k → frame_bytes g.setup f n ≡ signature g k
      → bring_in g f d v n ≡ done (unveiled g f d v k n) []
  unfolding bring_in bring_in_at
  brings_opened k p same =
      let e : same_bytes (frame_bytes g.setup f n) (signature g k) ≡ true = rw same (bytes_same (signature g k)) in
      rw p (unveil_compares g f d v k n true e)

  pub brings_failed : (k : ℕ) → place_of g.setup n.tables d v ≡ Sealed k → frame_bytes g.setup f n ≢ signature g k
      → bring_in g f d v n ≡ failed (on_tables (with_life d Stopped) n)
  unfolding bring_in bring_in_at
  brings_failed k p apart = rw p (compared (same_bytes (frame_bytes g.setup f n) (signature g k)) refl)
    where
      compared : (b : Bool) → same_bytes (frame_bytes g.setup f n) (signature g k) ≡ b
          → unveil g f d v k n ≡ failed (on_tables (with_life d Stopped) n)
      compared true q = absurd (apart (same_bytes_holds _ _ q))
      compared false q = unveil_compares g f d v k n false q

-- a span stored to a frame that names none
module _ (g : Given) (n : Machine) (accepted : Accepted g n) (f : Gppn) (hf : f.0 < g.setup.frames) (x : Span) (new : List ℕ) where
  pub laid_whole : length (overlay x.off new (frame_bytes g.setup f n)) ≡ g.setup.size
  laid_whole = length_overlay x.off new (frame_bytes g.setup f n) ∙ frame_whole g.setup f n hf accepted.looks.frames

  pub span_accepted : Accepted g (store_span g.setup f x new n)
  unfolding store_span
  span_accepted = fill_accepted g f (overlay x.off new (frame_bytes g.setup f n)) n accepted

  pub span_frame : frame_bytes g.setup f (store_span g.setup f x new n) ≡ overlay x.off new (frame_bytes g.setup f n)
  unfolding store_span
  span_frame = filled g.setup f hf n accepted.looks.frames (overlay x.off new (frame_bytes g.setup f n)) laid_whole

  pub span_frames : (h : Gppn) → h.0 ≢ f.0 → frame_bytes g.setup h (store_span g.setup f x new n) ≡ frame_bytes g.setup h n
  unfolding store_span
  span_frames h ne = unfilled g.setup f hf n accepted.looks.frames (overlay x.off new (frame_bytes g.setup f n)) laid_whole h ne

  pub span_stays : names_of n.tables f ≡ None → (e : Asid) (y : Gvpn) → Within g.setup e y
      → Stays g.setup e y n (store_span g.setup f x new n)
  unfolding store_span
  span_stays none e y he =
      record {
        place = refl;
        frame = λ h w c. span_frames h (none_clear g.setup n.tables accepted.looks.agrees f none e y he h w c);
        slot = refl;
        used = omega arith;
      }

  -- and to one that holds the page d, v, which is dirty then
  module _ (d : Asid) (v : Gvpn) (w : Wear) (holds : Holds g.setup n.tables f d v w) where
    abbrev o : Machine
    o = marked_dirty g.setup d v (store_span g.setup f x new n)

    dirty : written (place_of g.setup n.tables d v) ≡ Clear f Dirty
    dirty = ap written holds.place ∙ write_dirties f w

    pub stored_place : place_of g.setup o.tables d v ≡ Clear f Dirty
    unfolding marked_dirty store_span
    stored_place =
        place_same g.setup n.tables d v (number_long g n accepted d v holds.within) _ ∙ dirty

    pub stored_frame : frame_bytes g.setup f o ≡ overlay x.off new (frame_bytes g.setup f n)
    unfolding marked_dirty
    stored_frame = span_frame

    pub stored_stays : (e : Asid) (y : Gvpn) → Within g.setup e y → page_number g.setup e y ≢ page_number g.setup d v
        → Stays g.setup e y n o
    unfolding marked_dirty store_span
    stored_stays e y he ne =
        record {
          place = place_other g.setup n.tables d v _ e y ne;
          frame =
              λ h z c. span_frames h (frames_apart g.setup n.tables accepted.looks.agrees f d v holds.names e y he ne h z c);
          slot = refl;
          used = omega arith;
        }

    pub stored_accepted : Accepted g o
    unfolding marked_dirty store_span place_sound wear_sound frame_in
    stored_accepted =
        let laid = span_accepted in
        accepted_kept g (store_span g.setup f x new n) o laid refl refl
        (place_replaced g n accepted d v holds.within (written (place_of g.setup n.tables d v))
        (rw dirty (all _ (lt→ltb _ _ hf, (rw holds.names (names_self d v), (tt, tt)))))
        (private_lives g n accepted d v holds.within (rw holds.place tt)) (λ h c. rw dirty (rw holds.place at c)))

-- a Public page is not marked
pub unmarked : (s : Setup) (d : Asid) (v : Gvpn) (m : Machine) → place_of s m.tables d v ≡ Public → marked_dirty s d v m ≡ m
unfolding marked_dirty written
unmarked s d v m p =
    rw p
    (λ i.
    record {
      tables =
          record {
            domains = m.tables.domains;
            contexts = m.tables.contexts;
            pages = same i;
            frames = m.tables.frames;
            used = m.tables.used;
          };
      saved = m.saved;
      frames = m.frames;
      store = m.store;
      seals = m.seals;
      unveils = m.unveils;
    })
  where
    same : set m.tables.pages (page_number s d v) (record { mapping = mapping_of s m.tables d v; place = Public }) ≡ m.tables.pages
    same =
        ap (λ (q : Place). set m.tables.pages (page_number s d v) (record { mapping = mapping_of s m.tables d v; place = q })) (sym p)
        ∙ set-get_or m.tables.pages (page_number s d v) public_page
