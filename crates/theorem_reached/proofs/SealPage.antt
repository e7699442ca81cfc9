-- Sealing the page that is Clear in a frame: what then stands in its record, its slot, its frame and in all others, and that the machine
-- stays acceptable.
use Rattle.std.specs.Prelude.{Some, None}
use mathlib.Core.Path.{◌≡◌, refl, sym, ap, ◌∙◌}
use mathlib.Core.Logic.{◌≢◌}
use Prim.Native.Nat.{ℕ, ◌+◌, ◌≤◌, ◌<◌}
use native.Mathlib.Omega.{arith}
use lib.ListN.{length}
use lib.Dec.{T, eqb→eq, lt→ltb}
use Rattle.rules.specs.Sizes.{page_number}
use Rattle.rules.specs.Records.{Given, Machine, place_of, names_of, is_clear_in, frame_bytes, slot_bytes}
use Rattle.rules.specs.Sound.{place_sound, names_sound}
use Rattle.rules.specs.Sealing.{signature, sealed_with, takes, sealed_tables, seal_page}
use Rattle.rules.specs.Asked.{Agreed}
use Rattle.rules.specs.declared.Setup.{Setup}
use Rattle.rules.specs.declared.Tables.{Tables}
use Rattle.rules.specs.declared.Asid.{Asid}
use Rattle.rules.specs.declared.Gvpn.{Gvpn}
use Rattle.rules.specs.declared.Gppn.{Gppn}
use Rattle.rules.specs.declared.Wear.{Wear}
use Rattle.rules.specs.declared.Wear.TheVariants.{Dirty, Clean}
use Rattle.rules.specs.declared.Place.{Place}
use Rattle.rules.specs.declared.Place.TheVariants.{Clear, Sealed}
use Rattle.rules.proofs.Parts.{length_with_part, part_fits, part_other}
use Rattle.rules.proofs.PageNumbers.{number_one, same_frame}
use Rattle.rules.proofs.Changes.{place_same, names_same, names_other}
use Rattle.rules.proofs.Facts.{Accepted, accepted_kept}
use Rattle.theorem_reached.proofs.FramesAndSlots.{Within, frame_whole, slot_fits, signature_whole, seal_keeps_bytes}
use Rattle.theorem_reached.proofs.FramesAndSlots.{seal_shows_signature}
use Rattle.theorem_reached.proofs.SoundPages.{number_long, moved_sound, place_other, private_lives}

-- frame f is within the setup and holds page d, v, which is Clear there
pub record Holds (s : Setup) (t : Tables) (f : Gppn) (d : Asid) (v : Gvpn) (w : Wear) : Type 0 where
  pub frame : f.0 < s.frames
  pub within : Within s d v
  pub names : names_of t f ≡ Some (d, v)
  pub place : place_of s t d v ≡ Clear f w

-- the same bytes, the same place: what stays of a page while others change, and no signature is unused again
pub record Stays (s : Setup) (d : Asid) (v : Gvpn) (m n : Machine) : Type 0 where
  pub place : place_of s n.tables d v ≡ place_of s m.tables d v
  pub frame : (f : Gppn) (w : Wear) → place_of s m.tables d v ≡ Clear f w → frame_bytes s f n ≡ frame_bytes s f m
  pub slot : slot_bytes s d v n ≡ slot_bytes s d v m
  pub used : m.tables.used ≤ n.tables.used

pub same_stays : (s : Setup) (d : Asid) (v : Gvpn) (m : Machine) → Stays s d v m m
same_stays s d v m = record { place = refl; frame = λ f w c. refl; slot = refl; used = omega arith }

-- two pages are not Clear in one frame
pub frames_apart : (s : Setup) (t : Tables) → Agreed s t → (f : Gppn) (d : Asid) (v : Gvpn) → names_of t f ≡ Some (d, v)
    → (e : Asid) (w : Gvpn) → Within s e w → page_number s e w ≢ page_number s d v → (h : Gppn) (y : Wear)
    → place_of s t e w ≡ Clear h y → h.0 ≢ f.0
frames_apart s t agrees f d v names e w he ne h y c q =
    let n : names_of t h ≡ Some (e, w) = (agrees.named e w h y he.domain he.page c).1 in
    let r : h ≡ f = same_frame h f q in
    let one : ◌≡◌ {A = Asid × Gvpn} (e, w) (d, v) = cc in
    ne (ap (λ (p : Asid × Gvpn). page_number s p.0 p.1) one)

pub clear_in : (f h : Gppn) (w : Wear) (p : Place) → p ≡ Clear f w → T (is_clear_in h p) → h.0 ≡ f.0
clear_in f h w p e c = sym (eqb→eq f.0 h.0 (rw e at c))

-- another frame holds another page
pub pages_apart : (s : Setup) (t : Tables) → Agreed s t → (f : Gppn) (d : Asid) (v : Gvpn) (w : Wear) → Holds s t f d v w
    → (h : Gppn) (e : Asid) (x : Gvpn) → h.0 < s.frames → names_of t h ≡ Some (e, x) → h.0 ≢ f.0 → page_number s e x ≢ page_number s d v
pages_apart s t agrees f d v w holds h e x hh names ne p =
    let c = agrees.clear h e x hh names in
    let k = number_one s e d x v c.1 holds.within.page p in
    ne (clear_in f h w (place_of s t d v) holds.place (rw (k.0, k.1) at c.2))

-- the number that a page is sealed with is that of a signature in use
seal_below : (used : ℕ) (w : Wear) → ((k : ℕ) → w ≡ Clean k → k < used) → sealed_with used w < used + takes w
unfolding sealed_with takes
seal_below used Dirty h = omega arith
seal_below used (Clean k) h = omega (arith, h k refl)

module _ (g : Given) (f : Gppn) (d : Asid) (v : Gvpn) (w : Wear) (m : Machine) (accepted : Accepted g m)
    (holds : Holds g.setup m.tables f d v w) (room : m.tables.used + takes w ≤ g.setup.signatures) where
  abbrev s : Setup
  s = g.setup

  abbrev n : Machine
  n = seal_page g f d v w m

  pub sealed_below : sealed_with m.tables.used w < m.tables.used + takes w
  sealed_below =
      seal_below m.tables.used w
      (λ k e. accepted.looks.agrees.worn d v f k holds.within.domain holds.within.page (holds.place ∙ ap (Clear f) e))

  pub filled_whole : length (signature g (sealed_with m.tables.used w)) ≡ s.size
  filled_whole = let b = sealed_below in signature_whole g _ accepted.supply (omega arith)

  -- its own record, slot and frame
  pub sealed_place : place_of s n.tables d v ≡ Sealed (sealed_with m.tables.used w)
  unfolding seal_page sealed_tables
  sealed_place =
      place_same s m.tables d v (number_long g m accepted d v holds.within) _

  pub sealed_slot : slot_bytes s d v n ≡ frame_bytes s f m
  sealed_slot = seal_keeps_bytes g f d v w m holds.frame accepted.looks.frames holds.within accepted.looks.store

  pub sealed_frame : frame_bytes s f n ≡ signature g (sealed_with m.tables.used w)
  sealed_frame = seal_shows_signature g f d v w m holds.frame accepted.looks.frames filled_whole

  pub sealed_names : names_of n.tables f ≡ None
  unfolding seal_page sealed_tables
  sealed_names =
      names_same m.tables f None (omega (arith, accepted.looks.shapes.frames, accepted.looks.sizes.frames, holds.frame))

  -- and the others'
  pub others_place : (e : Asid) (x : Gvpn) → page_number s e x ≢ page_number s d v → place_of s n.tables e x ≡ place_of s m.tables e x
  unfolding seal_page sealed_tables
  others_place e x ne = place_other s m.tables d v _ e x ne

  pub others_slot : (e : Asid) (x : Gvpn) → page_number s e x ≢ page_number s d v → slot_bytes s e x n ≡ slot_bytes s e x m
  unfolding seal_page
  others_slot e x ne =
      part_other s.size (page_number s d v) (frame_bytes s f m) m.store (frame_whole s f m holds.frame accepted.looks.frames)
      (slot_fits s d v m holds.within accepted.looks.store) (page_number s e x) ne

  pub others_frame : (h : Gppn) → h.0 ≢ f.0 → frame_bytes s h n ≡ frame_bytes s h m
  unfolding seal_page
  others_frame h ne =
      part_other s.size f.0 _ m.frames filled_whole
      (part_fits s.size f.0 s.frames holds.frame accepted.looks.frames) h.0 ne

  pub others_names : (h : Gppn) → h.0 ≢ f.0 → names_of n.tables h ≡ names_of m.tables h
  unfolding seal_page sealed_tables
  others_names h ne = names_other m.tables f None h ne

  pub sealed_used : m.tables.used ≤ n.tables.used
  unfolding seal_page sealed_tables
  sealed_used = omega arith

  pub sealed_stays : (e : Asid) (x : Gvpn) → Within s e x → page_number s e x ≢ page_number s d v → Stays s e x m n
  sealed_stays e x he ne =
      record {
        place = others_place e x ne;
        frame = λ h y c. others_frame h (frames_apart s m.tables accepted.looks.agrees f d v holds.names e x he ne h y c);
        slot = others_slot e x ne;
        used = sealed_used;
      }

  pub sealed_accepted : Accepted g n
  unfolding seal_page sealed_tables place_sound names_sound
  sealed_accepted =
      accepted_kept g m n accepted (length_with_part s.size f.0 _ m.frames)
      (length_with_part s.size (page_number s d v) _ m.store)
      (moved_sound g m accepted d v holds.within f holds.frame
      (private_lives g m accepted d v holds.within (rw holds.place tt)) (λ h c. clear_in f h w _ holds.place c)
      (λ e x q.
      let names = holds.names in
      let one : ◌≡◌ {A = Asid × Gvpn} (e, x) (d, v) = cc in
      ap (λ (p : Asid × Gvpn). page_number s p.0 p.1) one)
      (m.tables.used + takes w) (omega arith) room (Sealed (sealed_with m.tables.used w)) None
      (lt→ltb _ _ sealed_below) tt)
