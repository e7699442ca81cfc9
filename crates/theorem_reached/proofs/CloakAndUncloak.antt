-- Cloaking a page at a frame that names none, and uncloaking one: the machine stays acceptable, the page is zero or Public afterwards, and
-- every other page stays as it is.
use Rattle.std.specs.Prelude.{None}
use mathlib.Core.Path.{◌≡◌, refl, sym, ap}
use mathlib.Core.Logic.{◌≢◌}
use mathlib.Core.Bool.{Bool, true, false, not, cond, true≢false}
use Prim.Native.Nat.{◌<◌}
use native.Mathlib.Omega.{arith}
use lib.Dec.{T}
use borrow.Author.Tests.{eqb-true, eqb-false}
use Rattle.rules.specs.Bytes.{zeros}
use Rattle.rules.specs.Sizes.{page_number}
use Rattle.rules.specs.Records.{Given, Machine, life_of, place_of, names_of, is_empty, is_public, with_place, on_tables, slot_bytes}
use Rattle.rules.specs.Records.{fill_slot}
use Rattle.rules.specs.Sound.{place_sound, names_sound, wear_sound}
use Rattle.rules.specs.Events.{cloaked, zero_if_clear, uncloaked}
use Rattle.rules.specs.declared.Setup.{Setup}
use Rattle.rules.specs.declared.Asid.{Asid}
use Rattle.rules.specs.declared.Gvpn.{Gvpn}
use Rattle.rules.specs.declared.Gppn.{Gppn}
use Rattle.rules.specs.declared.Wear.TheVariants.{Dirty}
use Rattle.rules.specs.declared.Place.{Place}
use Rattle.rules.specs.declared.Place.TheVariants.{Public, Clear, Sealed}
use Rattle.rules.proofs.Parts.{length_zeros, length_with_part, part_other, part_fits}
use Rattle.rules.proofs.PageNumbers.{number_one}
use Rattle.rules.proofs.Changes.{place_same}
use Rattle.rules.proofs.Facts.{Accepted, accepted_kept}
use Rattle.theorem_reached.proofs.SoundPages.{number_long, place_other, place_replaced, moved_sound}
use Rattle.theorem_reached.proofs.FramesAndSlots.{cloak_zeroes, Within, whole_page, slot_fits}
use Rattle.theorem_reached.proofs.SealPage.{Stays, frames_apart, clear_in}
use Rattle.theorem_reached.proofs.MakeClear.{unfilled, Enters, enter_accepted, enter_holds, enter_stays}
use Rattle.theorem_reached.proofs.PageFates.{is_same, kept, zeroed, dropped, Fate, is_kept, is_zeroed, is_dropped, same_number}

-- what uncloaking leaves, told from the page's place
unfoldable pub uncloaked_at : Setup → Asid → Gvpn → Place → Machine → Machine
uncloaked_at s d v p m = on_tables (with_place s d v Public) (fill_slot s d v (zeros s.size) (zero_if_clear s p m))

pub uncloaked_at_holds : (s : Setup) (d : Asid) (v : Gvpn) (p : Place) (m : Machine) → place_of s m.tables d v ≡ p
    → uncloaked s d v m ≡ uncloaked_at s d v p m
unfolding uncloaked uncloaked_at
uncloaked_at_holds s d v p m e = rw e

module _ (g : Given) (m : Machine) (accepted : Accepted g m) where
  abbrev s : Setup
  s = g.setup

  -- cloak, at a frame that names none
  module _ (f : Gppn) (hf : f.0 < s.frames) (none : names_of m.tables f ≡ None) (d : Asid) (v : Gvpn) (hd : Within s d v)
      (lives : T (not (is_empty (life_of m.tables d)))) (shared : place_of s m.tables d v ≡ Public) where
    pub cloak_enters : Enters g m f d v Dirty (zeros s.size)
    unfolding wear_sound
    cloak_enters =
        record {
          accepted = accepted;
          frame = hf;
          within = hd;
          lives = lives;
          none = none;
          away = λ j c. rw shared at c;
          worn = tt;
          whole = length_zeros s.size;
        }

    pub cloak_accepted : Accepted g (cloaked s f d v m)
    unfolding cloaked
    cloak_accepted = enter_accepted g m f d v Dirty (zeros s.size) cloak_enters m.unveils

    pub cloak_fate : (e : Asid) (w : Gvpn) → Within s e w → (b : Bool) → same_number s d v e w ≡ b
        → Fate s e w m (cloaked s f d v m) (cond b zeroed kept)
    unfolding cloaked same_number
    cloak_fate e w he true q =
        let k = number_one s d e v w hd.page he.page (eqb-true _ _ q) in
        let h = enter_holds g m f d v Dirty (zeros s.size) cloak_enters m.unveils in
        rw (← k.0, ← k.1) (is_zeroed f h.place (cloak_zeroes s f d v m hf accepted.looks.frames))
    cloak_fate e w he false q =
        is_kept (is_same (enter_stays g m f d v Dirty (zeros s.size) cloak_enters m.unveils e w he (λ p. eqb-false _ _ q (sym p))))

  -- uncloak
  module _ (d : Asid) (v : Gvpn) (hd : Within s d v) (lives : T (not (is_empty (life_of m.tables d)))) where
    dropped_store : (k : Machine) → k.store ≡ m.store → (e : Asid) (w : Gvpn) → page_number s e w ≢ page_number s d v
        → slot_bytes s e w (fill_slot s d v (zeros s.size) k) ≡ slot_bytes s e w m
    dropped_store k q e w ne =
        rw q
        (part_other s.size (page_number s d v) (zeros s.size) m.store (length_zeros s.size)
        (slot_fits s d v m hd accepted.looks.store) (page_number s e w) ne)

    zeroed_pages : (p : Place) → (zero_if_clear s p m).tables.pages ≡ m.tables.pages
    unfolding zero_if_clear
    zeroed_pages Public = refl
    zeroed_pages (Clear f w) = refl
    zeroed_pages (Sealed k) = refl

    uncloak_accepted_at : (p : Place) → place_of s m.tables d v ≡ p → is_public p ≡ false → Accepted g (uncloaked_at s d v p m)
    unfolding uncloaked_at zero_if_clear place_sound names_sound
    uncloak_accepted_at Public e q = absurd (true≢false q)
    uncloak_accepted_at (Clear f w) e q =
        let n = accepted.looks.agrees.named d v f w hd.domain hd.page e in
        accepted_kept g m (uncloaked_at s d v (Clear f w) m) accepted (length_with_part s.size f.0 _ m.frames)
        (length_with_part s.size (page_number s d v) (zeros s.size) m.store)
        (moved_sound g m accepted d v hd f n.0 lives (λ h c. clear_in f h w _ e c)
        (λ x y r.
        let names = n.1 in
        let one : ◌≡◌ {A = Asid × Gvpn} (x, y) (d, v) = cc in
        ap (λ (p : Asid × Gvpn). page_number s p.0 p.1) one)
        m.tables.used (omega arith) accepted.looks.sound.used Public None tt tt)
    uncloak_accepted_at (Sealed k) e q =
        accepted_kept g m (uncloaked_at s d v (Sealed k) m) accepted refl
        (length_with_part s.size (page_number s d v) (zeros s.size) m.store)
        (place_replaced g m accepted d v hd Public tt lives (λ h c. absurd (rw e at c)))

    uncloak_stays_at : (p : Place) → place_of s m.tables d v ≡ p → (e : Asid) (w : Gvpn) → Within s e w
        → page_number s e w ≢ page_number s d v → Stays s e w m (uncloaked_at s d v p m)
    unfolding uncloaked_at zero_if_clear
    uncloak_stays_at Public q e w he ne =
        record {
          place = place_other s m.tables d v _ e w ne;
          frame = λ f z c. refl;
          slot = dropped_store m refl e w ne;
          used = omega arith;
        }
    uncloak_stays_at (Clear f y) q e w he ne =
        let n = accepted.looks.agrees.named d v f y hd.domain hd.page q in
        let page = whole_page s.size f.0 m.frames (part_fits s.size f.0 s.frames n.0 accepted.looks.frames) in
        record {
          place = place_other s m.tables d v _ e w ne;
          frame =
              λ h z c.
              unfilled s f n.0 m accepted.looks.frames _ (omega arith) h
              (frames_apart s m.tables accepted.looks.agrees f d v n.1 e w he ne h z c);
          slot = dropped_store m refl e w ne;
          used = omega arith;
        }
    uncloak_stays_at (Sealed k) q e w he ne =
        record {
          place = place_other s m.tables d v _ e w ne;
          frame = λ f z c. refl;
          slot = dropped_store m refl e w ne;
          used = omega arith;
        }

    pub uncloak_accepted : is_public (place_of s m.tables d v) ≡ false → Accepted g (uncloaked s d v m)
    unfolding uncloaked uncloaked_at
    uncloak_accepted q = uncloak_accepted_at (place_of s m.tables d v) refl q

    uncloak_place : place_of s (uncloaked s d v m).tables d v ≡ Public
    unfolding uncloaked
    uncloak_place =
        let p = place_of s m.tables d v in
        place_same s (zero_if_clear s p m).tables d v
        (rw (zeroed_pages p) (number_long g m accepted d v hd)) Public

    pub uncloak_fate : (e : Asid) (w : Gvpn) → Within s e w → (b : Bool) → same_number s d v e w ≡ b
        → Fate s e w m (uncloaked s d v m) (cond b dropped kept)
    unfolding same_number uncloaked uncloaked_at
    uncloak_fate e w he true q =
        let k = number_one s d e v w hd.page he.page (eqb-true _ _ q) in
        rw (← k.0, ← k.1) (is_dropped uncloak_place)
    uncloak_fate e w he false q =
        is_kept (is_same (uncloak_stays_at (place_of s m.tables d v) refl e w he (λ p. eqb-false _ _ q (sym p))))
