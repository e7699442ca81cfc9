-- Changes of a domain's life, a context's activity and registers, and a page's mapping: the machine stays acceptable, and every page's
-- bytes stay as they are.
use Rattle.std.specs.Prelude.{Option}
use mathlib.Core.Path.{◌≡◌, refl}
use mathlib.Core.List.{List}
use mathlib.Core.Bool.{not}
use Prim.Native.Nat.{ℕ, ◌<◌}
use native.Mathlib.Decide.{ℕ_discrete}
use native.Mathlib.Omega.{arith}
use lib.Dec.{T, lt→ltb}
use Rattle.rules.specs.Sizes.{page_number, domain_in}
use Rattle.rules.specs.Records.{Given, Machine, state_of, life_of, place_of, is_empty, with_life, with_activity, with_mapping, on_tables}
use Rattle.rules.specs.Sound.{begun, activity_sound, mapping_sound}
use Rattle.rules.specs.Events.{turned}
use Rattle.rules.specs.declared.Gppn.{Gppn}
use Rattle.rules.specs.declared.Setup.{Setup}
use Rattle.rules.specs.declared.Asid.{Asid}
use Rattle.rules.specs.declared.Gvpn.{Gvpn}
use Rattle.rules.specs.declared.Ctc.{Ctc}
use Rattle.rules.specs.declared.Life.TheVariants.{Live}
use Rattle.rules.specs.declared.Activity.{Activity}
use Rattle.rules.specs.declared.Activity.TheVariants.{Running}
use Rattle.rules.proofs.PageNumbers.{number_one}
use Rattle.rules.proofs.Changes.{life_same, place_kept}
use Rattle.rules.proofs.Tests.{all}
use Rattle.rules.proofs.Facts.{Accepted, accepted_kept}
use Rattle.theorem_reached.proofs.SoundRecords.{life_sound, activity_changed, saved_sound_holds}
use Rattle.theorem_reached.proofs.SoundPages.{number_long, place_other, mapping_sound_holds}
use Rattle.theorem_reached.proofs.FramesAndSlots.{Within}
use Rattle.theorem_reached.proofs.SealPage.{Stays}

-- changes of a domain's or a context's record leave every page
module _ (g : Given) (m : Machine) (accepted : Accepted g m) where
  abbrev s : Setup
  s = g.setup

  pub activity_accepted : (c : Ctc) → c.0 < s.contexts → (a : Activity) → T (activity_sound s m.tables a)
      → Accepted g (on_tables (with_activity c a) m)
  activity_accepted c hc a ok =
      accepted_kept g m (on_tables (with_activity c a) m) accepted refl refl
      (activity_changed s (state_of m) accepted.looks.sizes accepted.looks.sound c hc a ok)

  pub turned_accepted : (c : Ctc) → c.0 < s.contexts → (a : Activity) → T (activity_sound s m.tables a) → (words : List ℕ)
      → Accepted g (turned c a words m)
  unfolding turned
  turned_accepted c hc a ok words =
      let k = activity_accepted c hc a ok in
      accepted_kept g (on_tables (with_activity c a) m) (turned c a words m) k refl refl
      (saved_sound_holds s (state_of (on_tables (with_activity c a) m)) k.looks.sizes k.looks.sound c hc words)

  pub turned_stays : (c : Ctc) (a : Activity) (words : List ℕ) (d : Asid) (v : Gvpn) → Stays s d v m (turned c a words m)
  unfolding turned
  turned_stays c a words d v = record { place = refl; frame = λ f w e. refl; slot = refl; used = omega arith }

  pub begun_accepted : (d : Asid) → d.0 < s.domains → (c : Ctc) → c.0 < s.contexts
      → Accepted g (on_tables (λ n. with_activity c (Running d) (with_life d Live n)) m)
  unfolding activity_sound begun domain_in
  begun_accepted d hd c hc =
      let live = life_sound s (state_of m) accepted.looks.sizes accepted.looks.sound d hd Live tt in
      let now : life_of (with_life d Live m.tables) d ≡ Live =
      life_same m.tables d Live (omega (arith, accepted.looks.shapes.domains, accepted.looks.sizes.domains)) in
      accepted_kept g m (on_tables (λ n. with_activity c (Running d) (with_life d Live n)) m) accepted refl refl
      (activity_changed s (record { tables = with_life d Live m.tables; saved = m.saved }) accepted.looks.sizes live c hc (Running d)
      (all _ (lt→ltb _ _ hd, (rw now tt, tt))))

  -- a page's mapping
  pub mapping_accepted : (d : Asid) (v : Gvpn) → Within s d v → (y : Option Gppn) → T (mapping_sound s y)
      → T (not (is_empty (life_of m.tables d))) → Accepted g (on_tables (with_mapping s d v y) m)
  mapping_accepted d v hd y ok lives =
      accepted_kept g m (on_tables (with_mapping s d v y) m) accepted refl refl
      (mapping_sound_holds g m accepted d v hd y ok lives)

  pub mapping_stays : (d : Asid) (v : Gvpn) → Within s d v → (y : Option Gppn) (e : Asid) (w : Gvpn) → Within s e w
      → Stays s e w m (on_tables (with_mapping s d v y) m)
  mapping_stays d v hd y e w he =
      record { place = at (ℕ_discrete (page_number s e w) (page_number s d v)); frame = λ f z c. refl; slot = refl; used = omega arith }
    where
      at : Dec (page_number s e w ≡ page_number s d v) → place_of s (with_mapping s d v y m.tables) e w ≡ place_of s m.tables e w
      at (yes p) =
          let k = number_one s e d w v he.page hd.page p in
          rw (k.0, k.1) (place_kept s m.tables d v (number_long g m accepted d v hd) y)
      at (no ne) = place_other s m.tables d v _ e w ne
