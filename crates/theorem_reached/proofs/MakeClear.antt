-- Making a page Clear in a frame that names none, which unveiling and cloaking do, and filling a frame: what then stands in the page's
-- record and frame and in all others, and that the machine stays acceptable.
use Rattle.std.specs.Prelude.{Option, Some, None}
use mathlib.Core.Path.{◌≡◌, refl}
use mathlib.Core.Logic.{◌≢◌}
use mathlib.Core.List.{List}
use mathlib.Core.Bool.{not}
use Prim.Native.Nat.{ℕ, ◌*◌, ◌<◌}
use native.Mathlib.Omega.{arith}
use lib.ListN.{length}
use lib.Dec.{T, eqb_refl, lt→ltb}
use Rattle.rules.specs.Bytes.{with_part}
use Rattle.rules.specs.Sizes.{page_number, domain_in, page_in, frame_in}
use Rattle.rules.specs.Records.{Given, Machine, life_of, place_of, names_of, is_clear_in, is_empty, with_names, with_place, frame_bytes}
use Rattle.rules.specs.Records.{fill_frame}
use Rattle.rules.specs.Sound.{wear_sound, place_sound, names_sound}
use Rattle.rules.specs.Asked.{Agreed}
use Rattle.rules.specs.declared.Setup.{Setup}
use Rattle.rules.specs.declared.Tables.{Tables}
use Rattle.rules.specs.declared.Asid.{Asid}
use Rattle.rules.specs.declared.Gvpn.{Gvpn}
use Rattle.rules.specs.declared.Gppn.{Gppn}
use Rattle.rules.specs.declared.Wear.{Wear}
use Rattle.rules.specs.declared.Wear.TheVariants.{Dirty, Clean}
use Rattle.rules.specs.declared.Place.TheVariants.{Clear}
use Rattle.rules.proofs.Parts.{length_with_part, part_fits, part_same, part_other}
use Rattle.rules.proofs.Changes.{place_same, names_same, names_other}
use Rattle.rules.proofs.Tests.{all}
use Rattle.rules.proofs.PageNumbers.{same_frame}
use Rattle.rules.proofs.Facts.{Accepted, accepted_kept}
use Rattle.theorem_reached.proofs.SoundRecords.{names_self}
use Rattle.theorem_reached.proofs.SoundPages.{number_long, moved_sound, place_other}
use Rattle.theorem_reached.proofs.FramesAndSlots.{Within}
use Rattle.theorem_reached.proofs.SealPage.{Holds, Stays}

-- what names none names no page
pub nothing_page : {d : Asid} {v : Gvpn} {n : Option (Asid × Gvpn)} → n ≡ None → n ≡ Some (d, v) → ⊥
nothing_page p q = cc

-- no page is Clear in a frame that names none
pub none_clear : (s : Setup) (t : Tables) → Agreed s t → (f : Gppn) → names_of t f ≡ None → (d : Asid) (v : Gvpn) → Within s d v
    → (h : Gppn) (w : Wear) → place_of s t d v ≡ Clear h w → h.0 ≢ f.0
none_clear s t agrees f none d v hd h w c q =
    nothing_page none (rw (same_frame h f q) at (agrees.named d v h w hd.domain hd.page c).1)

-- a frame filled
module _ (s : Setup) (f : Gppn) (hf : f.0 < s.frames) (m : Machine) (long : length m.frames ≡ s.frames * s.size) (new : List ℕ)
    (whole : length new ≡ s.size) where
  pub filled : frame_bytes s f (fill_frame s f new m) ≡ new
  filled = part_same s.size f.0 new m.frames whole (part_fits s.size f.0 s.frames hf long)

  pub unfilled : (h : Gppn) → h.0 ≢ f.0 → frame_bytes s h (fill_frame s f new m) ≡ frame_bytes s h m
  unfilled h ne = part_other s.size f.0 new m.frames whole (part_fits s.size f.0 s.frames hf long) h.0 ne

pub fill_accepted : (g : Given) (f : Gppn) (new : List ℕ) (m : Machine) → Accepted g m → Accepted g (fill_frame g.setup f new m)
fill_accepted g f new m accepted =
    accepted_kept g m (fill_frame g.setup f new m) accepted (length_with_part g.setup.size f.0 new m.frames) refl
    accepted.looks.sound

-- the machine with the page d, v Clear in frame f, which holds new; unveiled and cloaked are such
abbrev pub entered : Setup → Gppn → Asid → Gvpn → Wear → List ℕ → ℕ → Machine → Machine
entered s f d v w new unveils m =
    record {
      tables = with_names f (Some (d, v)) (with_place s d v (Clear f w) m.tables);
      saved = m.saved;
      frames = with_part s.size f.0 new m.frames;
      store = m.store;
      seals = m.seals;
      unveils = unveils;
    }

-- the page is in no frame, and frame f can take it
pub record Enters (g : Given) (m : Machine) (f : Gppn) (d : Asid) (v : Gvpn) (w : Wear) (new : List ℕ) : Type 0 where
  pub accepted : Accepted g m
  pub frame : f.0 < g.setup.frames
  pub within : Within g.setup d v
  pub lives : T (not (is_empty (life_of m.tables d)))
  pub none : names_of m.tables f ≡ None
  pub away : (k : Gppn) → T (is_clear_in k (place_of g.setup m.tables d v)) → ⊥
  pub worn : T (wear_sound m.tables w)
  pub whole : length new ≡ g.setup.size

module _ (g : Given) (m : Machine) (f : Gppn) (d : Asid) (v : Gvpn) (w : Wear) (new : List ℕ) (h : Enters g m f d v w new) (k : ℕ) where
  abbrev s : Setup
  s = g.setup

  abbrev n : Machine
  n = entered s f d v w new k m

  pub enter_holds : Holds s n.tables f d v w
  enter_holds =
      record {
        frame = h.frame;
        within = h.within;
        names =
            names_same m.tables f (Some (d, v))
            (omega (arith, h.frame, h.accepted.looks.shapes.frames, h.accepted.looks.sizes.frames));
        place = place_same s m.tables d v (number_long g m h.accepted d v h.within) (Clear f w);
      }

  worn_still : (w : Wear) → T (wear_sound m.tables w) → T (wear_sound n.tables w)
  unfolding wear_sound
  worn_still Dirty t = t
  worn_still (Clean k) t = t

  pub enter_accepted : Accepted g n
  unfolding place_sound names_sound frame_in domain_in page_in
  enter_accepted =
      let now = enter_holds in
      let a = h.accepted in
      accepted_kept g m n a (length_with_part s.size f.0 new m.frames) refl
      (moved_sound g m a d v h.within f h.frame h.lives (λ k c. absurd (h.away k c))
      (λ e y q. absurd (nothing_page h.none q)) m.tables.used (omega arith) a.looks.sound.used (Clear f w) (Some (d, v))
      (all _ (lt→ltb _ _ h.frame, (rw now.names (names_self d v), (worn_still w h.worn, tt))))
      (all _ (lt→ltb _ _ h.within.domain, (lt→ltb _ _ h.within.page, (rw now.place (eqb_refl f.0), tt)))))

  pub enter_frame : frame_bytes s f n ≡ new
  enter_frame = filled s f h.frame m h.accepted.looks.frames new h.whole

  pub enter_frames : (j : Gppn) → j.0 ≢ f.0 → frame_bytes s j n ≡ frame_bytes s j m
  enter_frames = unfilled s f h.frame m h.accepted.looks.frames new h.whole

  pub enter_names : (j : Gppn) → j.0 ≢ f.0 → names_of n.tables j ≡ names_of m.tables j
  enter_names j ne = names_other m.tables f (Some (d, v)) j ne

  pub enter_stays : (e : Asid) (y : Gvpn) → Within s e y → page_number s e y ≢ page_number s d v → Stays s e y m n
  enter_stays e y he ne =
      record {
        place = place_other s m.tables d v _ e y ne;
        frame = λ j z c. enter_frames j (none_clear s m.tables h.accepted.looks.agrees f h.none e y he j z c);
        slot = refl;
        used = omega arith;
      }
