-- When two machines are alike to the kernel, and the operations that keep them so: sealing, making a page Clear in a frame, filling a
-- frame, ending a domain.
use Rattle.std.specs.Prelude.{Option, Some, None}
use mathlib.Core.Path.{◌≡◌, refl, sym, ap, ◌∙◌, subst}
use mathlib.Core.List.{List, [], ◌∷◌}
use mathlib.Core.Bool.{Bool, true, false, cond}
use Prim.Native.Nat.{ℕ, ◌+◌, ◌≤◌, ◌<◌}
use native.Mathlib.Decide.{ℕ_discrete}
use lib.ListN.{length, get_or}
use Rattle.rules.specs.Records.{place_of, Given, Machine, open_frame, names_of, names_in, with_names, with_place, on_tables, with_saved}
use Rattle.rules.specs.Records.{frame_bytes}
use Rattle.rules.specs.Records.{fill_frame, fill_slot}
use Rattle.rules.specs.Bytes.{zeros}
use Rattle.rules.specs.Sealing.{needed, signature, sealed_with, takes, sealed_tables, seal_page, seal, seal_all}
use Rattle.rules.specs.Events.{ended_tables, ended}
use Rattle.rules.specs.declared.Place.{Place}
use Rattle.rules.specs.declared.Setup.{Setup}
use Rattle.rules.specs.declared.Tables.{Tables}
use Rattle.rules.specs.declared.Asid.{Asid}
use Rattle.rules.specs.declared.Gvpn.{Gvpn}
use Rattle.rules.specs.declared.Gppn.{Gppn}
use Rattle.rules.specs.declared.Ctc.{Ctc}
use Rattle.rules.specs.declared.FrameRecord.{FrameRecord}
use Rattle.rules.specs.declared.Wear.{Wear}
use Rattle.rules.specs.declared.Place.TheVariants.{Clear}
use Rattle.rules.proofs.PageNumbers.{same_frame}
use Rattle.rules.proofs.Facts.{Accepted}
use Rattle.theorem_reached.proofs.SealFrames.{Enough, Fits, Room, room_held, room_first, room_rest, first_accepted, seal_either, seal_none}
use Rattle.theorem_reached.proofs.SealFrames.{seal_held}
use Rattle.theorem_reached.proofs.SealPage.{Holds, sealed_frame, others_frame, others_names}
use Rattle.theorem_reached.proofs.MakeClear.{nothing_page, entered, Enters, enter_holds, enter_frames, enter_names, filled, unfilled}
use Rattle.theorem_reached.proofs.EndOfDomain.{ended_names}
use Rattle.theorem_secrecy.proofs.FreedFrames.{end_zeroes}

pub record Alike (s : Setup) (m n : Machine) : Type 0 where
  pub tables : m.tables ≡ n.tables
  pub seals : m.seals ≡ n.seals
  pub unveils : m.unveils ≡ n.unveils
  -- the frames that name no page hold the same bytes
  pub bare : (f : Gppn) → f.0 < s.frames → names_of m.tables f ≡ None → frame_bytes s f m ≡ frame_bytes s f n

-- what one machine's tables say, the other's say too
module _ (s : Setup) (m n : Machine) (a : Alike s m n) where
  pub names_alike : (f : Gppn) {x : Option (Asid × Gvpn)} → names_of m.tables f ≡ x → names_of n.tables f ≡ x
  names_alike f {x} = subst (λ (t : Tables). names_of t f ≡ x) a.tables

  pub place_alike : (d : Asid) (v : Gvpn) {x : Place} → place_of s m.tables d v ≡ x → place_of s n.tables d v ≡ x
  place_alike d v {x} = subst (λ (t : Tables). place_of s t d v ≡ x) a.tables

  holds_alike : {f : Gppn} {d : Asid} {v : Gvpn} {w : Wear} → Holds s m.tables f d v w → Holds s n.tables f d v w
  holds_alike {f} {d} {v} {w} = subst (λ (t : Tables). Holds s t f d v w) a.tables

pub enough_alike : (g : Given) (m n : Machine) → Alike g.setup m n → (fs : List Gppn) → Enough g fs m → Enough g fs n
enough_alike g m n a fs = subst (λ (t : Tables). t.used + needed g.setup t fs ≤ g.setup.signatures) a.tables

-- sealing: the frame holds the same signature in both
module _ (g : Given) (f : Gppn) (m n : Machine) (gm : Accepted g m) (gn : Accepted g n) (a : Alike g.setup m n) where
  seal_page_alike : (d : Asid) (v : Gvpn) (w : Wear) → Holds g.setup m.tables f d v w
      → m.tables.used + takes w ≤ g.setup.signatures → Alike g.setup (seal_page g f d v w m) (seal_page g f d v w n)
  unfolding seal_page sealed_tables
  seal_page_alike d v w holds room =
      record {
        tables = ap (sealed_tables g.setup f d v w) a.tables;
        seals = ap (λ (k : ℕ). k + 1) a.seals;
        unveils = a.unveils;
        bare = λ h hh q. at h hh q (ℕ_discrete h.0 f.0);
      }
    where
      holds' : Holds g.setup n.tables f d v w
      holds' = holds_alike g.setup m n a holds

      room' : n.tables.used + takes w ≤ g.setup.signatures
      room' = subst (λ (t : Tables). t.used + takes w ≤ g.setup.signatures) a.tables room

      at : (h : Gppn) → h.0 < g.setup.frames → names_of (seal_page g f d v w m).tables h ≡ None → Dec (h.0 ≡ f.0)
          → frame_bytes g.setup h (seal_page g f d v w m) ≡ frame_bytes g.setup h (seal_page g f d v w n)
      at h hh q (yes p) =
          rw (same_frame h f p)
          (sealed_frame g f d v w m gm holds room ∙ ap (λ (t : Tables). signature g (sealed_with t.used w)) a.tables
          ∙ sym (sealed_frame g f d v w n gn holds' room'))
      at h hh q (no ne) =
          others_frame g f d v w m gm holds room h ne ∙ a.bare h hh (sym (others_names g f d v w m gm holds room h ne) ∙ q)
          ∙ sym (others_frame g f d v w n gn holds' room' h ne)

  pub seal_alike : f.0 < g.setup.frames → Room g f m → Alike g.setup (seal g f m) (seal g f n)
  seal_alike hf room =
      seal_either g f m gm hf (λ k. Alike g.setup k (seal g f n))
      (λ none. rw (seal_none g f n (names_alike g.setup m n a f none)) a)
      (λ d v w holds.
      rw (seal_held g f n d v w (holds_alike g.setup m n a holds))
      (seal_page_alike d v w holds (room_held g f m d v w room holds)))

pub seal_all_alike : (g : Given) (fs : List Gppn) (m n : Machine) → Accepted g m → Accepted g n → Fits g.setup fs → Enough g fs m
    → Alike g.setup m n → Alike g.setup (seal_all g fs m) (seal_all g fs n)
unfolding seal_all
seal_all_alike g [] m n gm gn fit enough a = a
seal_all_alike g (f ∷ fs) m n gm gn fit enough a =
    let enough' = enough_alike g m n a (f ∷ fs) enough in
    seal_all_alike g fs (seal g f m) (seal g f n) (first_accepted g f fs m gm fit enough) (first_accepted g f fs n gn fit enough') fit.1
    (room_rest g f fs m gm fit enough) (seal_alike g f m n gm gn a fit.0 (room_first g f fs m enough))

module _ (s : Setup) (m n : Machine) (a : Alike s m n) where
  -- records that are changed alike, where no frame's record changes
  pub tables_alike : (change : Tables → Tables) → ((t : Tables) → (change t).frames ≡ t.frames)
      → Alike s (on_tables change m) (on_tables change n)
  tables_alike change same =
      record {
        tables = ap change a.tables;
        seals = a.seals;
        unveils = a.unveils;
        bare = λ f hf q. a.bare f hf (ap (λ (l : List FrameRecord). (get_or l f.0 open_frame).names) (sym (same m.tables)) ∙ q);
      }

  -- saved registers may differ
  pub saved_alike : (c : Ctc) (x y : List ℕ) → Alike s (with_saved c x m) (with_saved c y n)
  saved_alike c x y = record { tables = a.tables; seals = a.seals; unveils = a.unveils; bare = a.bare }

  -- and so may slots
  pub slot_alike : (d : Asid) (v : Gvpn) (x y : List ℕ) → Alike s (fill_slot s d v x m) (fill_slot s d v y n)
  slot_alike d v x y = record { tables = a.tables; seals = a.seals; unveils = a.unveils; bare = a.bare }

-- a frame filled, with the same bytes or while it names a page
module _ (g : Given) (m n : Machine) (gm : Accepted g m) (gn : Accepted g n) (a : Alike g.setup m n) (f : Gppn)
    (hf : f.0 < g.setup.frames)
    (x y : List ℕ) (wx : length x ≡ g.setup.size) (wy : length y ≡ g.setup.size) where
  pub fill_alike : (names_of m.tables f ≡ None → x ≡ y) → Alike g.setup (fill_frame g.setup f x m) (fill_frame g.setup f y n)
  fill_alike same =
      record {
        tables = a.tables;
        seals = a.seals;
        unveils = a.unveils;
        bare = λ h hh q. at h hh q (ℕ_discrete h.0 f.0);
      }
    where
      at : (h : Gppn) → h.0 < g.setup.frames → names_of m.tables h ≡ None → Dec (h.0 ≡ f.0)
          → frame_bytes g.setup h (fill_frame g.setup f x m) ≡ frame_bytes g.setup h (fill_frame g.setup f y n)
      at h hh q (yes p) =
          rw (same_frame h f p)
          (filled g.setup f hf m gm.looks.frames x wx ∙ same (rw (same_frame h f p) at q) ∙ sym
          (filled g.setup f hf n gn.looks.frames y wy))
      at h hh q (no ne) =
          unfilled g.setup f hf m gm.looks.frames x wx h ne ∙ a.bare h hh q ∙ sym
          (unfilled g.setup f hf n gn.looks.frames y wy h ne)

-- a page Clear in a frame that named none: what it holds may differ, since the frame names it
pub enter_alike : (g : Given) (m n : Machine) → Alike g.setup m n → (f : Gppn) (d : Asid) (v : Gvpn) (w : Wear) (x y : List ℕ)
    → Enters g m f d v w x → Enters g n f d v w y → (k l : ℕ) → k ≡ l
    → Alike g.setup (entered g.setup f d v w x k m) (entered g.setup f d v w y l n)
enter_alike g m n a f d v w x y hm hn k l e =
    record {
      tables = ap (λ (t : Tables). with_names f (Some (d, v)) (with_place g.setup d v (Clear f w) t)) a.tables;
      seals = a.seals;
      unveils = e;
      bare = λ h hh q. at h hh q (ℕ_discrete h.0 f.0);
    }
  where
    o : Machine
    o = entered g.setup f d v w x k m

    at : (h : Gppn) → h.0 < g.setup.frames → names_of o.tables h ≡ None → Dec (h.0 ≡ f.0)
        → frame_bytes g.setup h o ≡ frame_bytes g.setup h (entered g.setup f d v w y l n)
    at h hh q (yes p) = absurd (nothing_page {d = d} {v = v} q (rw (same_frame h f p) (enter_holds g m f d v w x hm k).names))
    at h hh q (no ne) =
        enter_frames g m f d v w x hm k h ne ∙ a.bare h hh (sym (enter_names g m f d v w x hm k h ne) ∙ q) ∙ sym
        (enter_frames g n f d v w y hn l h ne)

-- the end of a domain: the frames of its pages are zero in both
pub ended_alike : (g : Given) (m n : Machine) → Accepted g m → Accepted g n → Alike g.setup m n → (d : Asid) → d.0 < g.setup.domains
    → Alike g.setup (ended g.setup d m) (ended g.setup d n)
unfolding ended
ended_alike g m n gm gn a d hd =
    record {
      tables = ap (ended_tables g.setup d) a.tables;
      seals = a.seals;
      unveils = a.unveils;
      bare =
          λ f hf q.
          end_zeroes g m gm d hd f ∙ at f hf (names_in d (names_of m.tables f)) (sym (ended_names g.setup d m.tables f) ∙ q)
          ∙ ap (λ (t : Tables). cond (names_in d (names_of t f)) (zeros g.setup.size) (frame_bytes g.setup f n)) a.tables
          ∙ sym (end_zeroes g n gn d hd f);
    }
  where
    at : (f : Gppn) → f.0 < g.setup.frames → (b : Bool) → cond b None (names_of m.tables f) ≡ None
        → cond b (zeros g.setup.size) (frame_bytes g.setup f m) ≡ cond b (zeros g.setup.size) (frame_bytes g.setup f n)
    at f hf true q = refl
    at f hf false q = a.bare f hf q
