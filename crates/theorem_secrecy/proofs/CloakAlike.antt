-- Two machines that are alike stay so where a context's activity and registers change, and where a page is cloaked or uncloaked.
use Rattle.std.specs.Prelude.{None}
use mathlib.Core.Path.{◌≡◌, refl, subst, ◌∙◌, sym, ap}
use mathlib.Core.List.{List}
use mathlib.Core.Bool.{not}
use Prim.Native.Nat.{ℕ, ◌<◌}
use native.Mathlib.Decide.{ℕ_discrete}
use lib.Dec.{T}
use Rattle.rules.specs.Bytes.{zeros}
use Rattle.rules.specs.Records.{Given, Machine, life_of, place_of, names_of, is_empty, with_activity, with_place, on_tables, fill_slot}
use Rattle.rules.specs.Records.{frame_bytes}
use Rattle.rules.specs.Records.{with_names}
use Rattle.rules.specs.Events.{cloaked, zero_if_clear, uncloaked, turned}
use Rattle.rules.specs.declared.Setup.{Setup}
use Rattle.rules.specs.declared.Tables.{Tables}
use Rattle.rules.specs.declared.Asid.{Asid}
use Rattle.rules.specs.declared.Gvpn.{Gvpn}
use Rattle.rules.specs.declared.Gppn.{Gppn}
use Rattle.rules.specs.declared.Ctc.{Ctc}
use Rattle.rules.specs.declared.Activity.{Activity}
use Rattle.rules.specs.declared.Wear.TheVariants.{Dirty}
use Rattle.rules.specs.declared.Place.{Place}
use Rattle.rules.specs.declared.Place.TheVariants.{Public, Clear, Sealed}
use Rattle.rules.specs.declared.Wear.{Wear}
use Rattle.rules.proofs.Parts.{length_zeros}
use Rattle.rules.proofs.Changes.{names_other}
use Rattle.rules.proofs.PageNumbers.{same_frame}
use Rattle.rules.proofs.Facts.{Accepted}
use Rattle.theorem_reached.proofs.CloakAndUncloak.{uncloaked_at, uncloaked_at_holds, cloak_enters}
use Rattle.theorem_reached.proofs.MakeClear.{unfilled}
use Rattle.theorem_reached.proofs.FramesAndSlots.{Within}
use Rattle.theorem_secrecy.proofs.Alike.{names_alike, place_alike, Alike, tables_alike, saved_alike, slot_alike, enter_alike}
use Rattle.theorem_secrecy.proofs.FreedFrames.{uncloak_zeroes}

module _ (g : Given) (m n : Machine) (gm : Accepted g m) (gn : Accepted g n) (a : Alike g.setup m n) where
  abbrev s : Setup
  s = g.setup

  abbrev t : Tables
  t = m.tables

  pub turned_alike : (c : Ctc) (k : Activity) (x y : List ℕ) → Alike s (turned c k x m) (turned c k y n)
  unfolding turned
  turned_alike c k x y = saved_alike s _ _ (tables_alike s m n a (with_activity c k) (λ t. refl)) c x y

  pub cloaked_alike : (f : Gppn) → f.0 < s.frames → names_of t f ≡ None → (d : Asid) (v : Gvpn) → Within s d v
      → T (not (is_empty (life_of t d))) → place_of s t d v ≡ Public → Alike s (cloaked s f d v m) (cloaked s f d v n)
  unfolding cloaked
  cloaked_alike f hf none d v hd lives place =
      enter_alike g m n a f d v Dirty _ _ (cloak_enters g m gm f hf none d v hd lives place)
      (cloak_enters g n gn f hf (names_alike s m n a f none) d v hd
      (subst (λ (u : Tables). T (not (is_empty (life_of u d)))) a.tables lives) (place_alike s m n a d v place))
      m.unveils n.unveils a.unveils

  -- the frame of a page that is uncloaked is zero in both
  freed_alike : (d : Asid) (v : Gvpn) → Within s d v → (f : Gppn) (w : Wear) → place_of s t d v ≡ Clear f w
      → Alike s (uncloaked_at s d v (Clear f w) m) (uncloaked_at s d v (Clear f w) n)
  unfolding uncloaked_at zero_if_clear
  freed_alike d v hd f w e =
      record {
        tables = ap (λ (u : Tables). with_place s d v Public (with_names f None u)) a.tables;
        seals = a.seals;
        unveils = a.unveils;
        bare = λ h hh q. at h hh q (ℕ_discrete h.0 f.0);
      }
    where
      hf : f.0 < s.frames
      hf = (gm.looks.agrees.named d v f w hd.domain hd.page e).0

      zero : (k : Machine) → Accepted g k → place_of s k.tables d v ≡ Clear f w
          → frame_bytes s f (uncloaked_at s d v (Clear f w) k) ≡ zeros s.size
      zero k accepted place =
          subst (λ (o : Machine). frame_bytes s f o ≡ zeros s.size) (uncloaked_at_holds s d v (Clear f w) k place)
          (uncloak_zeroes s f d v k hf accepted.looks.frames w place)

      at : (h : Gppn) → h.0 < s.frames → names_of (with_names f None t) h ≡ None → Dec (h.0 ≡ f.0)
          → frame_bytes s h (uncloaked_at s d v (Clear f w) m) ≡ frame_bytes s h (uncloaked_at s d v (Clear f w) n)
      at h hh q (yes p) =
          rw (same_frame h f p) (zero m gm e ∙ sym (zero n gn (place_alike s m n a d v e)))
      at h hh q (no ne) =
          unfilled s f hf m gm.looks.frames (zeros s.size) (length_zeros s.size) h ne ∙ a.bare h hh
          (sym (names_other t f None h ne) ∙ q)
          ∙ sym (unfilled s f hf n gn.looks.frames (zeros s.size) (length_zeros s.size) h ne)

  pub uncloaked_alike : (d : Asid) (v : Gvpn) → Within s d v → Alike s (uncloaked s d v m) (uncloaked s d v n)
  unfolding uncloaked_at zero_if_clear
  uncloaked_alike d v hd =
      let p = place_of s t d v in
      rw (uncloaked_at_holds s d v p m refl, uncloaked_at_holds s d v p n (sym (ap (λ (u : Tables). place_of s u d v) a.tables)))
      (at p refl)
    where
      slots : Alike s (on_tables (with_place s d v Public) (fill_slot s d v (zeros s.size) m))
          (on_tables (with_place s d v Public) (fill_slot s d v (zeros s.size) n))
      slots = tables_alike s _ _ (slot_alike s m n a d v (zeros s.size) (zeros s.size)) (with_place s d v Public) (λ u. refl)

      at : (p : Place) → place_of s t d v ≡ p → Alike s (uncloaked_at s d v p m) (uncloaked_at s d v p n)
      at Public e = slots
      at (Clear f w) e = freed_alike d v hd f w e
      at (Sealed k) e = slots
