-- What can become of a page in an event, and which of it each event does: the page's bytes stay as they are, though they may move between
-- its frame and its slot; or it is cloaked, made Public or written. What holds of a page in every reached state is shown by these cases.
use mathlib.Core.Path.{◌≡◌, sym, ap, ◌∙◌, refl}
use mathlib.Core.List.{List, [], ◌∷◌}
use mathlib.Core.Bool.{Bool, cond, true, true≢false}
use Prim.Native.Nat.{ℕ, ◌<◌, ◌≤◌}
use native.Mathlib.Decide.{ℕ_discrete}
use native.Mathlib.Omega.{arith}
use lib.Dec.{eqb}
use Rattle.rules.specs.Bytes.{overlay, zeros}
use Rattle.rules.specs.Sizes.{page_number}
use Rattle.rules.specs.Records.{Given, Machine, place_of, is_public, frame_bytes, slot_bytes, domain_of}
use Rattle.rules.specs.Sealing.{sealed_with, seal_page, seal, seal_all, Effect}
use Rattle.rules.specs.Events.{own_place}
use Rattle.rules.specs.declared.Setup.{Setup}
use Rattle.rules.specs.declared.Asid.{Asid}
use Rattle.rules.specs.declared.Gvpn.{Gvpn}
use Rattle.rules.specs.declared.Gppn.{Gppn}
use Rattle.rules.specs.declared.Wear.{Wear}
use Rattle.rules.specs.declared.Wear.TheVariants.{Dirty, Clean}
use Rattle.rules.specs.declared.Place.{Place}
use Rattle.rules.specs.declared.Place.TheVariants.{Public, Clear, Sealed}
use Rattle.rules.specs.declared.Tables.{Tables}
use Rattle.rules.specs.declared.Event.{Event}
use Rattle.rules.specs.declared.Event.TheVariants.{Begin, End, Map, Unmap, KernelRead, KernelWrite, Resume, Spawn, Leave, Cloak, Uncloak}
use Rattle.rules.specs.declared.Event.TheVariants.{Read, Write, Trap}
use Rattle.rules.proofs.PageNumbers.{number_one}
use Rattle.rules.proofs.Facts.{Accepted}
use Rattle.theorem_reached.proofs.SealFrames.{Enough, Fits, Room, room_held, room_first, room_rest, first_accepted, seal_either}
use Rattle.theorem_reached.proofs.FramesAndSlots.{Within}
use Rattle.theorem_reached.proofs.SealPage.{Holds, Stays, same_stays, sealed_place, sealed_slot, sealed_used, sealed_stays}

-- the page's bytes stay as they are, where they were or moved between frame and slot
pub data Quiet (s : Setup) (d : Asid) (v : Gvpn) : Machine → Machine → Type 0 where
  is_same : {m n : Machine} → Stays s d v m n → Quiet s d v m n
  is_sealed : {m n : Machine} (f : Gppn) (w : Wear) → place_of s m.tables d v ≡ Clear f w
      → place_of s n.tables d v ≡ Sealed (sealed_with m.tables.used w) → slot_bytes s d v n ≡ frame_bytes s f m
      → m.tables.used ≤ n.tables.used → Quiet s d v m n
  is_unveiled : {m n : Machine} (f : Gppn) (k : ℕ) → place_of s m.tables d v ≡ Sealed k → place_of s n.tables d v ≡ Clear f (Clean k)
      → frame_bytes s f n ≡ slot_bytes s d v m → slot_bytes s d v n ≡ slot_bytes s d v m → m.tables.used ≤ n.tables.used → Quiet s d v m n
  and_then_holds : {m n o : Machine} → Quiet s d v m n → Quiet s d v n o → Quiet s d v m o

-- what an event does to a page
pub data Act : Type 0 where
  kept : Act
  zeroed : Act
  dropped : Act
  put : ℕ → List ℕ → Act

-- and how the page then stands: cloaked, it is zero; dropped, it is Public; written, its bytes have new ones laid over them and it is dirty
pub data Fate (s : Setup) (d : Asid) (v : Gvpn) (m n : Machine) : Act → Type 0 where
  is_kept : Quiet s d v m n → Fate s d v m n kept
  is_zeroed : (f : Gppn) → place_of s n.tables d v ≡ Clear f Dirty → frame_bytes s f n ≡ zeros s.size → Fate s d v m n zeroed
  is_dropped : place_of s n.tables d v ≡ Public → Fate s d v m n dropped
  is_put : (o : Machine) (f : Gppn) (w : Wear) (at : ℕ) (new : List ℕ) → Quiet s d v m o → place_of s o.tables d v ≡ Clear f w
      → place_of s n.tables d v ≡ Clear f Dirty → frame_bytes s f n ≡ overlay at new (frame_bytes s f o) → Fate s d v m n (put at new)

unfoldable pub same_number : Setup → Asid → Gvpn → Asid → Gvpn → Bool
same_number s d v e w = eqb (page_number s d v) (page_number s e w)

-- the page's bytes stay as they are where frames are sealed
module _ (g : Given) (d : Asid) (v : Gvpn) (hd : Within g.setup d v) where
  pub seal_quiet : (f : Gppn) (m : Machine) → Accepted g m → f.0 < g.setup.frames → Room g f m → Quiet g.setup d v m (seal g f m)
  seal_quiet f m accepted hf room =
      seal_either g f m accepted hf (Quiet g.setup d v m) (λ _. is_same (same_stays g.setup d v m))
      (λ e x w held. at e x w held (ℕ_discrete (page_number g.setup d v) (page_number g.setup e x)))
    where
      at : (e : Asid) (x : Gvpn) (w : Wear) → Holds g.setup m.tables f e x w
          → Dec (page_number g.setup d v ≡ page_number g.setup e x) → Quiet g.setup d v m (seal_page g f e x w m)
      at e x w held (yes p) =
          let k = number_one g.setup d e v x hd.page held.within.page p in
          let room' = room_held g f m e x w room held in
          rw (k.0, k.1)
          (is_sealed f w held.place (sealed_place g f e x w m accepted held room') (sealed_slot g f e x w m accepted held room')
          (sealed_used g f e x w m accepted held room'))
      at e x w held (no ne) = is_same (sealed_stays g f e x w m accepted held (room_held g f m e x w room held) d v hd ne)

  pub seal_all_quiet : (fs : List Gppn) (m : Machine) → Accepted g m → Fits g.setup fs → Enough g fs m
      → Quiet g.setup d v m (seal_all g fs m)
  unfolding seal_all
  seal_all_quiet [] m accepted fit enough = is_same (same_stays g.setup d v m)
  seal_all_quiet (f ∷ fs) m accepted fit enough =
      and_then_holds (seal_quiet f m accepted fit.0 (room_first g f fs m enough))
      (seal_all_quiet fs (seal g f m) (first_accepted g f fs m accepted fit enough) fit.1 (room_rest g f fs m accepted fit enough))

-- the frame and the slot of a clean page still agree after each of these
unfoldable pub CleanAt : Setup → Asid → Gvpn → Machine → Type 0
CleanAt s d v m = (f : Gppn) (k : ℕ) → place_of s m.tables d v ≡ Clear f (Clean k) → frame_bytes s f m ≡ slot_bytes s d v m

module _ (s : Setup) (d : Asid) (v : Gvpn) where
  quiet_clean : (m n : Machine) → Quiet s d v m n → CleanAt s d v m → CleanAt s d v n
  unfolding CleanAt
  quiet_clean m n (is_same h) c f k e = let was = sym h.place ∙ e in h.frame f (Clean k) was ∙ c f k was ∙ sym h.slot
  quiet_clean m n (is_sealed h w a b slot more) c f k e = let z : ◌≡◌ {A = ℕ} 0 1 = cc in absurd (omega arith)
  quiet_clean m n (is_unveiled h j a b frame slot more) c f k e =
      let q : f ≡ h = cc in
      rw q (frame ∙ sym slot)
  quiet_clean m n (and_then_holds {n = o} a b) c f k e = quiet_clean o n b (quiet_clean m o a c) f k e

  pub fate_clean : (m n : Machine) (a : Act) → Fate s d v m n a → CleanAt s d v m → CleanAt s d v n
  unfolding CleanAt
  fate_clean m n a (is_kept q) c f k e = quiet_clean m n q c f k e
  fate_clean m n a (is_zeroed h p b) c f k e = let z : ◌≡◌ {A = ℕ} 0 1 = cc in absurd (omega arith)
  fate_clean m n a (is_dropped p) c f k e = let z : ◌≡◌ {A = ℕ} 0 1 = cc in absurd (omega arith)
  fate_clean m n a (is_put o h w at new q was p b) c f k e = let z : ◌≡◌ {A = ℕ} 0 1 = cc in absurd (omega arith)

-- a page whose bytes stay as they are is Public or private as before
pub quiet_public : (s : Setup) (d : Asid) (v : Gvpn) (m n : Machine) → Quiet s d v m n
    → is_public (place_of s n.tables d v) ≡ is_public (place_of s m.tables d v)
quiet_public s d v m n (is_same h) = ap is_public h.place
quiet_public s d v m n (is_sealed h w a b slot more) = ap is_public b ∙ sym (ap is_public a)
quiet_public s d v m n (is_unveiled h j a b frame slot more) = ap is_public b ∙ sym (ap is_public a)
quiet_public s d v m n (and_then_holds {n = o} a b) = quiet_public s d v o n b ∙ quiet_public s d v m o a

pub is_public_holds : (p : Place) → is_public p ≡ true → p ≡ Public
is_public_holds Public e = refl
is_public_holds (Clear f w) e = absurd (true≢false (sym e))
is_public_holds (Sealed k) e = absurd (true≢false (sym e))

-- what each event, with data new, does to page e, w
unfoldable pub act_of : Setup → Tables → Event → List ℕ → Asid → Gvpn → Act
act_of s t (Begin d c) new e w = kept
act_of s t (End d) new e w = cond (eqb e.0 d.0) dropped kept
act_of s t (Map d v f) new e w = kept
act_of s t (Unmap d v) new e w = kept
act_of s t (KernelRead f x) new e w = kept
act_of s t (KernelWrite f x) new e w = kept
act_of s t (Resume d c) new e w = kept
act_of s t (Spawn c u) new e w = kept
act_of s t (Leave c) new e w = kept
act_of s t (Cloak c v) new e w = cond (same_number s (domain_of t c) v e w) zeroed kept
act_of s t (Uncloak c v) new e w = cond (same_number s (domain_of t c) v e w) dropped kept
act_of s t (Read c v x) new e w = kept
act_of s t (Write c v x) new e w =
    cond (is_public (own_place s t c v)) kept (cond (same_number s (domain_of t c) v e w) (put x.off new) kept)
act_of s t (Trap c k mask) new e w = kept

-- an effect leaves an acceptable machine, and does to each page what the act says, or, answered 8, leaves its bytes as they are
pub record Did (g : Given) (m : Machine) (act : Asid → Gvpn → Act) (e : Effect) : Type 0 where
  pub accepted : Accepted g e.machine
  pub fate : (d : Asid) (v : Gvpn) → Within g.setup d v
      → Fate g.setup d v m e.machine (cond (eqb e.number 0) (act d v) kept)

-- what becomes of a page after its bytes first stayed as they are
pub after_quiet : (s : Setup) (d : Asid) (v : Gvpn) (m q n : Machine) (a : Act) → Quiet s d v m q → Fate s d v q n a → Fate s d v m n a
after_quiet s d v m q n a moved (is_kept h) = is_kept (and_then_holds moved h)
after_quiet s d v m q n a moved (is_zeroed f p b) = is_zeroed f p b
after_quiet s d v m q n a moved (is_dropped p) = is_dropped p
after_quiet s d v m q n a moved (is_put o f w at new h was now b) = is_put o f w at new (and_then_holds moved h) was now b
