-- What single rules leave in frames and slots: a seal keeps the page's bytes in its slot, an unveil brings them back, a cloaked page is
-- zero, and the end of a domain leaves other frames. Secrecy and freshness rest on these facts; a slip in a rule makes its fact false.
use mathlib.Core.Path.{◌≡◌, refl, sym, ap, ◌∙◌}
use mathlib.Core.Logic.{◌≢◌}
use mathlib.Core.List.{List, [], ◌∷◌}
use mathlib.Core.Bool.{Bool, true, false, cond, true≢false}
use Prim.Native.Nat.{ℕ, suc, ◌+◌, ◌*◌, ◌≤◌, ◌<◌}
use native.Mathlib.Nat.{zero-add, add-zero, suc-add, add-suc}
use native.Mathlib.Omega.{arith}
use lib.ListN.{length, get_or}
use lib.Dec.{T}
use Rattle.rules.specs.Bytes.{part, with_part, zeros, same_bytes}
use Rattle.rules.specs.Sizes.{page_number}
use Rattle.rules.specs.Records.{Given, Machine, open_frame, names_of, names_in, with_life, on_tables, frame_bytes, slot_bytes}
use Rattle.rules.specs.Sealing.{done, failed, signature, sealed_with, seal_page, unveiled, unveil}
use Rattle.rules.specs.Events.{row, on_frame, zero_named, ended, cloaked, written}
use Rattle.rules.specs.declared.Setup.{Setup}
use Rattle.rules.specs.declared.Tables.{Tables}
use Rattle.rules.specs.declared.Asid.{Asid}
use Rattle.rules.specs.declared.Gvpn.{Gvpn}
use Rattle.rules.specs.declared.Gppn.{Gppn}
use Rattle.rules.specs.declared.Span.{Span}
use Rattle.rules.specs.declared.FrameRecord.{FrameRecord}
use Rattle.rules.specs.declared.Life.TheVariants.{Stopped}
use Rattle.rules.specs.declared.Wear.{Wear}
use Rattle.rules.specs.declared.Wear.TheVariants.{Dirty}
use Rattle.rules.specs.declared.Place.TheVariants.{Clear}
use Rattle.rules.specs.declared.Event.TheVariants.{KernelRead, KernelWrite}
use Rattle.rules.proofs.Parts.{length_zeros, length_with_part, length_part, part_fits, part_same, part_other}
use Rattle.rules.proofs.PageNumbers.{number_in}
use Rattle.rules.proofs.Tests.{passes}

-- a page within the setup
pub record Within (s : Setup) (d : Asid) (v : Gvpn) : Type 0 where
  pub domain : d.0 < s.domains
  pub page : v.0 < s.pages

-- whole pages
pub frame_whole : (s : Setup) (f : Gppn) (m : Machine) → f.0 < s.frames → length m.frames ≡ s.frames * s.size
    → length (frame_bytes s f m) ≡ s.size
frame_whole s f m hf e = length_part s.size f.0 m.frames (part_fits s.size f.0 s.frames hf e)

-- what a frame is filled with, zeros or what it held before, is a whole page
pub whole_page : (p k : ℕ) (bytes : List ℕ) → k * p + p ≤ length bytes → (length (zeros p) ≡ p) × (length (part p k bytes) ≡ p)
whole_page p k bytes h = (length_zeros p, length_part p k bytes h)

pub slot_fits : (s : Setup) (d : Asid) (v : Gvpn) (m : Machine) → Within s d v → length m.store ≡ s.domains * s.pages * s.size
    → page_number s d v * s.size + s.size ≤ length m.store
slot_fits s d v m h e = part_fits s.size (page_number s d v) (s.domains * s.pages) (number_in s d v h.page h.domain) e

pub slot_whole : (s : Setup) (d : Asid) (v : Gvpn) (m : Machine) → Within s d v → length m.store ≡ s.domains * s.pages * s.size
    → length (slot_bytes s d v m) ≡ s.size
slot_whole s d v m h e = length_part s.size (page_number s d v) m.store (slot_fits s d v m h e)

pub signature_whole : (g : Given) (k : ℕ) → length g.supply ≡ g.setup.signatures * g.setup.size → k < g.setup.signatures
    → length (signature g k) ≡ g.setup.size
unfolding signature
signature_whole g k e h = length_part g.setup.size k g.supply (part_fits g.setup.size k g.setup.signatures h e)

-- A kernel read, and a kernel write, seal what is Clear in their frame.
pub read_seals : (s : Setup) (t : Tables) (f : Gppn) (x : Span) → (row s t (KernelRead f x)).seals ≡ f ∷ []
unfolding row on_frame
read_seals s t f x = refl

pub write_seals : (s : Setup) (t : Tables) (f : Gppn) (x : Span) → (row s t (KernelWrite f x)).seals ≡ f ∷ []
unfolding row on_frame
write_seals s t f x = refl

module _ (g : Given) (f : Gppn) (d : Asid) (v : Gvpn) (w : Wear) (m : Machine) (hf : f.0 < g.setup.frames)
    (frames : length m.frames ≡ g.setup.frames * g.setup.size) where
  -- A seal keeps the page's bytes in its slot,
  pub seal_keeps_bytes : Within g.setup d v → length m.store ≡ g.setup.domains * g.setup.pages * g.setup.size
      → slot_bytes g.setup d v (seal_page g f d v w m) ≡ frame_bytes g.setup f m
  unfolding seal_page
  seal_keeps_bytes hd store =
      part_same g.setup.size (page_number g.setup d v) (frame_bytes g.setup f m) m.store (frame_whole g.setup f m hf frames)
      (slot_fits g.setup d v m hd store)

  -- and shows a signature in the frame.
  pub seal_shows_signature : length (signature g (sealed_with m.tables.used w)) ≡ g.setup.size
      → frame_bytes g.setup f (seal_page g f d v w m) ≡ signature g (sealed_with m.tables.used w)
  unfolding seal_page
  seal_shows_signature whole =
      part_same g.setup.size f.0 (signature g (sealed_with m.tables.used w)) m.frames whole
      (part_fits g.setup.size f.0 g.setup.frames hf frames)

module _ (g : Given) (f : Gppn) (d : Asid) (v : Gvpn) (k : ℕ) (m : Machine) where
  -- An unveil brings the slot's bytes back,
  pub unveil_restores : f.0 < g.setup.frames → length m.frames ≡ g.setup.frames * g.setup.size → Within g.setup d v
      → length m.store ≡ g.setup.domains * g.setup.pages * g.setup.size
      → frame_bytes g.setup f (unveiled g f d v k m) ≡ slot_bytes g.setup d v m
  unfolding unveiled
  unveil_restores hf frames hd store =
      part_same g.setup.size f.0 (slot_bytes g.setup d v m) m.frames (slot_whole g.setup d v m hd store)
      (part_fits g.setup.size f.0 g.setup.frames hf frames)

  -- where the frame held the page's signature, and else it is answer 8 and the domain is Stopped.
  pub unveil_compares : (b : Bool) → same_bytes (frame_bytes g.setup f m) (signature g k) ≡ b
      → unveil g f d v k m ≡ cond b (done (unveiled g f d v k m) []) (failed (on_tables (with_life d Stopped) m))
  unfolding unveil
  unveil_compares b q = rw q

module _ (s : Setup) (f : Gppn) (d : Asid) (v : Gvpn) (m : Machine) (hf : f.0 < s.frames)
    (frames : length m.frames ≡ s.frames * s.size) where
  -- A page that is cloaked is zero.
  pub cloak_zeroes : frame_bytes s f (cloaked s f d v m) ≡ zeros s.size
  unfolding cloaked
  cloak_zeroes =
      part_same s.size f.0 (zeros s.size) m.frames (length_zeros s.size) (part_fits s.size f.0 s.frames hf frames)

-- A page that is written is dirty.
pub write_dirties : (f : Gppn) (w : Wear) → written (Clear f w) ≡ Clear f Dirty
unfolding written
write_dirties f w = refl

-- only frames within the sizes name a page of the domain
abbrev pub NamesWithin : Setup → Asid → List FrameRecord → ℕ → Type 0
NamesWithin s d rs k = (i : ℕ) → T (names_in d (get_or rs i open_frame).names) → k + i < s.frames

-- the end of a domain changes the frames that name a page of it, and no other
module _ (s : Setup) (d : Asid) where
  pub length_one : (k : ℕ) (b : Bool) (new x : List ℕ) → length (cond b (with_part s.size k new x) x) ≡ length x
  length_one k true new x = length_with_part s.size k new x
  length_one k false new x = refl

  pub length_zero_named : (rs : List FrameRecord) (k : ℕ) (x : List ℕ) → length (zero_named s d k rs x) ≡ length x
  unfolding zero_named
  length_zero_named [] k x = refl
  length_zero_named (r ∷ rs) k x = length_zero_named rs (suc k) _ ∙ length_one k (names_in d r.names) _ x

module _ (s : Setup) (d : Asid) (j : ℕ) where
  one_missed : (k : ℕ) (new x : List ℕ) → length x ≡ s.frames * s.size → (b : Bool) → (T b → length new ≡ s.size) → (T b → k < s.frames)
      → (T b → j ≢ k) → part s.size j (cond b (with_part s.size k new x) x) ≡ part s.size j x
  one_missed k new x e true whole within ne =
      part_other s.size k new x (whole tt) (part_fits s.size k s.frames (within tt) e) j (ne tt)
  one_missed k new x e false whole within ne = refl

  pub within_rest : (r : FrameRecord) (rs : List FrameRecord) (k : ℕ) → NamesWithin s d (r ∷ rs) k → NamesWithin s d rs (suc k)
  within_rest r rs k h i t = rw (add-suc, ← suc-add) at (h (suc i) t)

  pub zero_missed : (rs : List FrameRecord) (k : ℕ) (x : List ℕ) → length x ≡ s.frames * s.size → NamesWithin s d rs k
      → ((i : ℕ) → T (names_in d (get_or rs i open_frame).names) → k + i ≢ j) → part s.size j (zero_named s d k rs x) ≡ part s.size j x
  unfolding zero_named
  zero_missed [] k x e within ne = refl
  zero_missed (r ∷ rs) k x e within ne =
      let here : T (names_in d r.names) → k < s.frames = λ t. rw add-zero at (within 0 t) in
      zero_missed rs (suc k) _ (length_one s d k (names_in d r.names) _ x ∙ e) (within_rest r rs k within)
      (λ i t q. ne (suc i) t (add-suc k i ∙ sym (suc-add k i) ∙ q))
      ∙ one_missed k _ x e (names_in d r.names)
      (λ t. let w = whole_page s.size k x (part_fits s.size k s.frames (here t) e) in omega arith) here
      (λ t q. ne 0 t (add-zero k ∙ sym q))

pub end_keeps : (s : Setup) (d : Asid) (m : Machine) → length m.frames ≡ s.frames * s.size → NamesWithin s d m.tables.frames 0
    → (f : Gppn) → names_in d (names_of m.tables f) ≡ false → frame_bytes s f (ended s d m) ≡ frame_bytes s f m
unfolding ended
end_keeps s d m frames within f e =
    zero_missed s d f.0 m.tables.frames 0 m.frames frames within
    (λ i t q. true≢false (sym (passes _ t) ∙ ap (λ (n : ℕ). names_in d (get_or m.tables.frames n open_frame).names)
    (sym (zero-add i) ∙ q) ∙ e))
