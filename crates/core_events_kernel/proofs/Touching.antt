-- Kinds 4 and 5, a kernel's read and write of a frame, where they are granted: what the code asks is given, and what the rules
-- leave.
use mathlib.Core.Path.{◌≡◌, refl, sym}
use mathlib.Core.List.{List}
use Prim.Native.Nat.{ℕ, ◌+◌, ◌*◌, ◌≤◌, ◌<◌}
use native.Mathlib.Omega.{arith}
use lib.ListN.{length, take, drop}
use lib.Dec.{T, ltb→lt, leb→le}
use Rattle.rules.specs.Bytes.{part, overlay, with_part}
use Rattle.rules.specs.Sizes.{frame_in}
use Rattle.rules.specs.Records.{Machine, underway}
use Rattle.rules.specs.Sealing.{seal, seal_all, done}
use Rattle.rules.specs.Events.{numbers_in, span_fits, row, on_frame, does, span_bytes, store_span}
use Rattle.rules.specs.Answers.{perform, performed}
use Rattle.rules.proofs.Facts.{each}
use Rattle.rules.proofs.Parts.{part_fits}
use Rattle.rules.specs.declared.Setup.{Setup}
use Rattle.rules.specs.declared.Gppn.{Gppn}
use Rattle.rules.specs.declared.Span.{Span}
use Rattle.rules.specs.declared.Event.{Event}
use Rattle.rules.specs.declared.Event.TheVariants.{KernelRead, KernelWrite}
use Rattle.core_tables.specs.Image.{tables_in, saved_in}
use Rattle.core_seal.specs.Asked.{Sealable}
use Rattle.core_seal.specs.declared.Work.{Work}
use Rattle.core_seal.proofs.Granted.{sealable}
use Rattle.core_answer.specs.declared.lent.Given.{Given}
use Rattle.core_answer.specs.Handed.{Handed, given_in, machine_in, refuses, stepped, ends}
use Rattle.core_answer.specs.Lending.{handed_with}
use Rattle.core_answer.proofs.Laws.{found, was_accepted, was_granted, granted_leaves}

-- a span that fits is not empty and ends within the page
pub span_within : (s : Setup) (x : Span) → T (span_fits s x) → (0 < x.len) × (x.off + x.len ≤ s.size)
unfolding span_fits
span_within s x t = let e = each _ t in (ltb→lt 0 x.len e.0, leb→le (x.off + x.len) s.size e.1.0)

-- the work at the outset: nothing is sealed or unveiled yet
abbrev pub outset : Work
outset = record { seals = 0; unveils = 0 }

module _ (g : Given) (words saved frames store buffer : List ℕ) (f : Gppn) (x : Span) where
  abbrev with_event : Event → Handed
  with_event e = handed_with g words saved frames store buffer e

  -- of either kind
  module _ (e : Event) (in_frame : numbers_in g.setup e ≡ frame_in g.setup f)
      (on-frame : row g.setup (tables_in g.setup.pages words) e ≡ on_frame g.setup f x) (none : refuses (with_event e) ≡ 0) where
    frame_in_holds : f.0 < g.setup.frames
    unfolding frame_in
    frame_in_holds = ltb→lt f.0 g.setup.frames (rw in_frame at (was_granted _ none).numbers)

    seals_it : Sealable g.setup outset words frames store g.supply.now f
    unfolding on_frame
    seals_it =
        let r = found _ none in
        sealable (given_in (with_event e)) outset (saved_in g.setup.contexts saved) words frames store
        r.tables_long r.canonical f (was_accepted _ none) frame_in_holds (rw on-frame at (was_granted _ none).signatures) (omega arith)

    frame_fits : {n : ℕ} → n ≡ length frames → f.0 * g.setup.size + g.setup.size ≤ n
    frame_fits e = omega (arith, part_fits g.setup.size f.0 g.setup.frames frame_in_holds (was_accepted _ none).looks.frames)

    span_ends : x.off + x.len ≤ g.setup.size
    unfolding on_frame
    span_ends = (span_within g.setup x (rw on-frame at (was_granted _ none).span)).1

  -- 4, kernel read
  module _ (none : refuses (with_event (KernelRead f x)) ≡ 0) where
    pub read_seals : Sealable g.setup outset words frames store g.supply.now f
    unfolding numbers_in row
    read_seals = seals_it (KernelRead f x) refl refl none

    pub read_fits : {n : ℕ} → n ≡ length frames
        → (x.off + x.len ≤ g.setup.size) × (f.0 * g.setup.size + g.setup.size ≤ n) × (x.len ≤ length buffer)
    unfolding numbers_in row
    read_fits e = (
      span_ends (KernelRead f x) refl refl none,
      frame_fits (KernelRead f x) refl refl none e,
      (was_granted _ none).gives,
    )

    pub read_leaves : (m : Machine) {answer : List ℕ}
        → m ≡ seal (given_in (with_event (KernelRead f x))) f (machine_in (with_event (KernelRead f x)))
        → answer ≡ overlay 0 (take x.len (drop x.off (part g.setup.size f.0 m.frames))) buffer
        → ends g.setup 0 m answer ≡ stepped (with_event (KernelRead f x))
    unfolding perform performed row on_frame seal_all does done span_bytes
    read_leaves m e q = rw (q, e) (sym (granted_leaves (with_event (KernelRead f x)) none))

  -- 5, kernel write
  module _ (none : refuses (with_event (KernelWrite f x)) ≡ 0) where
    pub write_seals : Sealable g.setup outset words frames store g.supply.now f
    unfolding numbers_in row
    write_seals = seals_it (KernelWrite f x) refl refl none

    pub write_fits : {n : ℕ} → n ≡ length frames
        → (x.off + length g.«data».now ≤ g.setup.size) × (f.0 * g.setup.size + g.setup.size ≤ n)
    unfolding numbers_in row
    write_fits e =
        let brings : length g.«data».now ≡ x.len = (was_granted _ none).brings in
        (rw brings (span_ends (KernelWrite f x) refl refl none), frame_fits (KernelWrite f x) refl refl none e)

    pub write_leaves : (m : Machine) {bytes : List ℕ}
        → m ≡ seal (given_in (with_event (KernelWrite f x))) f (machine_in (with_event (KernelWrite f x)))
        → bytes ≡ with_part g.setup.size f.0 (overlay x.off g.«data».now (part g.setup.size f.0 m.frames)) m.frames
        → ends g.setup 0 (underway m.tables m.saved bytes m.store m.seals m.unveils) buffer
        ≡ stepped (with_event (KernelWrite f x))
    unfolding perform performed row on_frame seal_all does done store_span overlay
    write_leaves m e q = rw (q, e) (sym (granted_leaves (with_event (KernelWrite f x)) none))
