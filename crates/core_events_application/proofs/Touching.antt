-- Kinds 11 and 12, an application's read and write, where they are granted: what the code asks is given, and what the rules leave.
use Rattle.std.specs.Prelude.{Result}
use mathlib.Core.Path.{◌≡◌, refl, sym, ap, ◌∙◌}
use mathlib.Core.List.{List, [], ◌∷◌}
use Prim.Native.Nat.{ℕ, ◌+◌, ◌*◌, ◌≤◌, ◌<◌}
use native.Mathlib.Omega.{arith}
use lib.ListN.{length, take, drop, get_or}
use lib.Seq.{set-get_or}
use lib.Dec.{T, leb→le}
use Rattle.rules.specs.Bytes.{all_of, part, with_part, overlay}
use Rattle.rules.specs.Sizes.{page_number, context_in, page_in}
use Rattle.rules.specs.Records.{Machine, given, underway, public_page, place_of}
use Rattle.rules.specs.Sealing.{Effect, and_then, seal_all, sealed_first, bring_in, done}
use Rattle.rules.specs.Events.{numbers_in, span_fits, row, touching, on_page, own_place, own_frame, does, span_bytes, store_span}
use Rattle.rules.specs.Events.{marked_dirty, written}
use Rattle.rules.specs.Answers.{perform, performed}
use Rattle.rules.proofs.Facts.{each}
use Rattle.rules.specs.declared.Setup.{Setup}
use Rattle.rules.specs.declared.Tables.{Tables}
use Rattle.rules.specs.declared.Registers.{Registers}
use Rattle.rules.specs.declared.Gppn.{Gppn}
use Rattle.rules.specs.declared.Gvpn.{Gvpn}
use Rattle.rules.specs.declared.Ctc.{Ctc}
use Rattle.rules.specs.declared.Span.{Span}
use Rattle.rules.specs.declared.Wear.{Wear}
use Rattle.rules.specs.declared.Wear.TheVariants.{Dirty}
use Rattle.rules.specs.declared.Place.{Place}
use Rattle.rules.specs.declared.Place.TheVariants.{Public, Clear, Sealed}
use Rattle.rules.specs.declared.Event.{Event}
use Rattle.rules.specs.declared.Event.TheVariants.{Read, Write}
use Rattle.core_tables.specs.Image.{image_words, max_entries, tables_in, saved_in, machine_in}
use Rattle.core_tables.specs.Put.{Put, set_page}
use Rattle.core_seal.specs.Asked.{Bringable}
use Rattle.core_seal.specs.Under.{effect}
use Rattle.core_seal.specs.declared.Work.{Work}
use Rattle.core_seal.specs.declared.NotUnveiled.{NotUnveiled}
use Rattle.core_seal.proofs.Granted.{bringable}
use Rattle.core_seal.proofs.Steps.{NotClear}
use Rattle.core_answer.specs.declared.lent.Given.{Given}
use Rattle.core_answer.specs.Handed.{Handed, given_in, refuses, stepped, leaves, ends}
use Rattle.core_answer.specs.Lending.{handed_with}
use Rattle.core_answer.proofs.Laws.{found, was_accepted, was_granted, granted_leaves}
use Rattle.core_events_application.specs.OwnPages.{Owned, own_of, written_tables}
use Rattle.core_events_application.specs.declared.pages.Own.{Own}
use Rattle.core_events_application.proofs.OwnPages.{outset, owned, domain_in_holds, own_number, frame_in_holds, frame_fits}

-- a page that was written, by its place
module _ (v : ℕ) (x : List ℕ) (n : ℕ) (p : Place) (at : p ≡ (get_or (tables_in v x).pages n public_page).place) where
  stays : (p : Place) → NotClear p → p ≡ written p
  unfolding written
  stays Public o = refl
  stays (Clear h w) o = absurd (o h w refl)
  stays (Sealed k) o = refl

  pub dirty_none : NotClear p → Put v x x (written_tables n (tables_in v x))
  dirty_none o =
      let same : (get_or (tables_in v x).pages n public_page).place ≡ written (get_or (tables_in v x).pages n public_page).place =
      rw at at (stays p o) in
      record { tables = rw (← same, set-get_or (tables_in v x).pages n public_page); canonical = λ h. h }

  pub dirty_clear : (f : Gppn) (w : Wear) {y : List ℕ} → p ≡ Clear f w
      → Put v x y
      (set_page n (record { mapping = (get_or (tables_in v x).pages n public_page).mapping; place = Clear f Dirty }) (tables_in v x))
      → Put v x y (written_tables n (tables_in v x))
  unfolding written
  dirty_clear f w clear put = rw (sym at ∙ clear) put

-- a span that fits ends within the page
span_within : (s : Setup) (x : Span) → T (span_fits s x) → x.off + x.len ≤ s.size
unfolding span_fits
span_within s x t = leb→le (x.off + x.len) s.size (each _ t).1.0

-- what bringing in comes to, by its number and its machine
abbrev came : ℕ → Machine → Effect
came n m = record { machine = m; number = n; bytes = [] }

-- what bringing in comes to, where its answer is known
pub known_effect : (s : Setup) (z : List Registers) (y frames store : List ℕ) {r known : Result Work NotUnveiled} {b : Effect}
    → r ≡ known → effect s r z y frames store ≡ b → effect s known z y frames store ≡ b
known_effect s z y frames store is e = rw is at e

module _ (g : Given) (words saved frames store buffer : List ℕ) (c : Ctc) (v : Gvpn) (x : Span) where
  abbrev with_event : Event → Handed
  with_event e = handed_with g words saved frames store buffer e

  abbrev first : Own → List Gppn
  first o = sealed_first o.frame (place_of g.setup (tables_in g.setup.pages words) o.domain v)

  abbrev brought_in : Own → Effect
  brought_in o =
      bring_in (given g.setup g.supply.now) o.frame o.domain v
      (seal_all (given g.setup g.supply.now) (first o) (machine_in g.setup words saved frames store 0 0))

  -- of either kind
  module _ (e : Event)
      (numbers : numbers_in g.setup e ≡ all_of (context_in g.setup c ∷ page_in g.setup v ∷ []))
      (touches : row g.setup (tables_in g.setup.pages words) e ≡ touching g.setup (tables_in g.setup.pages words) c v x)
      (none : refuses (with_event e) ≡ 0) where
    span_ends : x.off + x.len ≤ g.setup.size
    unfolding touching on_page
    span_ends = span_within g.setup x (rw touches at (was_granted _ none).span)

    module _ (o : Own) (is : o ≡ own_of g.setup (tables_in g.setup.pages words) c v) where
      brings : Bringable g.setup outset words frames store g.supply.now o.frame o.domain v (first o)
      unfolding touching on_page own_frame own_place
      brings =
          let r = found _ none in
          bringable (given_in (with_event e)) outset (saved_in g.setup.contexts saved) words frames store
          r.tables_long r.canonical _ (was_accepted _ none) (frame_in_holds (with_event e) c v numbers none o is (rw touches refl)) _ v
          (domain_in_holds (with_event e) c v numbers none o is) (owned (with_event e) c v numbers none).page (omega arith)
          (rw is (rw touches at (was_granted _ none).signatures)) (omega arith)

      in_frame : {n : ℕ} → n ≡ length frames → o.frame.0 * g.setup.size + g.setup.size ≤ n
      unfolding touching on_page
      in_frame q = frame_fits (with_event e) c v numbers none o is (rw touches refl) q

  -- 11, read
  module _ (none : refuses (with_event (Read c v x)) ≡ 0) where
    pub read_owned : Owned g.setup words c v
    unfolding numbers_in
    read_owned = owned (with_event (Read c v x)) c v refl none

    module _ (o : Own) (is : o ≡ own_of g.setup (tables_in g.setup.pages words) c v) where
      pub read_brings : Bringable g.setup outset words frames store g.supply.now o.frame o.domain v (first o)
      unfolding numbers_in row
      read_brings = brings (Read c v x) refl refl none o is

      abbrev gives : Machine → Effect
      gives n = done n (span_bytes g.setup o.frame x n)

      read_is : stepped (with_event (Read c v x))
          ≡ leaves g.setup (performed (and_then (brought_in o) gives) buffer)
      unfolding perform row touching on_page does own_frame own_place
      read_is = rw is (granted_leaves (with_event (Read c v x)) none)

      pub read_fails : (m : Machine) → came 8 m ≡ brought_in o → ends g.setup 8 m buffer ≡ stepped (with_event (Read c v x))
      unfolding and_then performed overlay
      read_fails m e =
          sym (read_is ∙ ap (λ b. leaves g.setup (performed (and_then b gives) buffer)) (sym e))

      pub read_fits : {n : ℕ} → n ≡ length frames
          → (x.off + x.len ≤ g.setup.size) × (o.frame.0 * g.setup.size + g.setup.size ≤ n) × (x.len ≤ length buffer)
      unfolding numbers_in row
      read_fits e = (
        span_ends (Read c v x) refl refl none,
        in_frame (Read c v x) refl refl none o is e,
        (was_granted _ none).gives,
      )

      pub read_gives : (m : Machine) {answer : List ℕ} → came 0 m ≡ brought_in o
          → answer ≡ overlay 0 (take x.len (drop x.off (part g.setup.size o.frame.0 m.frames))) buffer
          → ends g.setup 0 m answer ≡ stepped (with_event (Read c v x))
      unfolding and_then performed done span_bytes
      read_gives m e q =
          rw q (sym (read_is ∙ ap (λ b. leaves g.setup (performed (and_then b gives) buffer)) (sym e)))

  -- 12, write
  module _ (none : refuses (with_event (Write c v x)) ≡ 0) where
    pub write_owned : Owned g.setup words c v
    unfolding numbers_in
    write_owned = owned (with_event (Write c v x)) c v refl none

    module _ (o : Own) (is : o ≡ own_of g.setup (tables_in g.setup.pages words) c v) where
      pub write_brings : Bringable g.setup outset words frames store g.supply.now o.frame o.domain v (first o)
      unfolding numbers_in row
      write_brings = brings (Write c v x) refl refl none o is

      abbrev stores : Machine → Effect
      stores n = done (marked_dirty g.setup o.domain v (store_span g.setup o.frame x g.«data».now n)) []

      write_is : stepped (with_event (Write c v x))
          ≡ leaves g.setup (performed (and_then (brought_in o) stores) buffer)
      unfolding perform row touching on_page does own_frame own_place
      write_is = rw is (granted_leaves (with_event (Write c v x)) none)

      pub write_fails : (m : Machine) → came 8 m ≡ brought_in o → ends g.setup 8 m buffer ≡ stepped (with_event (Write c v x))
      unfolding and_then performed overlay
      write_fails m e =
          sym (write_is ∙ ap (λ b. leaves g.setup (performed (and_then b stores) buffer)) (sym e))

      pub write_fits : {n : ℕ} → n ≡ length frames
          → (x.off + length g.«data».now ≤ g.setup.size) × (o.frame.0 * g.setup.size + g.setup.size ≤ n)
      unfolding numbers_in row
      write_fits e =
          let long : length g.«data».now ≡ x.len = (was_granted _ none).brings in
          (rw long (span_ends (Write c v x) refl refl none), in_frame (Write c v x) refl refl none o is e)

      pub write_marks : {n : ℕ} → n ≡ length words → (n ≡ image_words) × (o.number < max_entries)
      unfolding numbers_in
      write_marks e = (omega (arith, write_owned.tested.long), (own_number (with_event (Write c v x)) c v refl none o is).listed)

      pub write_stores : (m : Machine) {bytes : List ℕ} {t : Tables} → came 0 m ≡ brought_in o
          → bytes
          ≡ with_part g.setup.size o.frame.0 (overlay x.off g.«data».now (part g.setup.size o.frame.0 m.frames)) m.frames
          → t ≡ written_tables o.number m.tables
          → ends g.setup 0 (underway t m.saved bytes m.store m.seals m.unveils) buffer ≡ stepped (with_event (Write c v x))
      unfolding and_then performed done marked_dirty store_span overlay
      write_stores m e b q =
          let number : o.number ≡ page_number g.setup o.domain v = rw is refl in
          rw (q, b, number)
          (sym (write_is ∙ ap (λ b. leaves g.setup (performed (and_then b stores) buffer)) (sym e)))
