-- Saved registers are eight words of each context: at the start, and after every event.
use Rattle.std.specs.Prelude.{Option, Some, None}
use mathlib.Core.Path.{◌≡◌, refl, ap, ◌∙◌}
use mathlib.Core.List.{List, [], ◌∷◌}
use mathlib.Core.Bool.{Bool, true, false, cond}
use Prim.Native.Nat.{ℕ, zero, suc}
use lib.ListN.{length, get_or, set}
use lib.Dec.{eqb}
use Rattle.rules.specs.Bytes.{same_bytes, zeros, words_in, map_from}
use Rattle.rules.specs.Sizes.{max_contexts}
use Rattle.rules.specs.Records.{Given, Machine, machine, fresh_state, zero_registers, place_of, names_of, is_in, activity_of, domain_of}
use Rattle.rules.specs.Records.{frame_bytes, with_life, on_tables}
use Rattle.rules.specs.Sealing.{Effect, done, failed, and_then, signature, seal_page, seal_at, seal_named, seal, seal_all, unveiled}
use Rattle.rules.specs.Sealing.{unveil, bring_in_at, bring_in}
use Rattle.rules.specs.Events.{row, ended, span_bytes, store_span, cloaked, zero_if_clear, uncloaked, marked_dirty, turned, does, own_frame}
use Rattle.rules.specs.Answers.{refusal, refused, performed, perform, outset, step_from, step, start_refusal, start}
use Rattle.rules.specs.Runs.{Ask, after}
use Rattle.rules.proofs.Lists.{get_d_fresh}
use Rattle.rules.specs.declared.Setup.{Setup}
use Rattle.rules.specs.declared.Tables.{Tables}
use Rattle.rules.specs.declared.Asid.{Asid}
use Rattle.rules.specs.declared.Gvpn.{Gvpn}
use Rattle.rules.specs.declared.Gppn.{Gppn}
use Rattle.rules.specs.declared.Registers.{Registers}
use Rattle.rules.specs.declared.Life.TheVariants.{Stopped}
use Rattle.rules.specs.declared.Place.{Place}
use Rattle.rules.specs.declared.Place.TheVariants.{Public, Clear, Sealed}
use Rattle.rules.specs.declared.Event.{Event}
use Rattle.rules.specs.declared.Event.TheVariants.{Begin, End, Map, Unmap, KernelRead, KernelWrite, Resume, Spawn, Leave, Cloak}
use Rattle.rules.specs.declared.Event.TheVariants.{Uncloak, Read, Write, Trap}

abbrev pub Eights : List Registers → Type 0
Eights saved = (i : ℕ) → length (get_or saved i zero_registers).words ≡ 8

-- one context's registers changed, and all of them
eights_set : (l : List Registers) (i : ℕ) (words : List ℕ) → length words ≡ 8 → Eights l → Eights (set l i (record { words = words }))
eights_set [] i words long h j = h j
eights_set (r ∷ l) zero words long h zero = long
eights_set (r ∷ l) zero words long h (suc j) = h (suc j)
eights_set (r ∷ l) (suc i) words long h zero = h zero
eights_set (r ∷ l) (suc i) words long h (suc j) = eights_set l i words long (λ k. h (suc k)) j

eights_map : (f : ℕ → Registers → Registers) → ((i : ℕ) (r : Registers) → length r.words ≡ 8 → length (f i r).words ≡ 8)
    → (l : List Registers) (k : ℕ) → Eights l → Eights (map_from f k l)
unfolding map_from
eights_map f keeps [] k h j = h j
eights_map f keeps (r ∷ l) k h zero = keeps k r (h zero)
eights_map f keeps (r ∷ l) k h (suc j) = eights_map f keeps l (suc k) (λ i. h (suc i)) j

length_words : (n : ℕ) (bytes : List ℕ) → length (words_in n bytes) ≡ n
unfolding words_in
length_words zero bytes = refl
length_words (suc n) bytes = ap suc (length_words n _)

-- what seals and unveils leaves them as they are
module _ (g : Given) where
  seal_at_holds : (f : Gppn) (d : Asid) (v : Gvpn) (p : Place) (m : Machine) → (seal_at g f d v p m).saved ≡ m.saved
  unfolding seal_at seal_page
  seal_at_holds f d v Public m = refl
  seal_at_holds f d v (Clear h w) m = refl
  seal_at_holds f d v (Sealed k) m = refl

  seal_named_holds : (f : Gppn) (n : Option (Asid × Gvpn)) (m : Machine) → (seal_named g f n m).saved ≡ m.saved
  unfolding seal_named
  seal_named_holds f None m = refl
  seal_named_holds f (Some (d, v)) m = seal_at_holds f d v (place_of g.setup m.tables d v) m

  seal_all_holds : (fs : List Gppn) (m : Machine) → (seal_all g fs m).saved ≡ m.saved
  unfolding seal_all seal
  seal_all_holds [] m = refl
  seal_all_holds (f ∷ fs) m = seal_all_holds fs (seal g f m) ∙ seal_named_holds f (names_of m.tables f) m

  unveil_by : (f : Gppn) (d : Asid) (v : Gvpn) (k : ℕ) (m : Machine) → (unveil g f d v k m).machine.saved ≡ m.saved
  unfolding unveil unveiled done failed
  unveil_by f d v k m = by (same_bytes (frame_bytes g.setup f m) (signature g k))
    where
      by : (b : Bool) → (cond b (done (unveiled g f d v k m) []) (failed (on_tables (with_life d Stopped) m))).machine.saved ≡ m.saved
      by true = refl
      by false = refl

  bring_in_holds : (f : Gppn) (d : Asid) (v : Gvpn) (p : Place) (m : Machine) → (bring_in_at g f d v p m).machine.saved ≡ m.saved
  unfolding bring_in_at done
  bring_in_holds f d v Public m = refl
  bring_in_holds f d v (Clear h w) m = refl
  bring_in_holds f d v (Sealed k) m = unveil_by f d v k m

and_then_holds : (x : Effect) (next : Machine → Effect) → ((n : Machine) → (next n).machine.saved ≡ n.saved)
    → (and_then x next).machine.saved ≡ x.machine.saved
unfolding and_then
and_then_holds x next keeps = by (eqb x.number 0)
  where
    by : (b : Bool) → (cond b (next x.machine) x).machine.saved ≡ x.machine.saved
    by true = keeps x.machine
    by false = refl

uncloaked_saved : (s : Setup) (d : Asid) (v : Gvpn) (m : Machine) → (uncloaked s d v m).saved ≡ m.saved
unfolding uncloaked zero_if_clear
uncloaked_saved s d v m = by (place_of s m.tables d v)
  where
    by : (p : Place) → (zero_if_clear s p m).saved ≡ m.saved
    by Public = refl
    by (Clear f w) = refl
    by (Sealed k) = refl

module _ (g : Given) (t : Tables) (new : List ℕ) (m : Machine) (h : Eights m.saved) where
  does_eights : (e : Event) → Eights (does g t e new m).machine.saved
  unfolding does done bring_in ended store_span cloaked marked_dirty turned zeros
  does_eights (Begin d c) = h
  does_eights (End d) =
      eights_map (λ i r. cond (is_in d (activity_of m.tables (record { 0 = i }))) zero_registers r)
      (λ i r long. zeroed (is_in d (activity_of m.tables (record { 0 = i }))) r long) m.saved 0 h
    where
      zeroed : (b : Bool) (r : Registers) → length r.words ≡ 8 → length (cond b zero_registers r).words ≡ 8
      zeroed true r long = refl
      zeroed false r long = long
  does_eights (Map d v f) = h
  does_eights (Unmap d v) = h
  does_eights (KernelRead f x) = h
  does_eights (KernelWrite f x) = h
  does_eights (Resume d c) = eights_set m.saved c.0 (zeros 8) refl h
  does_eights (Spawn c u) = h
  does_eights (Leave c) = eights_set m.saved c.0 (zeros 8) refl h
  does_eights (Cloak c v) = h
  does_eights (Uncloak c v) = rw (uncloaked_saved g.setup (domain_of t c) v m) h
  does_eights (Read c v x) =
      let f = own_frame g.setup t c v in
      rw (
        and_then_holds (bring_in g f (domain_of t c) v m) (λ n. done n (span_bytes g.setup f x n)) (λ n. refl),
        bring_in_holds g f (domain_of t c) v (place_of g.setup m.tables (domain_of t c) v) m,
      ) h
  does_eights (Write c v x) =
      let f = own_frame g.setup t c v in
      rw (
        and_then_holds (bring_in g f (domain_of t c) v m)
            (λ n. done (marked_dirty g.setup (domain_of t c) v (store_span g.setup f x new n)) []) (λ n. refl),
        bring_in_holds g f (domain_of t c) v (place_of g.setup m.tables (domain_of t c) v) m,
      ) h
  does_eights (Trap c k mask) = eights_set m.saved c.0 (words_in 8 new) (length_words 8 new) h

-- every event keeps them
pub step_eights : (g : Given) (e : Event) (new buffer : List ℕ) (m : Machine) → Eights m.saved
    → Eights (step g e new buffer m).machine.saved
unfolding step step_from performed refused perform outset
step_eights g e new buffer m h = by (eqb (refusal g (outset m) e (length new) (length buffer)) 0)
  where
    by : (b : Bool)
        → Eights (cond b (performed (perform g e new (outset m)) buffer)
        (refused (refusal g (outset m) e (length new) (length buffer)) (outset m) buffer)).machine.saved
    by true =
        let fs = (row g.setup m.tables e).seals in
        does_eights g m.tables new (seal_all g fs (outset m)) (rw (seal_all_holds g fs (outset m)) h) e
    by false = h

-- and the start has them
pub start_eights : (g : Given) (frames store : List ℕ) → Eights (start g frames store).saved
unfolding start
start_eights g frames store = by (eqb (start_refusal g frames store) 0)
  where
    by : (b : Bool)
        → Eights (cond b (machine fresh_state (zeros (length frames)) (zeros (length store))) (machine fresh_state frames store)).saved
    by true i = ap (λ (r : Registers). length r.words) (get_d_fresh max_contexts i zero_registers)
    by false i = ap (λ (r : Registers). length r.words) (get_d_fresh max_contexts i zero_registers)

pub after_eights : (g : Given) (asks : List Ask) (m : Machine) → Eights m.saved → Eights (after g m asks).saved
unfolding after
after_eights g [] m h = h
after_eights g (a ∷ asks) m h = after_eights g asks _ (step_eights g a.event a.new a.buffer m h)
