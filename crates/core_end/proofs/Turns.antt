-- A turn of a loop over the image: the records before are changed, and so is the next.
use Rattle.std.specs.Prelude.{Option, Some, None}
use mathlib.Core.Path.{◌≡◌, refl, sym, ap, subst, ◌∙◌}
use mathlib.Core.List.{List, map}
use Prim.Native.Nat.{ℕ, ◌+◌, ◌*◌, ◌-◌, ◌/◌, ◌%◌, ◌≤◌, ◌<◌}
use native.Mathlib.Nat.{mod-lt}
use lib.Dec.{eqb}
use native.Mathlib.Omega.{arith}
use lib.ListN.{length, get_or, set, replicate}
use lib.Seq.{sets}
use Rattle.rules.specs.Bytes.{map_from, with_part, zeros}
use Rattle.rules.specs.Events.{ended_tables, zero_named, ended}
use Rattle.rules.specs.declared.Gvpn.{Gvpn}
use Rattle.rules.specs.declared.Setup.{Setup}
use Rattle.rules.specs.declared.Life.TheVariants.{Empty}
use Rattle.core_seal.specs.Under.{Leaves}
use Rattle.rules.specs.Sizes.{max_contexts, max_frames}
use Rattle.rules.specs.Records.{machine, public_page, free_context, open_frame, zero_registers}
use Rattle.rules.specs.declared.Tables.{Tables}
use Rattle.rules.specs.declared.FrameRecord.{FrameRecord}
use Rattle.rules.specs.declared.Activity.TheVariants.{Free}
use mathlib.Core.Bool.{Bool, true, false, cond}
use Rattle.rules.specs.declared.Asid.{Asid}
use Rattle.rules.specs.Records.{is_in}
use Rattle.rules.specs.Records as Records
use Rattle.core_tables.specs.Words.{names_in, NamesFit}
use Rattle.core_tables.specs.Image.{frames_at, word_at, tables_in, saved_in, state_in}
use Rattle.core_tables.specs.Put.{Put, set_page, set_names, set_activity, set_life}
use Rattle.core_tables.proofs.Puts.{then}
use Rattle.core_tables.proofs.Reading.{long, frame_there}
use Rattle.core_tables.proofs.Registers.{length_saved, saved_past}
use Rattle.core_end.specs.Ending.{freed_of, opened_of, cleared_of, with_contexts, with_pages, with_frames}
use Rattle.core_end.proofs.Laws.{map_up_to, up_to_rest, turn, stay, sets_more}

-- an image holds what it holds
pub same : (v : ℕ) (x : List ℕ) → Put v x x (tables_in v x)
same v x = record { tables = refl; canonical = λ c. c }

module _ (v : ℕ) (x y : List ℕ) (i : ℕ) (d : Asid) {b : Bool} where
  -- a frame, by whether it names a page of domain d
  module _ (h : i < max_frames)
      (inv : Put v x y (with_frames (map_up_to (λ _. opened_of d) 0 i (tables_in v x).frames) (tables_in v x)))
      (is : b ≡ Records.names_in d (get_or (tables_in v y).frames i open_frame).names) where
    frames_before : (tables_in v y).frames ≡ map_up_to (λ _. opened_of d) 0 i (tables_in v x).frames
    frames_before = ap (λ (t : Tables). t.frames) inv.tables

    frames_listed : i < length (tables_in v x).frames
    frames_listed = rw (long v x).frames h

    pub frame_opened : {z : List ℕ} → b ≡ true → Put v y z (set_names i None (tables_in v y))
        → Put v x z (with_frames (map_up_to (λ _. opened_of d) 0 (i + 1) (tables_in v x).frames) (tables_in v x))
    frame_opened e put =
        let next : set (tables_in v y).frames i open_frame ≡ map_up_to (λ _. opened_of d) 0 (i + 1) (tables_in v x).frames =
        turn (λ _. opened_of d) open_frame i (tables_in v x).frames _ frames_listed frames_before (rw (sym is ∙ e) refl) in
        rw (← frames_before, next) at (then (set_names i None) inv put)

    pub frame_stays : b ≡ false
        → Put v x y (with_frames (map_up_to (λ _. opened_of d) 0 (i + 1) (tables_in v x).frames) (tables_in v x))
    frame_stays e =
        let next : (tables_in v y).frames ≡ map_up_to (λ _. opened_of d) 0 (i + 1) (tables_in v x).frames =
        stay (λ _. opened_of d) open_frame i (tables_in v x).frames _ frames_listed frames_before (rw (sym is ∙ e) refl) in
        rw (← frames_before, next) at inv

  -- a context, by whether it is in domain d
  module _ (h : i < max_contexts)
      (inv : Put v x y (with_contexts (map_up_to (λ _. freed_of d) 0 i (tables_in v x).contexts) (tables_in v x)))
      (is : b ≡ is_in d (get_or (tables_in v y).contexts i free_context).activity) where
    contexts_before : (tables_in v y).contexts ≡ map_up_to (λ _. freed_of d) 0 i (tables_in v x).contexts
    contexts_before = ap (λ (t : Tables). t.contexts) inv.tables

    contexts_listed : i < length (tables_in v x).contexts
    contexts_listed = rw (long v x).contexts h

    pub context_freed : {z : List ℕ} → b ≡ true → Put v y z (set_activity i Free (tables_in v y))
        → Put v x z (with_contexts (map_up_to (λ _. freed_of d) 0 (i + 1) (tables_in v x).contexts) (tables_in v x))
    context_freed e put =
        let next : set (tables_in v y).contexts i free_context ≡ map_up_to (λ _. freed_of d) 0 (i + 1) (tables_in v x).contexts =
        turn (λ _. freed_of d) free_context i (tables_in v x).contexts _ contexts_listed contexts_before (rw (sym is ∙ e) refl) in
        rw (← contexts_before, next) at (then (set_activity i Free) inv put)

    pub context_stays : b ≡ false
        → Put v x y (with_contexts (map_up_to (λ _. freed_of d) 0 (i + 1) (tables_in v x).contexts) (tables_in v x))
    context_stays e =
        let next : (tables_in v y).contexts ≡ map_up_to (λ _. freed_of d) 0 (i + 1) (tables_in v x).contexts =
        stay (λ _. freed_of d) free_context i (tables_in v x).contexts _ contexts_listed contexts_before (rw (sym is ∙ e) refl) in
        rw (← contexts_before, next) at inv

-- page i becomes Public, and those before it from the first on are
pub turn_pages : (v : ℕ) (x y : List ℕ) (first i : ℕ) {z : List ℕ} → first ≤ i
    → Put v x y (with_pages (sets (tables_in v x).pages first (replicate (i - first) public_page)) (tables_in v x))
    → Put v y z (set_page i public_page (tables_in v y))
    → Put v x z (with_pages (sets (tables_in v x).pages first (replicate (i + 1 - first) public_page)) (tables_in v x))
turn_pages v x y first i h inv put =
    let next : set (sets (tables_in v x).pages first (replicate (i - first) public_page)) i public_page
    ≡ sets (tables_in v x).pages first (replicate (i + 1 - first) public_page) =
    sets_more public_page (tables_in v x).pages first i h in
    rw next at (then (set_page i public_page) inv put)

-- saved registers of n contexts, x being the tables' words
module _ (n v : ℕ) (d : Asid) (x y z : List ℕ) (i : ℕ) {b : Bool} (few : n ≤ max_contexts) (h : i < n)
    (inv : saved_in n z ≡ map_up_to (cleared_of d (tables_in v x).contexts) 0 i (saved_in n y))
    (is : b ≡ is_in d (get_or (tables_in v x).contexts i free_context).activity) where
  saved_listed : i < length (saved_in n y)
  saved_listed = rw (length_saved n y few) (omega arith)

  pub saved_cleared : (z' : List ℕ) → b ≡ true → saved_in n z' ≡ set (saved_in n z) i zero_registers
      → saved_in n z' ≡ map_up_to (cleared_of d (tables_in v x).contexts) 0 (i + 1) (saved_in n y)
  saved_cleared z' e put =
      put ∙ turn (cleared_of d (tables_in v x).contexts) zero_registers i (saved_in n y) _ saved_listed inv (rw (sym is ∙ e) refl)

  pub saved_stays : b ≡ false → saved_in n z ≡ map_up_to (cleared_of d (tables_in v x).contexts) 0 (i + 1) (saved_in n y)
  saved_stays e =
      stay (cleared_of d (tables_in v x).contexts) zero_registers i (saved_in n y) _ saved_listed inv (rw (sym is ∙ e) refl)

either : {A : Type 0} (b : Bool) (a : A) → cond b a a ≡ a
either true a = refl
either false a = refl

-- all n contexts are done: the registers past them are zero and stay so
pub all_cleared : (n v : ℕ) (d : Asid) (x y : List ℕ) (i : ℕ) → n ≤ max_contexts → n ≤ i
    → map_up_to (cleared_of d (tables_in v x).contexts) 0 i (saved_in n y)
    ≡ map_from (cleared_of d (tables_in v x).contexts) 0 (saved_in n y)
all_cleared n v d x y i few all =
    up_to_rest (cleared_of d (tables_in v x).contexts) zero_registers 0 i (saved_in n y)
    (λ j a b.
    let past : j < max_contexts = rw (length_saved n y few) at b in
    rw (saved_past n j y (omega arith) past)
    (either (is_in d (get_or (tables_in v x).contexts (0 + j) free_context).activity) zero_registers))

-- what a frame names is a page of a domain's, and so is what it names once domain d has ended
names_fit : (v w : ℕ) → 1 ≤ v → NamesFit v (names_in v w)
unfolding names_in NamesFit
names_fit v w some = by (eqb w 0)
  where
    by : (b : Bool) → NamesFit v (cond b None (Some (record { 0 = (w - 1) / v % 256 }, record { 0 = (w - 1) % v })))
    by true = tt
    by false = mod-lt (w - 1) {m = v} some

-- what frame i names, of an image
module _ (v : ℕ) (y : List ℕ) (i : ℕ) (some : 1 ≤ v) (h : i < max_frames) where
  abbrev named : Option (Asid × Gvpn)
  named = (get_or (tables_in v y).frames i open_frame).names

  pub named_fits : NamesFit v named
  named_fits =
      subst (NamesFit v) (sym (ap (λ (r : FrameRecord). r.names) (frame_there v y i h))) (names_fit v (word_at y (frames_at + i)) some)

-- all of it; the tables' words are x, b, c, e, f in turn, the saved registers' y and z
pub all_ended : (s : Setup) (d : Asid) (frames store : List ℕ) (x y z : List ℕ) {b c e f frames' store' : List ℕ}
    → frames' ≡ zero_named s d 0 (tables_in s.pages x).frames frames
    → store' ≡ with_part (s.pages * s.size) d.0 (zeros (s.pages * s.size)) store
    → saved_in s.contexts z ≡ map_from (cleared_of d (tables_in s.pages x).contexts) 0 (saved_in s.contexts y)
    → Put s.pages x b (with_contexts (map (freed_of d) (tables_in s.pages x).contexts) (tables_in s.pages x))
    → Put s.pages b c (with_frames (map (opened_of d) (tables_in s.pages b).frames) (tables_in s.pages b))
    → Put s.pages c e
    (with_pages (sets (tables_in s.pages c).pages (d.0 * s.pages) (replicate s.pages public_page)) (tables_in s.pages c))
    → Put s.pages e f (set_life d.0 Empty (tables_in s.pages e))
    → Leaves s.pages x f (machine (state_in s f z) frames' store') (ended s d (machine (state_in s x y) frames store))
unfolding ended ended_tables
all_ended s d frames store x y z ef es p q r u v =
    record {
      is = rw (p, v.tables, u.tables, r.tables, q.tables, ef, es);
      canonical = λ h. v.canonical (u.canonical (r.canonical (q.canonical h)));
    }
