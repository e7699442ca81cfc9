-- Kinds 7, 8 and 13, spawn, leave and trap, where they are granted: what the code asks is given, and what the rules leave.
use mathlib.Core.Path.{◌≡◌, refl, sym, ◌∙◌}
use mathlib.Core.List.{List}
use Prim.Native.Nat.{ℕ, ◌*◌, ◌≤◌, ◌<◌}
use native.Mathlib.Omega.{arith}
use lib.ListN.{length, set}
use lib.Dec.{ltb→lt}
use Rattle.rules.specs.Bytes.{overlay, zeros, words_in, bytes_of}
use Rattle.rules.specs.Sizes.{max_contexts, context_in}
use Rattle.rules.specs.Records.{activity_of, domain_where, zero_registers}
use Rattle.rules.specs.Sealing.{seal_all, done}
use Rattle.rules.specs.Events.{numbers_in, row, acting, does, turned, shown}
use Rattle.rules.specs.Answers.{perform, performed}
use Rattle.rules.proofs.Facts.{each}
use Rattle.rules.specs.declared.Asid.{Asid}
use Rattle.rules.specs.declared.Ctc.{Ctc}
use Rattle.rules.specs.declared.TrapKind.{TrapKind}
use Rattle.rules.specs.declared.Activity.{Activity}
use Rattle.rules.specs.declared.Activity.TheVariants.{Free, Running, Kept}
use Rattle.rules.specs.declared.Event.{Event}
use Rattle.rules.specs.declared.Event.TheVariants.{Spawn, Leave, Trap}
use Rattle.rules.specs.declared.Answer.{Answer}
use Rattle.core_tables.specs.Image.{image_words, tables_in, saved_in}
use Rattle.core_tables.specs.Put.{Put, set_activity}
use Rattle.core_answer.specs.declared.lent.Given.{Given}
use Rattle.core_answer.specs.Handed.{Handed, left, refuses, stepped}
use Rattle.core_answer.specs.Lending.{handed_with}
use Rattle.core_answer.specs.Promises.{Tells}
use Rattle.core_answer.proofs.Laws.{found, was_accepted, was_granted, granted_leaves}

module _ (g : Given) (words saved frames store buffer : List ℕ) (c : Ctc) where
  abbrev with_event : Event → Handed
  with_event e = handed_with g words saved frames store buffer e

  -- the record and the saved registers of a context of the setup's are among those lent
  listed : (e : Event) → refuses (with_event e) ≡ 0 → {i : ℕ} → i < g.setup.contexts
      → (length words ≡ image_words) × (i < max_contexts)
  listed e none h = ((found _ none).tables_long, omega (arith, h, (was_accepted _ none).looks.sizes.contexts))

  abbrev Kept-among : Type 0
  Kept-among = (length saved ≡ 8 * g.setup.contexts) × (g.setup.contexts ≤ max_contexts) × (c.0 < g.setup.contexts)

  kept_among : (e : Event) → refuses (with_event e) ≡ 0 → c.0 < g.setup.contexts → Kept-among
  kept_among e none h = ((found _ none).saved_long, (was_accepted _ none).looks.sizes.contexts, h)

  -- 7, spawn
  module _ (u : Ctc) (none : refuses (with_event (Spawn c u)) ≡ 0) where
    pub spawn_reads : (length words ≡ image_words) × (c.0 < max_contexts)
    unfolding numbers_in context_in
    spawn_reads = listed (Spawn c u) none (ltb→lt c.0 g.setup.contexts (each _ (was_granted _ none).numbers).0)

    pub spawn_runs : (length words ≡ image_words) × (u.0 < max_contexts)
    unfolding numbers_in context_in
    spawn_runs = listed (Spawn c u) none (ltb→lt u.0 g.setup.contexts (each _ (was_granted _ none).numbers).1.0)

    pub spawn_steps : {r : Answer} {activity : Activity} {d : Asid} (ran : List ℕ)
        → ((v : ℕ) → activity ≡ activity_of (tables_in v words) c) → d ≡ domain_where activity
        → ((v : ℕ) → Put v words ran (set_activity u.0 (Running d) (tables_in v words))) → Tells ran 0 0 0 r
        → left r ran saved frames store buffer ≡ stepped (with_event (Spawn c u))
    unfolding perform performed row acting seal_all does done overlay
    spawn_steps ran activity domain runs tells =
        let was = found _ none in
        let q = runs g.setup.pages in
        tells g.setup saved frames store buffer (q.canonical was.canonical) was.saved_long
        ∙ rw (q.tables, domain, activity g.setup.pages) (sym (granted_leaves (with_event (Spawn c u)) none))

  -- 8, leave
  module _ (none : refuses (with_event (Leave c)) ≡ 0) where
    pub leave_kept : Kept-among
    unfolding numbers_in context_in
    leave_kept = kept_among (Leave c) none (ltb→lt c.0 g.setup.contexts (was_granted _ none).numbers)

    pub leave_frees : (length words ≡ image_words) × (c.0 < max_contexts)
    leave_frees = listed (Leave c) none leave_kept.2

    pub leave_steps : {r : Answer} (freed cleared : List ℕ)
        → ((v : ℕ) → Put v words freed (set_activity c.0 Free (tables_in v words)))
        → saved_in g.setup.contexts cleared ≡ set (saved_in g.setup.contexts saved) c.0 zero_registers
        → length cleared ≡ length saved → Tells freed 0 0 0 r
        → left r freed cleared frames store buffer ≡ stepped (with_event (Leave c))
    unfolding perform performed row acting seal_all does done turned zeros overlay
    leave_steps freed cleared frees clears long tells =
        let was = found _ none in
        let q = frees g.setup.pages in
        tells g.setup cleared frames store buffer (q.canonical was.canonical) (long ∙ was.saved_long)
        ∙ rw (q.tables, clears) (sym (granted_leaves (with_event (Leave c)) none))

  -- 13, trap
  module _ (kind : TrapKind) (mask : ℕ) (none : refuses (with_event (Trap c kind mask)) ≡ 0) where
    trap_among : Kept-among
    unfolding numbers_in context_in
    trap_among = kept_among (Trap c kind mask) none (ltb→lt c.0 g.setup.contexts (was_granted _ none).numbers)

    pub trap_stops : (length words ≡ image_words) × (c.0 < max_contexts)
    trap_stops = listed (Trap c kind mask) none trap_among.2

    pub trap_brings : length g.«data».now ≡ 64
    trap_brings = (was_granted _ none).brings

    pub trap_room : 64 ≤ length buffer
    trap_room = (was_granted _ none).gives

    pub trap_kept : {registers : List ℕ} → registers ≡ words_in 8 g.«data».now
        → (length saved ≡ 8 * g.setup.contexts) × (g.setup.contexts ≤ max_contexts) × (c.0 < g.setup.contexts)
        × (length registers ≡ 8)
    unfolding words_in
    trap_kept e = (trap_among.0, trap_among.1, trap_among.2, rw e refl)

    pub trap_steps : {r : Answer} {activity : Activity} {d : Asid} {registers given answer : List ℕ} (stopped kept : List ℕ)
        → ((v : ℕ) → activity ≡ activity_of (tables_in v words) c) → d ≡ domain_where activity → registers ≡ words_in 8 g.«data».now
        → given ≡ shown kind mask registers → answer ≡ overlay 0 (bytes_of given) buffer
        → ((v : ℕ) → Put v words stopped (set_activity c.0 (Kept d kind) (tables_in v words)))
        → saved_in g.setup.contexts kept ≡ set (saved_in g.setup.contexts saved) c.0 (record { words = registers })
        → length kept ≡ length saved → Tells stopped 0 0 0 r
        → left r stopped kept frames store answer ≡ stepped (with_event (Trap c kind mask))
    unfolding perform performed row acting seal_all does done turned
    trap_steps stopped kept activity domain registers given answer stops keeps long tells =
        let was = found _ none in
        let q = stops g.setup.pages in
        tells g.setup kept frames store _ (q.canonical was.canonical) (long ∙ was.saved_long)
        ∙ rw (q.tables, keeps, answer, given, registers, domain, activity g.setup.pages)
        (sym (granted_leaves (with_event (Trap c kind mask)) none))
