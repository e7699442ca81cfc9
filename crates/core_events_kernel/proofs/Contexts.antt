-- Kinds 0 and 6, begin and resume, where they are granted: what the code asks is given, and what the rules leave.
use mathlib.Core.Path.{◌≡◌, sym, ◌∙◌}
use mathlib.Core.List.{List}
use Prim.Native.Nat.{ℕ, ◌*◌, ◌≤◌, ◌<◌}
use native.Mathlib.Omega.{arith}
use lib.ListN.{length, get_or, set}
use lib.Dec.{T, ltb→lt}
use Rattle.rules.specs.Bytes.{overlay, zeros, number, bytes_of}
use Rattle.rules.specs.Sizes.{max_domains, max_contexts, domain_in, context_in}
use Rattle.rules.specs.Records.{activity_of, zero_registers}
use Rattle.rules.specs.Sealing.{seal_all, done}
use Rattle.rules.specs.Events.{numbers_in, row, on_records, does, turned, resumed}
use Rattle.rules.specs.Answers.{perform, performed}
use Rattle.rules.specs.Asked.{Limited}
use Rattle.rules.proofs.Facts.{each}
use Rattle.rules.specs.declared.Setup.{Setup}
use Rattle.rules.specs.declared.Asid.{Asid}
use Rattle.rules.specs.declared.Ctc.{Ctc}
use Rattle.rules.specs.declared.Life.TheVariants.{Live}
use Rattle.rules.specs.declared.Activity.{Activity}
use Rattle.rules.specs.declared.Activity.TheVariants.{Running}
use Rattle.rules.specs.declared.Event.{Event}
use Rattle.rules.specs.declared.Event.TheVariants.{Begin, Resume}
use Rattle.rules.specs.declared.Answer.{Answer}
use Rattle.core_tables.specs.Image.{image_words, tables_in, saved_in}
use Rattle.core_tables.specs.Put.{Put, set_life, set_activity}
use Rattle.core_answer.specs.declared.lent.Given.{Given}
use Rattle.core_answer.specs.Handed.{Handed, left, refuses, stepped}
use Rattle.core_answer.specs.Lending.{handed_with}
use Rattle.core_answer.specs.Promises.{Tells}
use Rattle.core_answer.proofs.Laws.{found, was_accepted, was_granted, granted_leaves}

domain_below : (s : Setup) (d : Asid) → Limited s → T (domain_in s d) → d.0 < max_domains
unfolding domain_in
domain_below s d z t = omega (arith, ltb→lt d.0 s.domains t, z.domains)

context_below : (s : Setup) (c : Ctc) → Limited s → T (context_in s c) → c.0 < max_contexts
unfolding context_in
context_below s c z t = omega (arith, ltb→lt c.0 s.contexts t, z.contexts)

module _ (g : Given) (words saved frames store buffer : List ℕ) (d : Asid) (c : Ctc) where
  abbrev with_event : Event → Handed
  with_event e = handed_with g words saved frames store buffer e

  -- 0, begin
  module _ (none : refuses (with_event (Begin d c)) ≡ 0) where
    begin_in_holds : (d.0 < max_domains) × (c.0 < max_contexts)
    unfolding numbers_in
    begin_in_holds =
        let n = each _ (was_granted _ none).numbers in
        let sizes = (was_accepted _ none).looks.sizes in
        (domain_below g.setup d sizes n.0, context_below g.setup c sizes n.1.0)

    pub begin_lives : (length words ≡ image_words) × (d.0 < max_domains)
    begin_lives = ((found _ none).tables_long, begin_in_holds.0)

    pub begin_runs : {n : ℕ} → n ≡ length words → (n ≡ image_words) × (c.0 < max_contexts)
    begin_runs e = (e ∙ (found _ none).tables_long, begin_in_holds.1)

    pub begin_steps : {r : Answer} (lived ran : List ℕ)
        → ((v : ℕ) → Put v words lived (set_life d.0 Live (tables_in v words)))
        → ((v : ℕ) → Put v lived ran (set_activity c.0 (Running d) (tables_in v lived))) → Tells ran 0 0 0 r
        → left r ran saved frames store buffer ≡ stepped (with_event (Begin d c))
    unfolding perform performed row on_records seal_all does done overlay
    begin_steps lived ran lives runs tells =
        let was = found _ none in
        let p = lives g.setup.pages in
        let q = runs g.setup.pages in
        tells g.setup saved frames store buffer (q.canonical (p.canonical was.canonical)) was.saved_long
        ∙ rw (q.tables, p.tables) (sym (granted_leaves (with_event (Begin d c)) none))

  -- 6, resume
  module _ (none : refuses (with_event (Resume d c)) ≡ 0) where
    -- the context's saved registers are among those lent
    pub resume_kept : (length saved ≡ 8 * g.setup.contexts) × (g.setup.contexts ≤ max_contexts) × (c.0 < g.setup.contexts)
    unfolding numbers_in context_in
    resume_kept = (
      (found _ none).saved_long,
      (was_accepted _ none).looks.sizes.contexts,
      ltb→lt c.0 g.setup.contexts (each _ (was_granted _ none).numbers).1.0,
    )

    pub resume_runs : (length words ≡ image_words) × (c.0 < max_contexts)
    resume_runs = ((found _ none).tables_long, omega (arith, resume_kept.1, resume_kept.2))

    pub resume_brings : length g.«data».now ≡ 8
    resume_brings = (was_granted _ none).brings

    pub resume_room : 64 ≤ length buffer
    resume_room = (was_granted _ none).gives

    pub resume_steps : {r : Answer} {activity : Activity} {x : ℕ} {kept given answer : List ℕ} (ran cleared : List ℕ)
        → ((v : ℕ) → activity ≡ activity_of (tables_in v words) c)
        → kept ≡ (get_or (saved_in g.setup.contexts saved) c.0 zero_registers).words → x ≡ number g.«data».now
        → given ≡ resumed activity x kept → answer ≡ overlay 0 (bytes_of given) buffer
        → ((v : ℕ) → Put v words ran (set_activity c.0 (Running d) (tables_in v words)))
        → saved_in g.setup.contexts cleared ≡ set (saved_in g.setup.contexts saved) c.0 zero_registers
        → length cleared ≡ length saved → Tells ran 0 0 0 r
        → left r ran cleared frames store answer ≡ stepped (with_event (Resume d c))
    unfolding perform performed row on_records seal_all does done turned zeros
    resume_steps ran cleared activity kept x given answer runs clears long tells =
        let was = found _ none in
        let q = runs g.setup.pages in
        tells g.setup cleared frames store _ (q.canonical was.canonical) (long ∙ was.saved_long)
        ∙ rw (q.tables, clears, answer, given, x, kept, activity g.setup.pages)
        (sym (granted_leaves (with_event (Resume d c)) none))
