-- What can become of a context in an event, and which of it each event does: it stays as it is, is freed, runs, or is kept with the
-- registers that it brought.
use mathlib.Core.Path.{◌≡◌, refl, sym, ap, ◌∙◌}
use mathlib.Core.List.{List}
use mathlib.Core.Bool.{Bool, true, false, cond}
use Prim.Native.Nat.{ℕ, ◌<◌}
use native.Mathlib.Omega.{arith}
use lib.ListN.{length, get_or}
use lib.Dec.{T}
use borrow.Author.Tests.{eqb-true, eqb-false}
use Rattle.rules.specs.Bytes.{zeros, words_in}
use Rattle.rules.specs.Records.{Given, Machine, free_context, zero_registers, activity_of, place_of, saved_of, domain_of, is_in}
use Rattle.rules.specs.Records.{with_activity}
use Rattle.rules.specs.Records.{on_tables, with_life}
use Rattle.rules.specs.Sealing.{Effect, done, failed, and_then, seal_all, unveiled_tables, unveiled, bring_in}
use Rattle.rules.specs.Events.{row, numbers_in, own_frame, ended, store_span, cloaked, zero_if_clear, uncloaked, marked_dirty, turned, does}
use Rattle.rules.specs.Answers.{perform}
use Rattle.rules.specs.declared.Setup.{Setup}
use Rattle.rules.specs.declared.Tables.{Tables}
use Rattle.rules.specs.declared.Asid.{Asid}
use Rattle.rules.specs.declared.Gvpn.{Gvpn}
use Rattle.rules.specs.declared.Gppn.{Gppn}
use Rattle.rules.specs.declared.Ctc.{Ctc}
use Rattle.rules.specs.declared.ContextRecord.{ContextRecord}
use Rattle.rules.specs.declared.Registers.{Registers}
use Rattle.rules.specs.declared.TrapKind.{TrapKind}
use Rattle.rules.specs.declared.Life.TheVariants.{Live}
use Rattle.rules.specs.declared.Activity.{Activity}
use Rattle.rules.specs.declared.Activity.TheVariants.{Free, Running, Kept}
use Rattle.rules.specs.declared.Place.{Place}
use Rattle.rules.specs.declared.Place.TheVariants.{Public, Clear, Sealed}
use Rattle.rules.specs.declared.Event.{Event}
use Rattle.rules.specs.declared.Event.TheVariants.{Begin, End, Map, Unmap, KernelRead, KernelWrite, Resume, Spawn, Leave, Cloak, Uncloak}
use Rattle.rules.specs.declared.Event.TheVariants.{Read, Write, Trap}
use Rattle.rules.proofs.Changes.{activity_same, activity_other, saved_same, saved_other}
use Rattle.rules.proofs.Tests.{each, context_below}
use Rattle.rules.proofs.Facts.{Accepted}
use Rattle.rules.proofs.Granting.{Unrefused}
use Rattle.rules.proofs.PageNumbers.{same_context_holds}
use Rattle.theorem_reached.proofs.BringIn.{bring_in_cases}
use Rattle.theorem_reached.proofs.SealFrames.{seal_all_apart, seal_all_accepted}
use Rattle.theorem_reached.proofs.Counts.{seals_fit}
use Rattle.theorem_reached.proofs.EndOfDomain.{ended_activity, ended_saved}
use Rattle.theorem_freshness.specs.Past.{same_context}

-- what an event does to a context
pub data ContextAct : Type 0 where
  same : ContextAct
  freed : ContextAct
  runs : Asid → ContextAct
  keeps : Asid → TrapKind → List ℕ → ContextAct

-- and how the context then stands in machine n, the event being asked of machine m
abbrev pub ContextFate : ContextAct → Machine → Machine → Ctc → Type 0
ContextFate same m n c = (activity_of n.tables c ≡ activity_of m.tables c) × (saved_of n c ≡ saved_of m c)
ContextFate freed m n c = activity_of n.tables c ≡ Free
ContextFate (runs d) m n c = activity_of n.tables c ≡ Running d
ContextFate (keeps d k words) m n c = (activity_of n.tables c ≡ Kept d k) × (saved_of n c ≡ words)

-- what each event, with data new, does to context c
unfoldable pub context_act_of : Tables → Event → List ℕ → Ctc → ContextAct
context_act_of t (Begin d u) new c = cond (same_context u c) (runs d) same
context_act_of t (End d) new c = cond (is_in d (activity_of t c)) freed same
context_act_of t (Map d v f) new c = same
context_act_of t (Unmap d v) new c = same
context_act_of t (KernelRead f x) new c = same
context_act_of t (KernelWrite f x) new c = same
context_act_of t (Resume d u) new c = cond (same_context u c) (runs d) same
context_act_of t (Spawn b u) new c = cond (same_context u c) (runs (domain_of t b)) same
context_act_of t (Leave u) new c = cond (same_context u c) freed same
context_act_of t (Cloak u v) new c = same
context_act_of t (Uncloak u v) new c = same
context_act_of t (Read u v x) new c = same
context_act_of t (Write u v x) new c = same
context_act_of t (Trap u k mask) new c = cond (same_context u c) (keeps (domain_of t u) k (words_in 8 new)) same

-- every context stays as it is
pub record SameContexts (m n : Machine) : Type 0 where
  pub contexts : n.tables.contexts ≡ m.tables.contexts
  pub saved : n.saved ≡ m.saved

same_contexts : (m n : Machine) → SameContexts m n → (c : Ctc) → ContextFate same m n c
same_contexts m n a c = (
  ap (λ (l : List ContextRecord). (get_or l c.0 free_context).activity) a.contexts,
  ap (λ (l : List Registers). (get_or l c.0 zero_registers).words) a.saved,
)

-- one context's activity and saved registers change
module _ (g : Given) (m : Machine) (accepted : Accepted g m) (u : Ctc) (hu : u.0 < g.setup.contexts) (c : Ctc) where
  activity_here : (a : Activity) → u.0 ≡ c.0 → activity_of (with_activity u a m.tables) c ≡ a
  activity_here a q =
      rw (← same_context_holds u c q)
      (activity_same m.tables u a (omega (arith, accepted.looks.shapes.contexts, accepted.looks.sizes.contexts)))

  saved_here : (a : Activity) (words : List ℕ) → u.0 ≡ c.0 → saved_of (turned u a words m) c ≡ words
  unfolding turned
  saved_here a words q =
      rw (← same_context_holds u c q)
      (saved_same (on_tables (with_activity u a) m) u words (omega (arith, accepted.looks.shapes.saved, accepted.looks.sizes.contexts)))

  turned_there : (a : Activity) (words : List ℕ) → (u.0 ≡ c.0 → ⊥) → ContextFate same m (turned u a words m) c
  unfolding turned
  turned_there a words ne =
      (activity_other m.tables u a c (λ q. ne (sym q)), saved_other (on_tables (with_activity u a) m) u words c (λ q. ne (sym q)))

  turned_runs : (d : Asid) (words : List ℕ) (b : Bool) → same_context u c ≡ b
      → ContextFate (cond b (runs d) same) m (turned u (Running d) words m) c
  unfolding turned
  turned_runs d words true q = activity_here (Running d) (eqb-true _ _ q)
  turned_runs d words false q = turned_there (Running d) words (eqb-false _ _ q)

  turned_freed : (words : List ℕ) (b : Bool) → same_context u c ≡ b → ContextFate (cond b freed same) m (turned u Free words m) c
  unfolding turned
  turned_freed words true q = activity_here Free (eqb-true _ _ q)
  turned_freed words false q = turned_there Free words (eqb-false _ _ q)

  turned_keeps : (d : Asid) (k : TrapKind) (words : List ℕ) (b : Bool) → same_context u c ≡ b
      → ContextFate (cond b (keeps d k words) same) m (turned u (Kept d k) words m) c
  unfolding turned
  turned_keeps d k words true q = (activity_here (Kept d k) (eqb-true _ _ q), saved_here (Kept d k) words (eqb-true _ _ q))
  turned_keeps d k words false q = turned_there (Kept d k) words (eqb-false _ _ q)

  -- its activity changes, and its saved registers stay
  activity_runs : (d : Asid) (b : Bool) → same_context u c ≡ b
      → ContextFate (cond b (runs d) same) m (on_tables (with_activity u (Running d)) m) c
  activity_runs d true q = activity_here (Running d) (eqb-true _ _ q)
  activity_runs d false q = (activity_other m.tables u (Running d) c (λ p. eqb-false _ _ q (sym p)), refl)

  begun_runs : (d : Asid) (b : Bool) → same_context u c ≡ b
      → ContextFate (cond b (runs d) same) m (on_tables (λ n. with_activity u (Running d) (with_life d Live n)) m) c
  begun_runs d true q = activity_here (Running d) (eqb-true _ _ q)
  begun_runs d false q = (activity_other m.tables u (Running d) c (λ p. eqb-false _ _ q (sym p)), refl)

ended_context : (s : Setup) (d : Asid) (m : Machine) (c : Ctc) (b : Bool) → is_in d (activity_of m.tables c) ≡ b
    → ContextFate (cond b freed same) m (ended s d m) c
unfolding ended
ended_context s d m c true q = ended_activity s d m.tables c ∙ rw q
ended_context s d m c false q =
    (ended_activity s d m.tables c ∙ rw q, ap (λ (r : Registers). r.words) (ended_saved s d m c.0) ∙ rw q)

-- events on pages and frames leave every context as it is
bring_in_contexts : (g : Given) (f : Gppn) (d : Asid) (v : Gvpn) (m : Machine) (next : Machine → Effect)
    → ((n : Machine) → SameContexts n (next n).machine) → SameContexts m (and_then (bring_in g f d v m) next).machine
unfolding and_then unveiled unveiled_tables done failed
bring_in_contexts g f d v m next kept-so =
    bring_in_cases g f d v m (λ e. SameContexts m (and_then e next).machine) (kept-so m)
    (λ k. let a = kept-so (unveiled g f d v k m) in record { contexts = a.contexts; saved = a.saved })
    (record { contexts = refl; saved = refl })

uncloaked_contexts : (s : Setup) (d : Asid) (v : Gvpn) (m : Machine) → SameContexts m (uncloaked s d v m)
unfolding uncloaked zero_if_clear
uncloaked_contexts s d v m =
    let a = placed (place_of s m.tables d v) in
    record { contexts = a.contexts; saved = a.saved }
  where
    placed : (p : Place) → SameContexts m (zero_if_clear s p m)
    placed Public = record { contexts = refl; saved = refl }
    placed (Clear h w) = record { contexts = refl; saved = refl }
    placed (Sealed k) = record { contexts = refl; saved = refl }

-- every event, once what it seals is sealed; t is the tables before that
module _ (g : Given) (t : Tables) (new : List ℕ) (m : Machine) (accepted : Accepted g m) (as_before : m.tables.contexts ≡ t.contexts)
    (c : Ctc) where
  does_to_context : (e : Event) → T (numbers_in g.setup e) → ContextFate (context_act_of t e new c) m (does g t e new m).machine c
  unfolding does done context_act_of numbers_in store_span cloaked marked_dirty
  does_to_context (Begin d u) n = begun_runs g m accepted u (context_below g.setup u (each _ n).1.0) c d (same_context u c) refl
  does_to_context (End d) n =
      ended_context g.setup d m c (is_in d (activity_of t c))
      (ap (λ (l : List ContextRecord). is_in d (get_or l c.0 free_context).activity) as_before)
  does_to_context (Map d v f) n = (refl, refl)
  does_to_context (Unmap d v) n = (refl, refl)
  does_to_context (KernelRead f x) n = (refl, refl)
  does_to_context (KernelWrite f x) n = (refl, refl)
  does_to_context (Resume d u) n =
      turned_runs g m accepted u (context_below g.setup u (each _ n).1.0) c d (zeros 8) (same_context u c) refl
  does_to_context (Spawn b u) n =
      activity_runs g m accepted u (context_below g.setup u (each _ n).1.0) c (domain_of t b) (same_context u c) refl
  does_to_context (Leave u) n = turned_freed g m accepted u (context_below g.setup u n) c (zeros 8) (same_context u c) refl
  does_to_context (Cloak u v) n = (refl, refl)
  does_to_context (Uncloak u v) n = same_contexts m _ (uncloaked_contexts g.setup (domain_of t u) v m) c
  does_to_context (Read u v x) n =
      same_contexts m _ (bring_in_contexts g (own_frame g.setup t u v) (domain_of t u) v m _
      (λ n. record { contexts = refl; saved = refl })) c
  does_to_context (Write u v x) n =
      same_contexts m _ (bring_in_contexts g (own_frame g.setup t u v) (domain_of t u) v m _
      (λ n. record { contexts = refl; saved = refl })) c
  does_to_context (Trap u k mask) n =
      turned_keeps g m accepted u (context_below g.setup u n) c (domain_of t u) k (words_in 8 new) (same_context u c) refl

-- what becomes of a context after it first stayed as it was
after_same : (act : ContextAct) (m q n : Machine) (c : Ctc) → ContextFate same m q c → ContextFate act q n c → ContextFate act m n c
after_same same m q n c a b = (b.0 ∙ a.0, b.1 ∙ a.1)
after_same freed m q n c a b = b
after_same (runs d) m q n c a b = b
after_same (keeps d k words) m q n c a b = b

pub performs_on_context : (g : Given) (m : Machine) (e : Event) (new : List ℕ) (space : ℕ) → Unrefused g m e (length new) space → (c : Ctc)
    → ContextFate (context_act_of m.tables e new c) m (perform g e new m).machine c
unfolding perform
performs_on_context g m e new space p c =
    let fs = (row g.setup m.tables e).seals in
    let a = seal_all_apart g fs m in
    let accepted = seal_all_accepted g fs m p.accepted (seals_fit g m space e (length new) p) p.granted.signatures in
    after_same (context_act_of m.tables e new c) m (seal_all g fs m) _ c
    (same_contexts m (seal_all g fs m) (record { contexts = a.contexts; saved = a.saved }) c)
    (does_to_context g m.tables new (seal_all g fs m) accepted a.contexts c e p.granted.numbers)
