-- What the past tells of a context is true: of one that is not Free its domain, and of a Kept one its trap's kind and its saved
-- registers.
use mathlib.Core.Path.{◌≡◌, refl, sym, ap, ◌∙◌, subst}
use mathlib.Core.List.{List}
use mathlib.Core.Bool.{Bool, true, false, not, cond}
use Prim.Native.Nat.{ℕ}
use native.Mathlib.Omega.{arith}
use lib.ListN.{length}
use lib.Dec.{T, eqb, eqb→eq}
use borrow.Author.Tests.{eqb-true, ne_eqb}
use Rattle.rules.specs.Bytes.{words_in}
use Rattle.rules.specs.Records.{Given, Machine, activity_of, saved_of, domain_of, domain_where, is_free, is_running, is_kept_in, is_in}
use Rattle.rules.specs.Sealing.{done, seal_all}
use Rattle.rules.specs.Events.{row, running, on_records, acting, does}
use Rattle.rules.specs.Answers.{perform, performed, refused, outset, step}
use Rattle.rules.specs.declared.Tables.{Tables}
use Rattle.rules.specs.declared.Asid.{Asid}
use Rattle.rules.specs.declared.Ctc.{Ctc}
use Rattle.rules.specs.declared.TrapKind.{TrapKind}
use Rattle.rules.specs.declared.Activity.{Activity}
use Rattle.rules.specs.declared.Activity.TheVariants.{Free, Running, Kept}
use Rattle.rules.specs.declared.Event.{Event}
use Rattle.rules.specs.declared.Event.TheVariants.{Begin, End, Map, Unmap, KernelRead, KernelWrite, Resume, Spawn, Leave, Cloak, Uncloak}
use Rattle.rules.specs.declared.Event.TheVariants.{Read, Write, Trap}
use Rattle.rules.proofs.Tests.{cond_same, each}
use Rattle.rules.proofs.PageNumbers.{same_domain, same_context_holds}
use Rattle.rules.proofs.Granting.{Unrefused}
use Rattle.theorem_reached.proofs.DoneOrRefused.{step_either}
use Rattle.theorem_freshness.specs.Past.{OfContext, same_context, context_after}
use Rattle.theorem_freshness.proofs.ContextFates.{same, freed, runs, keeps, ContextFate, context_act_of, performs_on_context}

pub record KnownContext (m : Machine) (c : Ctc) (x : OfContext) : Type 0 where
  pub home : T (not (is_free (activity_of m.tables c))) → x.home ≡ domain_where (activity_of m.tables c)
  pub trap : (d : Asid) (k : TrapKind) → activity_of m.tables c ≡ Kept d k → (x.kind ≡ k) × (saved_of m c ≡ x.registers)

module _ (m n : Machine) (c : Ctc) (x : OfContext) where
  known_same : ContextFate same m n c → KnownContext m c x → KnownContext n c x
  known_same t h =
      record {
        home = λ f. subst (λ (a : Activity). T (not (is_free a)) → x.home ≡ domain_where a) (sym t.0) h.home f;
        trap = λ d k e. let r = h.trap d k (sym t.0 ∙ e) in (r.0, t.1 ∙ r.1);
      }

  pub known_freed : activity_of n.tables c ≡ Free → KnownContext n c x
  known_freed e =
      record {
        home = λ f. absurd (rw e at f);
        trap = λ d k q. let z : ◌≡◌ {A = ℕ} 0 1 = cc in absurd (omega arith);
      }

  known_runs : (d : Asid) → activity_of n.tables c ≡ Running d → x.home ≡ d → KnownContext n c x
  known_runs d e home =
      record {
        home = λ f. home ∙ sym (ap domain_where e);
        trap = λ d k q. let z : ◌≡◌ {A = ℕ} 0 1 = cc in absurd (omega arith);
      }

  known_keeps : (d : Asid) (k : TrapKind) → activity_of n.tables c ≡ Kept d k → saved_of n c ≡ x.registers → x.home ≡ d → x.kind ≡ k
      → KnownContext n c x
  known_keeps d k e saved home kind =
      record {
        home = λ f. home ∙ sym (ap domain_where e);
        trap = λ d' k' q. let p : k ≡ k' = cc in (kind ∙ p, saved);
      }

is_free_holds : (a : Activity) → T (is_running a) → T (not (is_free a))
is_free_holds Free t = t
is_free_holds (Running d) t = tt
is_free_holds (Kept d k) t = tt

kept_home : (d : Asid) (a : Activity) → T (is_kept_in d a) → T (not (is_free a)) × (domain_where a ≡ d)
kept_home d Free t = absurd t
kept_home d (Running e) t = absurd t
kept_home d (Kept e k) t = (tt, same_domain e d (eqb→eq _ _ t))

-- a running context is where it was told to be
pub running_home : (m : Machine) (c : Ctc) (x : OfContext) → KnownContext m c x → T (running m.tables c)
    → x.home ≡ domain_of m.tables c
unfolding running
running_home m c x known r = known.home (is_free_holds (activity_of m.tables c) r)

module _ (g : Given) (m : Machine) (new : List ℕ) (space : ℕ) (before : Ctc → OfContext) (known : (c : Ctc) → KnownContext m c (before c))
    (c : Ctc) where
  abbrev t : Tables
  t = m.tables

  at_home : (u : Ctc) → T (running t u) → (before u).home ≡ domain_of t u
  at_home u r = running_home m u (before u) (known u) r

  abbrev Knows : Event → Type 0
  Knows e =
      Unrefused g m e (length new) space → (n : Machine) → ContextFate (context_act_of t e new c) m n c → KnownContext n c
      (context_after e new before c)

  stays_known : (n : Machine) → ContextFate same m n c → KnownContext n c (before c)
  stays_known n h = known_same m n c (before c) h (known c)

  begins : (d : Asid) (u : Ctc) → Knows (Begin d u)
  unfolding context_act_of context_after
  begins d u p n h = at (same_context u c) h
    where
      at : (b : Bool) → ContextFate (cond b (runs d) same) m n c
          → KnownContext n c (cond b (record { home = d; kind = (before c).kind; registers = (before c).registers }) (before c))
      at true h = known_runs m n c _ d h refl
      at false h = stays_known n h

  ends : (d : Asid) → Knows (End d)
  unfolding context_act_of context_after
  ends d p n h = at (is_in d (activity_of t c)) h
    where
      at : (b : Bool) → ContextFate (cond b freed same) m n c → KnownContext n c (before c)
      at true h = known_freed m n c (before c) h
      at false h = stays_known n h

  resumes : (d : Asid) (u : Ctc) → Knows (Resume d u)
  unfolding context_act_of context_after row on_records
  resumes d u p n h = at (same_context u c) refl h
    where
      at : (b : Bool) → same_context u c ≡ b → ContextFate (cond b (runs d) same) m n c → KnownContext n c (before c)
      at true q h =
          let k = kept_home d (activity_of t u) p.granted.condition in
          let e = same_context_holds u c (eqb-true _ _ q) in
          known_runs m n c (before c) d h (subst (λ (v : Ctc). (before v).home ≡ d) e ((known u).home k.0 ∙ k.1))
      at false q h = stays_known n h

  spawns : (b u : Ctc) → Knows (Spawn b u)
  unfolding context_act_of context_after row acting
  spawns b u p n h = at (same_context u c) h
    where
      at : (z : Bool) → ContextFate (cond z (runs (domain_of t b)) same) m n c
          → KnownContext n c (cond z (record { home = (before b).home; kind = (before c).kind; registers = (before c).registers })
          (before c))
      at true h = known_runs m n c _ (domain_of t b) h (at_home b (each _ p.granted.condition).0)
      at false h = stays_known n h

  leaves : (u : Ctc) → Knows (Leave u)
  unfolding context_act_of context_after
  leaves u p n h = at (same_context u c) h
    where
      at : (b : Bool) → ContextFate (cond b freed same) m n c → KnownContext n c (before c)
      at true h = known_freed m n c (before c) h
      at false h = stays_known n h

  traps : (u : Ctc) (k : TrapKind) (mask : ℕ) → Knows (Trap u k mask)
  unfolding context_act_of context_after row acting
  traps u k mask p n h = at (same_context u c) refl h
    where
      at : (b : Bool) → same_context u c ≡ b → ContextFate (cond b (keeps (domain_of t u) k (words_in 8 new)) same) m n c
          → KnownContext n c (cond b (record { home = (before c).home; kind = k; registers = words_in 8 new }) (before c))
      at true q h =
          let e = same_context_holds u c (eqb-true _ _ q) in
          known_keeps m n c _ (domain_of t u) k h.0 h.1
          (subst (λ (v : Ctc). (before v).home ≡ domain_of t u) e (at_home u (each _ p.granted.condition).0)) refl
      at false q h = stays_known n h

  knows : (e : Event) → Knows e
  unfolding context_act_of context_after
  knows (Begin d u) p n h = begins d u p n h
  knows (End d) p n h = ends d p n h
  knows (Map d v f) p n h = stays_known n h
  knows (Unmap d v) p n h = stays_known n h
  knows (KernelRead f x) p n h = stays_known n h
  knows (KernelWrite f x) p n h = stays_known n h
  knows (Resume d u) p n h = resumes d u p n h
  knows (Spawn b u) p n h = spawns b u p n h
  knows (Leave u) p n h = leaves u p n h
  knows (Cloak u v) p n h = stays_known n h
  knows (Uncloak u v) p n h = stays_known n h
  knows (Read u v x) p n h = stays_known n h
  knows (Write u v x) p n h = stays_known n h
  knows (Trap u k mask) p n h = traps u k mask p n h

outset_same : (m : Machine) (c : Ctc) → ContextFate same m (outset m) c
unfolding outset
outset_same m c = (refl, refl)

-- only touching a page is answered 8, and that tells nothing of contexts
touch_tells : (g : Given) (t : Tables) (e : Event) (new : List ℕ) (q : Machine) (before : Ctc → OfContext) (c : Ctc)
    → cond (eqb (does g t e new q).number 0) (context_after e new before c) (before c) ≡ context_after e new before c
unfolding does done context_after
touch_tells g t (Begin d u) new q before c = refl
touch_tells g t (End d) new q before c = refl
touch_tells g t (Map d v f) new q before c = refl
touch_tells g t (Unmap d v) new q before c = refl
touch_tells g t (KernelRead f x) new q before c = refl
touch_tells g t (KernelWrite f x) new q before c = refl
touch_tells g t (Resume d u) new q before c = refl
touch_tells g t (Spawn b u) new q before c = refl
touch_tells g t (Leave u) new q before c = refl
touch_tells g t (Cloak u v) new q before c = refl
touch_tells g t (Uncloak u v) new q before c = refl
touch_tells g t (Read u v x) new q before c = cond_same (eqb (does g t (Read u v x) new q).number 0) (before c)
touch_tells g t (Write u v x) new q before c = cond_same (eqb (does g t (Write u v x) new q).number 0) (before c)
touch_tells g t (Trap u k mask) new q before c = refl

pub step_knows : (g : Given) (e : Event) (new buffer : List ℕ) (m : Machine) (before : Ctc → OfContext)
    → ((c : Ctc) → KnownContext m c (before c)) → (c : Ctc) → KnownContext (step g e new buffer m).machine c
    (cond (eqb (step g e new buffer m).number 0) (context_after e new before c) (before c))
unfolding performed refused perform
step_knows g e new buffer m before known c =
    step_either g e new buffer m (λ o. KnownContext o.machine c (cond (eqb o.number 0) (context_after e new before c) (before c)))
    (λ p.
    rw (touch_tells g (outset m).tables e new (seal_all g (row g.setup (outset m).tables e).seals (outset m)) before c)
    (knows g (outset m) new (length buffer) before known_outset c e p _ (performs_on_context g (outset m) e new (length buffer) p c)))
    (λ n _ ne. rw (ne_eqb n 0 ne) (known_outset c))
  where
    known_outset : (c : Ctc) → KnownContext (outset m) c (before c)
    known_outset c = known_same m (outset m) c (before c) (outset_same m c) (known c)
