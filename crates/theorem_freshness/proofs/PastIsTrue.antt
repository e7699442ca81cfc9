-- What a run's past tells of contexts and pages is true of the machine that it reaches.
use mathlib.Core.Path.{◌≡◌, refl, sym, ap, ◌∙◌}
use mathlib.Core.List.{List, [], ◌∷◌}
use mathlib.Core.Bool.{Bool, true, false, not, cond, true≢false}
use Prim.Native.Nat.{◌<◌, ℕ}
use lib.ListN.{length, get_or}
use lib.Dec.{eqb}
use borrow.Author.Tests.{eqb-true}
use Rattle.rules.specs.Records.{place_of, domain_of, Given, Machine, free_context, activity_of, is_public}
use Rattle.rules.specs.Events.{running}
use Rattle.rules.specs.Sizes.{max_contexts}
use Rattle.rules.specs.Answers.{outset, step, start}
use Rattle.rules.specs.Runs.{Ask, after}
use Rattle.rules.specs.declared.State.{State}
use Rattle.rules.specs.declared.Asid.{Asid}
use Rattle.rules.specs.declared.Gvpn.{Gvpn}
use Rattle.rules.specs.declared.Ctc.{Ctc}
use Rattle.rules.specs.declared.Activity.TheVariants.{Free}
use Rattle.rules.specs.declared.Place.{Place}
use Rattle.rules.specs.declared.Event.{Event}
use Rattle.rules.proofs.Tests.{passed}
use Rattle.rules.proofs.Lists.{get_d_fresh}
use Rattle.theorem_reached.specs.States.{reached}
use Rattle.theorem_reached.proofs.DoneOrRefused.{answered_0, outset_quiet, step_fate}
use Rattle.theorem_reached.proofs.FramesAndSlots.{Within}
use Rattle.theorem_reached.proofs.PageFates.{kept, Fate, act_of}
use Rattle.theorem_reached.proofs.Start.{start_state}
use Rattle.theorem_reached.proofs.EveryRun.{start_public}
use Rattle.theorem_freshness.specs.Past.{past, Past, past_from, unheard, context_by, page_after, page_by}
use Rattle.theorem_freshness.proofs.PageContents.{quiet_contents}
use Rattle.theorem_freshness.proofs.ToldContexts.{KnownContext, known_freed, running_home, step_knows}
use Rattle.theorem_freshness.proofs.ToldPages.{KnownPage, contents_whole, fate_known, same_known}
use Rattle.theorem_freshness.proofs.ToldByEvents.{tells}

pub record Known (g : Given) (m : Machine) (h : List Past) : Type 0 where
  pub contexts : (c : Ctc) → KnownContext m c (context_by h c)
  pub pages : (d : Asid) (v : Gvpn) → Within g.setup d v → KnownPage g.setup d v m (page_by h d v)

module _ (g : Given) (e : Event) (new buffer : List ℕ) (m : Machine) (h : List Past) (known : Known g m h) where
  abbrev n : Machine
  n = (step g e new buffer m).machine

  page_known : (d : Asid) (v : Gvpn) → Within g.setup d v → (b : Bool) → eqb (step g e new buffer m).number 0 ≡ b
      → Fate g.setup d v m n (cond b (act_of g.setup m.tables e new d v) kept)
      → KnownPage g.setup d v n (cond b (page_after e new (context_by h) d v (page_by h d v)) (page_by h d v))
  unfolding outset
  page_known d v hd true q fate =
      let p = answered_0 g e new buffer m (eqb-true _ _ q) in
      let k = known.pages d v hd in
      fate_known g.setup d v m n (page_by h d v) (page_after e new (context_by h) d v (page_by h d v)) k
      (λ private. sym (ap length (quiet_contents g.setup d v m (outset m) (outset_quiet g e new buffer m d v))) ∙ contents_whole g
      (outset m) p.accepted d v hd private) (act_of g.setup m.tables e new d v) fate
      (tells g (outset m) new (length buffer) (context_by h) (λ c r. running_home m c (context_by h c) (known.contexts c) r) d v hd
      (page_by h d v) k.private e p)
  page_known d v hd false q fate = same_known g.setup d v m n (page_by h d v) (known.pages d v hd) fate

  pub step_known : Known g n (record { event = e; new = new; number = (step g e new buffer m).number } ∷ h)
  unfolding context_by page_by
  step_known =
      record {
        contexts = λ c. step_knows g e new buffer m (context_by h) known.contexts c;
        pages = λ d v hd. page_known d v hd (eqb (step g e new buffer m).number 0) refl (step_fate g e new buffer m d v hd);
      }

after_known : (g : Given) (asks : List Ask) (m : Machine) (h : List Past) → Known g m h → Known g (after g m asks) (past_from g m asks h)
unfolding after past_from
after_known g [] m h known = known
after_known g (a ∷ asks) m h known = after_known g asks _ _ (step_known g a.event a.new a.buffer m h known)

start_free : (g : Given) (frames store : List ℕ) (c : Ctc) → activity_of (start g frames store).tables c ≡ Free
start_free g frames store c =
    ap (λ (x : State). (get_or x.tables.contexts c.0 free_context).activity) (start_state g frames store)
    ∙ ap (λ r. r.activity) (get_d_fresh max_contexts c.0 free_context)

pub run_known : (g : Given) (frames store : List ℕ) (asks : List Ask)
    → Known g (after g (start g frames store) asks) (past_from g (start g frames store) asks [])
unfolding context_by page_by
run_known g frames store asks =
    after_known g asks (start g frames store) []
    (record {
      contexts = λ c. known_freed (start g frames store) (start g frames store) c unheard (start_free g frames store c);
      pages =
          λ d v hd.
          record {
            private = sym (ap (λ (p : Place). not (is_public p)) (start_public g frames store d v));
            bytes = λ p. absurd (true≢false (sym p));
          };
    })

-- so the tables say the same of each page, whether it is private, and of each running context, its domain
module _ (g : Given) (frames store : List ℕ) (asks : List Ask) where
  pub run_private : (d : Asid) (v : Gvpn) → d.0 < g.setup.domains → v.0 < g.setup.pages
      → (page_by (past g frames store asks) d v).private
      ≡ not (is_public (place_of g.setup (reached g frames store asks).tables d v))
  run_private d v hd hv = ((run_known g frames store asks).pages d v (record { domain = hd; page = hv })).private

  pub run_home : (c : Ctc) → running (reached g frames store asks).tables c ≡ true
      → (context_by (past g frames store asks) c).home ≡ domain_of (reached g frames store asks).tables c
  run_home c r = running_home (reached g frames store asks) c _ ((run_known g frames store asks).contexts c) (passed _ r)
