-- A page that is touched while its frame holds anything but its latest signature: the answer is 8 and its domain is Stopped. An
-- older signature of the page is such a thing where the supply's signatures differ.
use mathlib.Core.Bool.{true}
use mathlib.Core.Path.{◌≡◌, refl, sym, ◌∙◌}
use mathlib.Core.Logic.{◌≢◌}
use mathlib.Core.List.{List}
use Prim.Native.Nat.{ℕ, ◌+◌, ◌≤◌, ◌<◌}
use native.Mathlib.Omega.{arith}
use lib.ListN.{length}
use lib.Dec.{eqb_refl}
use Rattle.rules.specs.Answers.{Outcome, start_refusal, refusal, performed, perform, outset, step}
use Rattle.rules.specs.Runs.{Ask, after}
use Rattle.rules.specs.Records.{Given, Machine, life_of, place_of, domain_of, frame_bytes}
use Rattle.rules.specs.Sealing.{Effect, failed, and_then, signature, bring_in}
use Rattle.rules.specs.Events.{own_frame, does}
use Rattle.rules.specs.declared.Asid.{Asid}
use Rattle.rules.specs.declared.Gvpn.{Gvpn}
use Rattle.rules.specs.declared.Gppn.{Gppn}
use Rattle.rules.specs.declared.Ctc.{Ctc}
use Rattle.rules.specs.declared.Span.{Span}
use Rattle.rules.specs.declared.Life.TheVariants.{Stopped}
use Rattle.rules.specs.declared.Place.TheVariants.{Sealed}
use Rattle.rules.specs.declared.Event.TheVariants.{Read, Write}
use Rattle.rules.proofs.Changes.{life_same}
use Rattle.rules.proofs.Facts.{Accepted}
use Rattle.rules.proofs.Granting.{Unrefused, unrefused}
use Rattle.theorem_reached.specs.States.{reached}
use Rattle.theorem_reached.proofs.DoneOrRefused.{step_at, outset_quiet}
use Rattle.theorem_reached.proofs.FramesAndSlots.{Within}
use Rattle.theorem_reached.proofs.SealFrames.{seal_all_accepted}
use Rattle.theorem_reached.proofs.PageFates.{Quiet, and_then_holds, seal_all_quiet}
use Rattle.theorem_reached.proofs.BringIn.{brings_failed}
use Rattle.theorem_reached.proofs.OwnPages.{read_own, write_own}
use Rattle.theorem_reached.proofs.Counts.{seals_fit}
use Rattle.theorem_freshness.specs.Stale.{bears, Touch, reading, writing, touch, touched, Stops, Distinct}
use Rattle.theorem_freshness.proofs.OlderSignatures.{older_since, Since, quiet_since, bears_new}

brings_stop : (g : Given) (f : Gppn) (d : Asid) (v : Gvpn) (q : Machine) → Accepted g q → d.0 < g.setup.domains → (k : ℕ)
    → place_of g.setup q.tables d v ≡ Sealed k → frame_bytes g.setup f q ≢ signature g k → (next : Machine → Effect)
    → let e = and_then (bring_in g f d v q) next in (e.number ≡ 8) × (life_of e.machine.tables d ≡ Stopped)
unfolding and_then failed
brings_stop g f d v q accepted hd k place apart next =
    rw (brings_failed g f d v q k place apart)
    (refl, life_same q.tables d Stopped (omega (arith, accepted.looks.shapes.domains, accepted.looks.sizes.domains)))

-- a context touches its own page, and no check refuses it
module _ (g : Given) (m : Machine) (w : Touch) (c : Ctc) (v : Gvpn) (x : Span) (new buffer : List ℕ)
    (ok : refusal g (outset m) (touch w c v x) (length new) (length buffer) ≡ 0) where
  abbrev d : Asid
  d = domain_of m.tables c

  abbrev q : Machine
  q = touched g m (touch w c v x)

  p : Unrefused g (outset m) (touch w c v x) (length new) (length buffer)
  p = unrefused g (outset m) (touch w c v x) (length new) (length buffer) ok

  touch_within : Within g.setup d v
  unfolding outset
  touch_within = at w p
    where
      at : (w : Touch) → Unrefused g (outset m) (touch w c v x) (length new) (length buffer) → Within g.setup d v
      at reading p = (read_own g (outset m) c v (length new) (length buffer) x p).within
      at writing p = (write_own g (outset m) c v (length new) (length buffer) x p).within

  touched_accepted : Accepted g q
  unfolding outset
  touched_accepted =
      seal_all_accepted g _ (outset m) p.accepted (seals_fit g (outset m) (length buffer) (touch w c v x) (length new) p)
      p.granted.signatures

  touched_quiet : Quiet g.setup d v m q
  unfolding outset
  touched_quiet =
      and_then_holds (outset_quiet g (touch w c v x) new buffer m d v)
      (seal_all_quiet g d v touch_within _ (outset m) p.accepted (seals_fit g (outset m) (length buffer) (touch w c v x) (length new) p)
      p.granted.signatures)

  -- the page is Sealed, and its frame holds anything but its signature
  module _ (k : ℕ) (place : place_of g.setup q.tables d v ≡ Sealed k) where
    pub touch_stops : frame_bytes g.setup (own_frame g.setup m.tables c v) (touched g m (touch w c v x)) ≢ signature g k
        → Stops (domain_of m.tables c) (step g (touch w c v x) new buffer m)
    unfolding performed perform does outset
    touch_stops apart = rw (step_at g (touch w c v x) new buffer m 0 ok) (at w place apart touched_accepted touch_within.domain)
      where
        at : (w : Touch) → place_of g.setup (touched g m (touch w c v x)).tables d v ≡ Sealed k
            → frame_bytes g.setup (own_frame g.setup m.tables c v) (touched g m (touch w c v x)) ≢ signature g k
            → Accepted g (touched g m (touch w c v x)) → d.0 < g.setup.domains
            → let e = perform g (touch w c v x) new (outset m) in (e.number ≡ 8) × (life_of e.machine.tables d ≡ Stopped)
        at reading place apart accepted hd = brings_stop g _ d v (touched g m (Read c v x)) accepted hd k place apart _
        at writing place apart accepted hd = brings_stop g _ d v (touched g m (Write c v x)) accepted hd k place apart _

    -- such as an older one, where whatever the page bore since is later and the signatures differ
    pub touch_replayed : Distinct g → (j : ℕ) → Since g.setup (domain_of m.tables c) v (j + 1) m
        → frame_bytes g.setup (own_frame g.setup m.tables c v) (touched g m (touch w c v x)) ≡ signature g j
        → Stops (domain_of m.tables c) (step g (touch w c v x) new buffer m)
    touch_replayed distinct j since held =
        let accepted = touched_accepted in
        let s = quiet_since g.setup d v (j + 1) m q touched_quiet since in
        let up : j + 1 ≤ k = bears_new (j + 1) k (Sealed k) (rw place at s.place) (eqb_refl k) in
        let low : k < q.tables.used = accepted.looks.agrees.sealed d v k touch_within.domain touch_within.page place in
        touch_stops
        (λ same. distinct j k (omega (arith, accepted.looks.agrees.used)) (omega (arith, accepted.looks.agrees.used)) (omega arith)
        (sym held ∙ same))

-- after a write, a signature that the page bore before it
module _ (g : Given) (frames store : List ℕ) (started : start_refusal g frames store ≡ 0) (earlier between later : List Ask)
    (c : Ctc) (v : Gvpn) (x : Span) (new buffer : List ℕ) (j : ℕ) where
  abbrev before : Machine
  before = after g (reached g frames store earlier) between

  abbrev o : Outcome
  o = step g (Write c v x) new buffer before

  abbrev now : Machine
  now = after g o.machine later

  pub older_stops : bears j (place_of g.setup (reached g frames store earlier).tables (domain_of before.tables c) v) ≡ true
      → o.number ≡ 0 → Distinct g → (w : Touch) (u : Ctc) → domain_of now.tables u ≡ domain_of before.tables c
      → (y : Span) (new' buffer' : List ℕ) (k : ℕ) → refusal g (outset now) (touch w u v y) (length new') (length buffer') ≡ 0
      → place_of g.setup (touched g now (touch w u v y)).tables (domain_of now.tables u) v ≡ Sealed k
      → frame_bytes g.setup (own_frame g.setup now.tables u v) (touched g now (touch w u v y)) ≡ signature g j
      → Stops (domain_of now.tables u) (step g (touch w u v y) new' buffer' now)
  older_stops bore wrote distinct w u same y new' buffer' k ok place held =
      let since = older_since g frames store started earlier between later c v x new buffer j bore wrote in
      touch_replayed g now w u v y new' buffer' ok k place distinct j (rw same since) held
