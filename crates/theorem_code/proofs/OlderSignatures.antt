-- A further call that touches a page whose frame does not hold its latest signature stops the domain, and an older signature is never the
-- latest again: the laws of `theorem_freshness` on stale pages, of what the calls left.
use Rattle.std.proofs.Common.{◌≡◌, ℕ, ◌<◌, true, ◌≢◌, List, length, sym, ap, ◌∙◌, subst, ap₂}
use Rattle.rules.specs.Records.{Given, Machine, life_of, place_of, domain_of, frame_bytes}
use Rattle.rules.specs.Sealing.{signature}
use Rattle.rules.specs.Events.{own_frame}
use Rattle.rules.specs.Answers.{refusal, outset, step}
use Rattle.rules.specs.Runs.{Ask, after}
use Rattle.rules.specs.declared.Tables.{Tables}
use Rattle.rules.specs.declared.Asid.{Asid}
use Rattle.rules.specs.declared.Gvpn.{Gvpn}
use Rattle.rules.specs.declared.Ctc.{Ctc}
use Rattle.rules.specs.declared.Span.{Span}
use Rattle.rules.specs.declared.Place.TheVariants.{Sealed}
use Rattle.rules.specs.declared.Event.TheVariants.{Write}
use Rattle.core_answer.specs.Handed.{Left, refuses}
use Rattle.core_answer.proofs.Laws.{not_refused}
use Rattle.theorem_reached.specs.States.{reached, answered}
use Rattle.theorem_freshness.specs.Stale.{Touch, touch, touched, Stops, Distinct, bears}
use Rattle.theorem_freshness.proofs.Main as rule
use Rattle.theorem_code.specs.Calls.{Memory, MayStep, MaySteps, CodeRun, last_of, point, tables_left, held}
use Rattle.theorem_code.specs.Told.{asking, handed_on, Stopping}
use Rattle.theorem_code.proofs.Stands.{Stands, handed_stands, is_held, same_tables, step_left, next_stands, last_stands}
use Rattle.theorem_code.proofs.Points.{words_right, rules_start, run_stands}

-- a machine that stops, in the words and bytes that the call left
stops_left : (g : Given) (p : Left) (m : Machine) → Stands g p m → (a : Ask) (l : Left) → MayStep g p a l → (d : Asid)
    → Stops d (answered g m a) → Stopping g.setup d l
stops_left g p m at a l c d stops = (
  ap (λ (x : Left). x.answer.number) (step_left g p m at a l c) ∙ stops.0,
  ap (λ (t : Tables). life_of t d) (same_tables g l _ (next_stands g p m at a l c)) ∙ stops.1,
)

module _ (g : Given) (p : Left) (w : Touch) (c : Ctc) (v : Gvpn) (x : Span) (new buffer : List ℕ) (l : Left)
    (call : MayStep g p (asking (touch w c v x) new buffer) l)
    (unrefused : refuses (handed_on g p (asking (touch w c v x) new buffer)) ≡ 0) (k : ℕ)
    (latest : place_of g.setup (touched g (held g.setup p) (touch w c v x)).tables (domain_of (tables_left g.setup p) c) v
    ≡ Sealed k) where
  pub touch_stops :
      frame_bytes g.setup (own_frame g.setup (tables_left g.setup p) c v) (touched g (held g.setup p) (touch w c v x))
      ≢ signature g k
      → Stopping g.setup (domain_of (tables_left g.setup p) c) l
  unfolding outset
  touch_stops other =
      let a = asking (touch w c v x) new buffer in
      stops_left g p (held g.setup p) (handed_stands g p a unrefused) a l call (domain_of (tables_left g.setup p) c)
      (rule.not_latest_stops g (held g.setup p) w c v x new buffer (not_refused (handed_on g p a) unrefused) k latest other)

module _ {g : Given} {lent : Memory} {earlier : List Ask} (r : CodeRun g lent earlier) (ok : r.first.answer.number ≡ 0)
    (between : List Ask) (betweens : List Left) (calls : MaySteps g (point r) between betweens) (c : Ctc) (v : Gvpn) (x : Span)
    (new buffer : List ℕ) (w : Left) (call : MayStep g (last_of (point r) betweens) (asking (Write c v x) new buffer) w)
    (wrote : w.answer.number ≡ 0) (later : List Ask) (laters : List Left) (calls' : MaySteps g w later laters) (j : ℕ) where
  abbrev before : Left
  before = last_of (point r) betweens

  abbrev now : Left
  now = last_of w laters

  abbrev d : Asid
  d = domain_of (tables_left g.setup before) c

  -- the same points, as the rules reach them
  abbrev first : Machine
  first = reached g lent.frames lent.store earlier

  abbrev m : Machine
  m = after g first between

  abbrev n : Machine
  n = after g (step g (Write c v x) new buffer m).machine later

  at_first : Stands g (point r) first
  at_first = run_stands r (words_right r ok)

  at_before : Stands g before m
  at_before = last_stands g (point r) first at_first between betweens calls

  at_now : Stands g now n
  at_now =
      last_stands g w (step g (Write c v x) new buffer m).machine
      (next_stands g before m at_before (asking (Write c v x) new buffer) w call) later laters calls'

  d_is : d ≡ domain_of m.tables c
  d_is = ap (λ (t : Tables). domain_of t c) (same_tables g before m at_before)

  m_wrote : (step g (Write c v x) new buffer m).number ≡ 0
  m_wrote =
      sym (ap (λ (l : Left). l.answer.number) (step_left g before m at_before (asking (Write c v x) new buffer) w call)) ∙ wrote

  module _ (bore : bears j (place_of g.setup (tables_left g.setup (point r)) d v) ≡ true) where
    m_bore : bears j (place_of g.setup first.tables (domain_of m.tables c) v) ≡ true
    m_bore =
        sym (ap₂ (λ (t : Tables) (e : Asid). bears j (place_of g.setup t e v)) (same_tables g (point r) first at_first) d_is) ∙ bore

    pub older_below : (k : ℕ) → bears k (place_of g.setup (tables_left g.setup now) d v) ≡ true → j < k
    older_below k bears-it =
        rule.older_is_past g lent.frames lent.store (rules_start r ok) earlier between later c v x new buffer j m_bore m_wrote k
        (sym (ap₂ (λ (t : Tables) (e : Asid). bears k (place_of g.setup t e v)) (same_tables g now n at_now) d_is) ∙ bears-it)

    -- what a touch that finds it comes to, of a machine
    abbrev Replays : Touch → Ctc → Span → List ℕ → List ℕ → ℕ → Machine → Type 0
    Replays t u y new' buffer' k a =
        refusal g (outset a) (touch t u v y) (length new') (length buffer') ≡ 0
        → place_of g.setup (touched g a (touch t u v y)).tables (domain_of a.tables u) v ≡ Sealed k
        → frame_bytes g.setup (own_frame g.setup a.tables u v) (touched g a (touch t u v y)) ≡ signature g j
        → Stops (domain_of a.tables u) (step g (touch t u v y) new' buffer' a)

    pub older_stops : Distinct g → (t : Touch) (u : Ctc) → domain_of (tables_left g.setup now) u ≡ d
        → (y : Span) (new' buffer' : List ℕ) (l : Left) → MayStep g now (asking (touch t u v y) new' buffer') l
        → (k : ℕ) → refusal g (held g.setup now) (touch t u v y) (length new') (length buffer') ≡ 0
        → place_of g.setup (touched g (held g.setup now) (touch t u v y)).tables d v ≡ Sealed k
        → frame_bytes g.setup (own_frame g.setup (tables_left g.setup now) u v) (touched g (held g.setup now) (touch t u v y))
        ≡ signature g j
        → Stopping g.setup d l
    unfolding outset step
    older_stops distinct t u same y new' buffer' l call' k unrefused place old =
        let e = same_tables g now n at_now in
        let same-n : domain_of n.tables u ≡ domain_of m.tables c = sym (ap (λ (a : Tables). domain_of a u) e) ∙ same ∙ d_is in
        let replays =
        rule.replay_stops g lent.frames lent.store (rules_start r ok) earlier between later c v x new buffer j m_bore m_wrote
        distinct t u same-n y new' buffer' k in
        let held-replays = subst (Replays t u y new' buffer' k) (sym (is_held g now n at_now)) replays in
        let stops = held-replays unrefused (rw same place) old in
        let a = asking (touch t u v y) new' buffer' in
        let answers : answered g (held g.setup now) a ≡ answered g n a =
        ap (λ (q : Machine). step g (touch t u v y) new' buffer' q) (is_held g now n at_now) in
        stops_left g now n at_now a l call' d (subst (Stops d) answers (rw same at stops))
