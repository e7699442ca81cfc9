-- Demand 3, second half: how the monitor knows that a returned page is the latest. For every setup, supply, lent frames and store, and
-- every list of events with their data and answer buffers. `past` is what the run itself asked and was answered, and what it tells is in
-- specs/Past.antt; what a stale page is and how a domain stops is in specs/Stale.antt.
use mathlib.Core.Path.{◌≡◌}
use mathlib.Core.Logic.{◌≢◌}
use mathlib.Core.List.{List}
use mathlib.Core.Bool.{true, not}
use Prim.Native.Nat.{ℕ, ◌+◌, ◌<◌}
use lib.ListN.{length, get_or}
use Rattle.rules.specs.Bytes.{number, bytes_of}
use Rattle.rules.specs.Records.{Given, Machine, place_of, domain_of, is_public, frame_bytes}
use Rattle.rules.specs.Sealing.{signature}
use Rattle.rules.specs.Events.{running, own_frame}
use Rattle.rules.specs.Answers.{refusal, outset, step, start_refusal}
use Rattle.rules.specs.Runs.{Ask, after}
use Rattle.rules.specs.declared.Asid.{Asid}
use Rattle.rules.specs.declared.Gvpn.{Gvpn}
use Rattle.rules.specs.declared.Ctc.{Ctc}
use Rattle.rules.specs.declared.Span.{Span}
use Rattle.rules.specs.declared.Place.TheVariants.{Sealed}
use Rattle.rules.specs.declared.Event.TheVariants.{Resume, Read, Write}
use Rattle.theorem_reached.specs.States.{reached}
use Rattle.theorem_freshness.specs.Past.{past, context_by, page_by, resumed_with}
use Rattle.theorem_freshness.specs.Stale.{Touch, touch, touched, Stops, Distinct, bears}
use Rattle.theorem_freshness.proofs.PastIsTrue.{run_private, run_home, run_known}
use Rattle.theorem_freshness.proofs.ReadAndResume.{resume_gives}
use Rattle.theorem_freshness.proofs.LastWritten.{read_last}
use Rattle.theorem_freshness.proofs.OlderSignatures.{older_below}
use Rattle.theorem_freshness.proofs.NotLatestStops.{touch_stops, older_stops}

module _ (g : Given) (frames store : List ℕ) (asks : List Ask) where
  -- A granted read of a private page gives, byte for byte, what was last written there by a granted write since the page was
  -- cloaked, or zero where nothing was. Whatever the kernel mapped, copied, wrote, replayed or swapped in between is among asks.
  pub read_is_last_written : (c : Ctc) (v : Gvpn) (x : Span) (new buffer : List ℕ)
      → let told = past g frames store asks in
      let page = page_by told (context_by told c).home v in
      let o = step g (Read c v x) new buffer (reached g frames store asks) in
      o.number ≡ 0 → page.private ≡ true
      → (length o.bytes ≡ x.len) × ((i : ℕ) → i < x.len → get_or o.bytes i 0 ≡ page.last_written (x.off + i))
  read_is_last_written c v x new buffer = read_last g _ _ (run_known g frames store asks) c v x new buffer

  -- What the past tells of a page, whether it is private, is what the tables say,
  pub private_is_told : (d : Asid) (v : Gvpn) → d.0 < g.setup.domains → v.0 < g.setup.pages
      → (page_by (past g frames store asks) d v).private
      ≡ not (is_public (place_of g.setup (reached g frames store asks).tables d v))
  private_is_told d v = run_private g frames store asks d v

  -- and so is what it tells of a running context, its domain.
  pub home_is_told : (c : Ctc) → running (reached g frames store asks).tables c ≡ true
      → (context_by (past g frames store asks) c).home ≡ domain_of (reached g frames store asks).tables c
  home_is_told c = run_home g frames store asks c

  -- A granted resume gives the eight registers of the context's latest granted trap, register 0 being the data value after a call.
  pub resume_is_last_trap : (d : Asid) (c : Ctc) (new buffer : List ℕ)
      → let o = step g (Resume d c) new buffer (reached g frames store asks) in
      o.number ≡ 0 → o.bytes ≡ bytes_of (resumed_with (context_by (past g frames store asks) c) (number new))
  resume_is_last_trap d c new buffer = resume_gives g _ new buffer d c _ ((run_known g frames store asks).contexts c)

-- Of any machine: a context touches its own page, to read or to write it, and none of the checks that come first refuses it. Once what
-- stands in the way is sealed, the page is Sealed with signature k, its latest.
module _ (g : Given) (m : Machine) (w : Touch) (c : Ctc) (v : Gvpn) (x : Span) (new buffer : List ℕ)
    (unrefused : refusal g (outset m) (touch w c v x) (length new) (length buffer) ≡ 0) (k : ℕ)
    (latest : place_of g.setup (touched g m (touch w c v x)).tables (domain_of m.tables c) v ≡ Sealed k) where
  -- If the page's frame then holds anything else than that signature, the answer is 8 and the domain is Stopped.
  pub not_latest_stops : frame_bytes g.setup (own_frame g.setup m.tables c v) (touched g m (touch w c v x)) ≢ signature g k
      → Stops (domain_of m.tables c) (step g (touch w c v x) new buffer m)
  not_latest_stops = touch_stops g m w c v x new buffer unrefused k latest

-- An older signature. After a granted start and the events `earlier` page v of a context's domain bears signature j, Sealed or Clear and
-- clean; then, after the events `between`, the context is granted a write to it; and then come the events `later`.
module _ (g : Given) (frames store : List ℕ) (started : start_refusal g frames store ≡ 0) (earlier between later : List Ask)
    (c : Ctc) (v : Gvpn) (x : Span) (new buffer : List ℕ) (j : ℕ) where
  -- Whatever signature the page bears from then on is a later one.
  pub older_is_past :
      let before = after g (reached g frames store earlier) between in
      let d = domain_of before.tables c in
      let o = step g (Write c v x) new buffer before in
      let now = after g o.machine later in
      bears j (place_of g.setup (reached g frames store earlier).tables d v) ≡ true → o.number ≡ 0
      → (k : ℕ) → bears k (place_of g.setup now.tables d v) ≡ true → j < k
  older_is_past = older_below g frames store started earlier between later c v x new buffer j

  -- So where the supply's signatures differ, the old one in the page's frame, when the page is next touched, stops the domain.
  pub replay_stops :
      let before = after g (reached g frames store earlier) between in
      let d = domain_of before.tables c in
      let o = step g (Write c v x) new buffer before in
      let now = after g o.machine later in
      bears j (place_of g.setup (reached g frames store earlier).tables d v) ≡ true → o.number ≡ 0
      → Distinct g → (w : Touch) (u : Ctc) → domain_of now.tables u ≡ d → (y : Span) (new' buffer' : List ℕ) (k : ℕ)
      → refusal g (outset now) (touch w u v y) (length new') (length buffer') ≡ 0
      → place_of g.setup (touched g now (touch w u v y)).tables (domain_of now.tables u) v ≡ Sealed k
      → frame_bytes g.setup (own_frame g.setup now.tables u v) (touched g now (touch w u v y)) ≡ signature g j
      → Stops (domain_of now.tables u) (step g (touch w u v y) new' buffer' now)
  replay_stops = older_stops g frames store started earlier between later c v x new buffer j
