-- What holds of the code, `core_entry::start` and `core_entry::step`, for every setup, supply, lent words and bytes, and every list of
-- events with their data and answer buffers. A `CodeRun` is a start and then a call for each event, each with an answer, words and bytes
-- left that the function's own promise allows (specs/Calls.antt). `point r` is what its latest call left, `MayStep g (point r) a l` a
-- further call that leaves l; `tables_left s l` are the tables that the words left hold, `held s l` is all that the rules' machine has.
use Rattle.std.proofs.Common.{◌≡◌, ℕ, ◌+◌, ◌<◌, ◌≤◌, true, not, ◌≢◌, List, [], map, length, get_or}
use Rattle.rules.specs.Bytes.{overlay, number, bytes_of, zeros}
use Rattle.rules.specs.Sizes.{max_contexts}
use Rattle.rules.specs.Records.{Given, state_of, place_of, domain_of, is_public, frame_bytes}
use Rattle.rules.specs.Sound.{sound}
use Rattle.rules.specs.Sealing.{signature}
use Rattle.rules.specs.Events.{max_seals, running, own_frame}
use Rattle.rules.specs.Answers.{refusal, outset, start}
use Rattle.rules.specs.Runs.{Ask, run}
use Rattle.rules.specs.Example.{small, example}
use Rattle.rules.specs.declared.Asid.{Asid}
use Rattle.rules.specs.declared.Gvpn.{Gvpn}
use Rattle.rules.specs.declared.Ctc.{Ctc}
use Rattle.rules.specs.declared.Span.{Span}
use Rattle.rules.specs.declared.Place.TheVariants.{Sealed}
use Rattle.rules.specs.declared.Event.TheVariants.{Resume, Read, Write}
use Rattle.core_tables.specs.Image.{state_in}
use Rattle.core_answer.specs.Handed.{Left, left, leaves, refuses}
use Rattle.core_entry.specs.Started.{started}
use Rattle.theorem_reached.specs.States.{reached, answered, CleanAgree}
use Rattle.theorem_secrecy.specs.Secrets as rule-secrets
use Rattle.theorem_secrecy.specs.TwoServices.{one, other}
use Rattle.theorem_freshness.specs.Past.{context_by, page_by, resumed_with}
use Rattle.theorem_freshness.specs.Stale.{Touch, touch, touched, Distinct, bears}
use Rattle.theorem_code.specs.Calls.{Memory, WordsRight, MayStep, MaySteps, CodeRun, OneImage, last_of, point, tables_left}
use Rattle.theorem_code.specs.Calls.{held, any_memory}
use Rattle.theorem_code.specs.Told.{asking, handed_on, ten, answer_bytes, DifferOnlyInSecrets, SameRuns, past_of, Stopping}
use Rattle.theorem_code.proofs.Calls.{runs_on, start_left}
use Rattle.theorem_code.proofs.Stands.{is_held, one_image, step_left}
use Rattle.theorem_code.proofs.Points.{words_right, run_stands, run_left, refused_left}
use Rattle.theorem_code.proofs.Reached as at-point
use Rattle.theorem_code.proofs.Freshness as fresh
use Rattle.theorem_code.proofs.Secrecy.{run_secrets, run_secret, services_differ}
use Rattle.theorem_code.proofs.OlderSignatures.{touch_stops, older_below, older_stops}

-- There is a run of the code for every list of events, so nothing below is empty.
pub code_runs : (g : Given) (lent : Memory) (asks : List Ask) → CodeRun g lent asks
code_runs g lent asks = runs_on g lent asks

module _ {g : Given} {lent : Memory} {asks : List Ask} (r : CodeRun g lent asks) where
  -- The start leaves every word zero, and frames and store zero, or, refused with 10, as they were.
  pub code_starts : r.first ≡ started g.setup lent.tables lent.saved lent.frames lent.store g.supply
  code_starts = start_left g lent r.first r.starts

  -- A start that is taken was lent as many words of tables and saved registers as the setup asks.
  pub code_words_right : r.first.answer.number ≡ 0 → WordsRight g.setup lent
  code_words_right = words_right r

  -- Lent so many words, whether its start was taken or not, the code does what the rules say, from the first call to the last.
  module _ (right : WordsRight g.setup lent) where
    -- The call for each event leaves answer, tables, saved registers, frames, store and answer buffer as the rules' run does.
    pub code_answers : r.lefts ≡ map (leaves g.setup) (run g lent.frames lent.store asks)
    code_answers = run_left r right

    -- At each point the state and the bytes are those that the rules reach (the counts of the event under way start anew).
    pub code_reaches : held g.setup (point r) ≡ outset (reached g lent.frames lent.store asks)
    code_reaches = is_held g (point r) _ (run_stands r right)

    -- And a further call leaves what the rules answer there.
    pub code_answers_next : (a : Ask) (l : Left) → MayStep g (point r) a l
        → l ≡ leaves g.setup (answered g (reached g lent.frames lent.store asks) a)
    code_answers_next = step_left g (point r) _ (run_stands r right)

    -- The words left are the one image of the state that the rules reach: they hold it, and no other words that are an image do.
    pub code_one_image : OneImage g.setup (point r) (state_of (reached g lent.frames lent.store asks))
    code_one_image = one_image g (point r) _ (run_stands r right)

  -- Reached states

  -- Every state that the code hands back is sound, even where the start was refused, unless the setup has more contexts than there may be.
  pub code_sound : g.setup.contexts ≤ max_contexts
      → sound g.setup (state_in g.setup (point r).tables (point r).saved) ≡ true
  code_sound = at-point.point_sound r

  -- So, after a start that was taken, no event on the run's own words and bytes is answered 10.
  pub code_never_10 : r.first.answer.number ≡ 0 → (a : Ask) (l : Left) → MayStep g (point r) a l → l.answer.number ≢ 10
  code_never_10 ok a l c = at-point.next_not_10 r a l c ok

  -- The count of used signatures never passes N,
  pub code_used_within : (tables_left g.setup (point r)).used ≤ g.setup.signatures
  code_used_within = at-point.point_used r

  -- no event lets it fall,
  pub code_used_never_falls : (a : Ask) (l : Left) → MayStep g (point r) a l
      → (tables_left g.setup (point r)).used ≤ (tables_left g.setup l).used
  code_used_never_falls = at-point.next_used r

  -- and an event takes at most two signatures.
  pub code_two_signatures : (a : Ask) (l : Left) → MayStep g (point r) a l
      → (tables_left g.setup l).used ≤ (tables_left g.setup (point r)).used + max_seals
  code_two_signatures = at-point.next_few r

  -- An answer tells of at most two seals and one unveil.
  pub code_few_told : (a : Ask) (l : Left) → MayStep g (point r) a l → (l.answer.seals ≤ max_seals) × (l.answer.unveils ≤ 1)
  code_few_told = at-point.next_told r

  -- The used count that an answer tells is that of the tables handed back.
  pub code_used_told : r.first.answer.number ≡ 0 → (a : Ask) (l : Left) → MayStep g (point r) a l
      → l.answer.used ≡ (tables_left g.setup l).used
  code_used_told ok a l c = at-point.next_used_told r a l c ok

  -- After a start that was refused every event is refused with 10, and no word and no byte moves.
  pub code_always_10 : r.first.answer.number ≡ 10 → (a : Ask) (l : Left) → MayStep g (point r) a l
      → l ≡ left ten (zeros (length lent.tables)) (zeros (length lent.saved)) lent.frames lent.store a.buffer
  code_always_10 = refused_left r

  -- A page that is Clear and clean has the same bytes in its frame and in its slot.
  pub code_clean_agree : CleanAgree g.setup (held g.setup (point r))
  code_clean_agree = at-point.point_clean r

  -- Freshness: how the monitor knows that a returned page is the latest. `past_of asks r.lefts []` is what the run asked, and the
  -- numbers that it was answered with.

  -- A read of a private page that is granted gives, byte for byte, what was last written there by a granted write since the page was
  -- cloaked, or zero where nothing was, whatever the kernel mapped, copied, wrote, replayed or swapped in between.
  pub code_read_is_last_written : (c : Ctc) (v : Gvpn) (x : Span) (new buffer : List ℕ) (l : Left)
      → MayStep g (point r) (asking (Read c v x) new buffer) l
      → let heard = past_of asks r.lefts [] in
      let page = page_by heard (context_by heard c).home v in
      l.answer.number ≡ 0 → page.private ≡ true
      → let bytes = answer_bytes (Read c v x) l in
      (length bytes ≡ x.len) × ((i : ℕ) → i < x.len → get_or bytes i 0 ≡ page.last_written (x.off + i))
  code_read_is_last_written = fresh.read_gives r

  -- What the past tells is what the tables say: of each page whether it is private,
  pub code_private_is_told : (d : Asid) (v : Gvpn) → d.0 < g.setup.domains → v.0 < g.setup.pages
      → (page_by (past_of asks r.lefts []) d v).private ≡ not (is_public (place_of g.setup (tables_left g.setup (point r)) d v))
  code_private_is_told = fresh.private_told r

  -- and of each running context its domain.
  pub code_home_is_told : (c : Ctc) → running (tables_left g.setup (point r)) c ≡ true
      → (context_by (past_of asks r.lefts []) c).home ≡ domain_of (tables_left g.setup (point r)) c
  code_home_is_told = fresh.home_told r

  -- A granted resume fills the front of the answer buffer with the eight registers of the context's latest granted trap, register 0
  -- being the data value after a call.
  pub code_resume_is_last_trap : (d : Asid) (c : Ctc) (new buffer : List ℕ) (l : Left)
      → MayStep g (point r) (asking (Resume d c) new buffer) l → l.answer.number ≡ 0
      → l.buffer ≡ overlay 0 (bytes_of (resumed_with (context_by (past_of asks r.lefts []) c) (number new))) buffer
  code_resume_is_last_trap = fresh.resume_gives r

-- Secrecy: what the administrator of the guest kernel can learn of the service's memory.

-- That the events of two runs of the code differ only in secrets says the same as of the rules' runs: the moment's tables are the same.
pub code_secrets : {g : Given} {lent : Memory} {asks : List Ask} (r : CodeRun g lent asks) → WordsRight g.setup lent
    → (others : List Ask) → DifferOnlyInSecrets g.setup r.first r.lefts asks others
    ≡ rule-secrets.DifferOnlyInSecrets g (start g lent.frames lent.store) asks others
code_secrets r right others = run_secrets r right others

-- Two runs of the code start, each over whatever memory it was lent, and their events differ only in bytes written to pages that are
-- private at that moment and in registers that a trap does not show.
module _ {g : Given} {lent lent' : Memory} {asks others : List Ask} (r : CodeRun g lent asks) (q : CodeRun g lent' others)
    (ok : r.first.answer.number ≡ 0) (ok' : q.first.answer.number ≡ 0)
    (secrets : DifferOnlyInSecrets g.setup r.first r.lefts asks others) where
  -- Then the kernel is told the same of every event: number, seals, unveils, used, and the answer's bytes but for those that go to the
  -- application alone. And at every point every word of the tables agrees, which hold all but saved registers, every frame that names no
  -- page holds the same bytes, and a kernel read of any span of any frame, if it were made next, would be answered the same and leave the
  -- same bytes.
  pub code_secret : SameRuns g r.first q.first asks others r.lefts q.lefts
  code_secret = run_secret r q ok ok' secrets

-- The premises can be met by runs of the code whose secrets differ: the two services of `theorem_secrecy`.
pub code_services_differ : (r : CodeRun example (any_memory small) one.asks)
    → DifferOnlyInSecrets small r.first r.lefts one.asks other.asks
code_services_differ r = services_differ r

-- Stale pages, of any words and bytes that are handed in, p. A context touches its own page, to read or to write it, and none of the
-- checks that come first refuses it. Once what stands in the way is sealed, the page is Sealed with signature k, its latest.
module _ (g : Given) (p : Left) (w : Touch) (c : Ctc) (v : Gvpn) (x : Span) (new buffer : List ℕ) (l : Left)
    (call : MayStep g p (asking (touch w c v x) new buffer) l)
    (unrefused : refuses (handed_on g p (asking (touch w c v x) new buffer)) ≡ 0) (k : ℕ)
    (latest : place_of g.setup (touched g (held g.setup p) (touch w c v x)).tables (domain_of (tables_left g.setup p) c) v
    ≡ Sealed k) where
  -- If the page's frame then holds anything else than that signature, the answer is 8 and the domain is Stopped.
  pub code_not_latest_stops :
      frame_bytes g.setup (own_frame g.setup (tables_left g.setup p) c v) (touched g (held g.setup p) (touch w c v x))
      ≢ signature g k
      → Stopping g.setup (domain_of (tables_left g.setup p) c) l
  code_not_latest_stops = touch_stops g p w c v x new buffer l call unrefused k latest

-- An older signature. After a start that was taken and the events `earlier` page v of a context's domain bears signature j, Sealed or
-- Clear and clean; then, after the events `between`, the context is granted a write to it, which leaves w; and then come the events
-- `later`.
module _ {g : Given} {lent : Memory} {earlier : List Ask} (r : CodeRun g lent earlier) (ok : r.first.answer.number ≡ 0)
    (between : List Ask) (betweens : List Left) (calls : MaySteps g (point r) between betweens) (c : Ctc) (v : Gvpn) (x : Span)
    (new buffer : List ℕ) (w : Left) (call : MayStep g (last_of (point r) betweens) (asking (Write c v x) new buffer) w)
    (wrote : w.answer.number ≡ 0) (later : List Ask) (laters : List Left) (calls' : MaySteps g w later laters) (j : ℕ)
    (bore : bears j
    (place_of g.setup (tables_left g.setup (point r)) (domain_of (tables_left g.setup (last_of (point r) betweens)) c) v)
    ≡ true) where
  -- Whatever signature the page bears from then on is a later one.
  pub code_older_is_past :
      let d = domain_of (tables_left g.setup (last_of (point r) betweens)) c in
      (k : ℕ) → bears k (place_of g.setup (tables_left g.setup (last_of w laters)) d v) ≡ true → j < k
  code_older_is_past = older_below r ok between betweens calls c v x new buffer w call wrote later laters calls' j bore

  -- So where the supply's signatures differ, the old one in the page's frame, when the page is next touched, stops the domain.
  pub code_replay_stops :
      let d = domain_of (tables_left g.setup (last_of (point r) betweens)) c in
      let now = last_of w laters in
      Distinct g → (t : Touch) (u : Ctc) → domain_of (tables_left g.setup now) u ≡ d
      → (y : Span) (new' buffer' : List ℕ) (l : Left) → MayStep g now (asking (touch t u v y) new' buffer') l
      → (k : ℕ) → refusal g (held g.setup now) (touch t u v y) (length new') (length buffer') ≡ 0
      → place_of g.setup (touched g (held g.setup now) (touch t u v y)).tables d v ≡ Sealed k
      → frame_bytes g.setup (own_frame g.setup (tables_left g.setup now) u v) (touched g (held g.setup now) (touch t u v y))
      ≡ signature g j
      → Stopping g.setup d l
  code_replay_stops = older_stops r ok between betweens calls c v x new buffer w call wrote later laters calls' j bore
