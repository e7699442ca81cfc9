-- What a read and a resume by a further call leave, and what a run's past tells of the tables: the laws of `theorem_freshness`.
use Rattle.std.proofs.Common.{◌≡◌, ℕ, ◌+◌, ◌<◌, true, not, List, [], length, get_or, sym, ap, ◌∙◌}
use Rattle.rules.specs.Bytes.{overlay, number, bytes_of}
use Rattle.rules.specs.Records.{Given, Machine, place_of, domain_of, is_public}
use Rattle.rules.specs.Events.{running}
use Rattle.rules.specs.Runs.{Ask}
use Rattle.rules.specs.declared.Asid.{Asid}
use Rattle.rules.specs.declared.Gvpn.{Gvpn}
use Rattle.rules.specs.declared.Ctc.{Ctc}
use Rattle.rules.specs.declared.Span.{Span}
use Rattle.rules.specs.declared.Event.TheVariants.{Resume, Read}
use Rattle.core_answer.specs.Handed.{Left}
use Rattle.theorem_reached.specs.States.{reached}
use Rattle.theorem_freshness.specs.Past.{Past, context_by, page_by, resumed_with}
use Rattle.theorem_freshness.proofs.Main as rule
use Rattle.theorem_code.specs.Calls.{Memory, MayStep, CodeRun, point, tables_left}
use Rattle.theorem_code.specs.Told.{asking, answer_bytes, past_of}
use Rattle.theorem_code.proofs.AnswerBytes.{buffer_left, answer_long}
use Rattle.theorem_code.proofs.Follows.{follows_tables, follows_answer, follows_buffer, follows_bytes}
use Rattle.theorem_code.proofs.Points.{ran, run_follows, heard_is}

module _ {g : Given} {lent : Memory} {asks : List Ask} (r : CodeRun g lent asks) where
  abbrev heard : List Past
  heard = past_of asks r.lefts []

  -- what the rules reach
  abbrev m : Machine
  m = reached g (ran r) lent.store asks

  tables_are : tables_left g.setup (point r) ≡ m.tables
  tables_are = follows_tables g lent (point r) m (run_follows r)

  pub read_gives : (c : Ctc) (v : Gvpn) (x : Span) (new buffer : List ℕ) (l : Left)
      → MayStep g (point r) (asking (Read c v x) new buffer) l
      → let page = page_by heard (context_by heard c).home v in
      l.answer.number ≡ 0 → page.private ≡ true
      → let bytes = answer_bytes (Read c v x) l in
      (length bytes ≡ x.len) × ((i : ℕ) → i < x.len → get_or bytes i 0 ≡ page.last_written (x.off + i))
  read_gives c v x new buffer l call =
      let a = asking (Read c v x) new buffer in
      let answer = follows_answer g lent (point r) m a l (run_follows r) call in
      let bytes = follows_bytes g lent (point r) m a l (run_follows r) call in
      rw (heard_is r, bytes)
      (λ ok private.
      let done = sym (ap (λ n. n.number) answer) ∙ ok in
      let given = rule.read_is_last_written g (ran r) lent.store asks c v x new buffer done private in
      rw (answer_long g (Read c v x) new buffer m done given.0) given)

  pub private_told : (d : Asid) (v : Gvpn) → d.0 < g.setup.domains → v.0 < g.setup.pages
      → (page_by heard d v).private ≡ not (is_public (place_of g.setup (tables_left g.setup (point r)) d v))
  private_told d v hd hv = rw (heard_is r, tables_are) (rule.private_is_told g (ran r) lent.store asks d v hd hv)

  pub home_told : (c : Ctc) → running (tables_left g.setup (point r)) c ≡ true
      → (context_by heard c).home ≡ domain_of (tables_left g.setup (point r)) c
  home_told c = rw (heard_is r, tables_are) (rule.home_is_told g (ran r) lent.store asks c)

  pub resume_gives : (d : Asid) (c : Ctc) (new buffer : List ℕ) (l : Left)
      → MayStep g (point r) (asking (Resume d c) new buffer) l → l.answer.number ≡ 0
      → l.buffer ≡ overlay 0 (bytes_of (resumed_with (context_by heard c) (number new))) buffer
  resume_gives d c new buffer l call ok =
      let a = asking (Resume d c) new buffer in
      let answer = follows_answer g lent (point r) m a l (run_follows r) call in
      let done = sym (ap (λ n. n.number) answer) ∙ ok in
      rw (heard_is r)
      (follows_buffer g lent (point r) m a l (run_follows r) call ∙ buffer_left g (Resume d c) new buffer m
      ∙ ap (λ (bytes : List ℕ). overlay 0 bytes buffer) (rule.resume_is_last_trap g (ran r) lent.store asks d c new buffer done))
