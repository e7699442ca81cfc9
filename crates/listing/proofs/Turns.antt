-- One turn: what the core and the line's writer leave is the listing's next line and the point behind it.
use Rattle.std.proofs.Common.{Some, None, Ok, Err, ◌≡◌, ℕ, ◌+◌, ◌-◌, ◌<◌, ◌≤◌}
use Rattle.std.proofs.Common.{List, length, take, sym, ap, ◌∙◌, subst, le_of_eq, add-zero, arith, length-drop}
use Rattle.std.proofs.Common.{length-take-le, take_all}
use Rattle.rules.specs.Bytes.{overlay}
use Rattle.rules.specs.Events.{kind_of}
use Rattle.rules.specs.Refusals.{number_of}
use Rattle.rules.specs.declared.Event.{Event}
use Rattle.rules.specs.declared.Refusal.{Refusal}
use Rattle.trace_form.specs.Form.{first}
use Rattle.trace_read.specs.Reading.{Found, read_at, data_in}
use Rattle.trace_read.specs.declared.Record.{Record}
use Rattle.trace_laws.proofs.Records.{stands, takes_a_byte}
use Rattle.trace_laws.proofs.Wholes.{first_right}
use Rattle.core_answer.specs.Handed.{Left, handed, stepped}
use Rattle.listing_line.specs.Lines.{decimal, line, refused_line, Put}
use Rattle.listing.specs.Listing.{Point, Listed, supply_of, unread, shown_length, event_line, handed_at, event_listed}
use Rattle.listing.specs.Listing.{behind_run, ended_run}
use Rattle.listing.specs.Listing.{used_in, listed_as, listed}
use Rattle.listing.specs.Filling.{left, turns}
use Rattle.listing.specs.declared.Run.{Run}
use Rattle.listing.proofs.Showing.{shown_fits, length_buffer}

-- n bytes at the front of an answer buffer, which is as long as it was before
pub record Shows (n : ℕ) (buffer before : List ℕ) : Type 0 where
  pub within : n ≤ length buffer
  pub exact : n ≡ length (take n buffer)
  pub long : length buffer ≡ length before

-- an event, where l is what the core leaves, and n bytes of its answer buffer are shown
module _ (p : Point) (e : Event) (next : ℕ) (new supply : List ℕ) {l : Left} {n : ℕ}
    (signed : supply ≡ supply_of p.trace)
    (does : l ≡ stepped (handed p.run.setup p.tables p.saved p.frames p.store supply e new p.buffer))
    (some : n ≡ shown_length e l.answer.number) where
  left_by : l ≡ stepped (handed_at p e new)
  left_by = rw signed at does

  pub shows : Shows n l.buffer p.buffer
  shows =
      let fits : n ≤ length l.buffer = rw (some, left_by) (shown_fits (handed_at p e new)) in
      record {
        within = fits;
        exact = sym (length-take-le n l.buffer fits);
        long = rw left_by (length_buffer (handed_at p e new));
      }

  same_line : line p.run.index (decimal (kind_of e)) l.answer (take n l.buffer)
      ≡ event_line p.run.index e (stepped (handed_at p e new))
  unfolding event_line
  same_line = rw (some, left_by)

  pub event_turns : {run : Run} {k at r : ℕ} {out after : List ℕ} → k ≡ kind_of e
      → Put at (line p.run.index (decimal k) l.answer (take n l.buffer)) out r after → run ≡ behind_run p.run next
      → left (record { run = run; count = r }) p.trace l.tables l.saved l.frames l.store l.buffer after
      ≡ turns at (event_listed p e next new) out
  unfolding event_listed
  event_turns kind put is = rw (is, put.ends, put.bytes, kind, same_line, left_by)

-- what the reader finds at the run's place: the code hands it all that is behind that place
module _ (p : Point) {found : Found}
    (finds : found ≡ read_at first (take (length p.trace - p.run.place) (unread p)) p.run.place) where
  to_end : take (length p.trace - p.run.place) (unread p) ≡ unread p
  to_end = take_all (length p.trace - p.run.place) (unread p) (le_of_eq (length-drop p.run.place p.trace))

  is : found ≡ read_at first (unread p) p.run.place
  is = finds ∙ ap (λ (u : List ℕ). read_at first u p.run.place) to_end

  as_listed : {x : Found} → found ≡ x → listed_as p x ≡ listed p
  unfolding listed
  as_listed e = ap (listed_as p) (sym e ∙ is)

  module _ {r : Record} (e : found ≡ Ok (Some r)) where
    pub record_turns : (at : ℕ) (out : List ℕ) {new : List ℕ}
        → new ≡ data_in (Ok (Some r)) (take (length p.trace - p.run.place) (unread p))
        → turns at (event_listed p r.event r.next new) out ≡ turns at (listed p) out
    unfolding listed_as
    record_turns at out {new} d =
        let brings : new ≡ data_in (Ok (Some r)) (unread p) = d ∙ ap (data_in (Ok (Some r))) to_end in
        ap (λ (l : Listed). turns at l out) (ap (event_listed p r.event r.next) brings ∙ as_listed e)

    pub record_further : p.run.index ≤ p.run.place → p.run.index < r.next
    record_further c =
        let st = stands r first (unread p) p.run.place (sym is ∙ e) in
        omega (arith, st.next_at, takes_a_byte first first_right (unread p) p.run.place r st)

  module _ (at : ℕ) (out : List ℕ) {run : Run} (ends : run ≡ ended_run p.run (length p.trace)) where
    pub refused_turns : {why : Refusal} {n used r : ℕ} {after : List ℕ} → found ≡ Err why → n ≡ number_of why → used ≡ used_in p.tables
        → Put at (refused_line p.run.index n used) out r after
        → left (record { run = run; count = r }) p.trace p.tables p.saved p.frames p.store p.buffer after ≡ turns at (listed p) out
    unfolding listed_as
    refused_turns e number told put =
        rw (ends, put.ends, put.bytes, number, told) (ap (λ (l : Listed). turns at l out) (as_listed e))

    pub end_turns : found ≡ Ok None
        → left (record { run = run; count = at }) p.trace p.tables p.saved p.frames p.store p.buffer out ≡ turns at (listed p) out
    unfolding listed_as overlay
    end_turns e =
        let none : at ≡ at + 0 = sym (add-zero at) in
        subst
        (λ (k : ℕ). left (record { run = run; count = k }) p.trace p.tables p.saved p.frames p.store p.buffer out ≡ turns at (listed p) out)
        (sym none)
        (rw ends (ap (λ (l : Listed). turns at l out) (as_listed e)))
