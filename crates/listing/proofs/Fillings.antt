-- Filling an output, line by line: what is known between two turns, and what is left at the end.
use Rattle.std.proofs.Common.{◌≡◌, ℕ, ◌+◌, ◌-◌, ◌<◌, ◌≤◌, List, [], ◌++◌, length, sym, refl, ap}
use Rattle.std.proofs.Common.{◌∙◌, append_assoc, append-nil, zero-add, arith, le-leb}
use native.Mathlib.Decide.{dec_lt}
use borrow.Author.Tests.{lt-leb}
use Rattle.rules.proofs.Parts.{length_overlay}
use Rattle.rules.specs.Bytes.{overlay}
use Rattle.listing_line.specs.Lines.{Put}
use Rattle.listing_line.proofs.Puts.{put_then}
use Rattle.listing.specs.Listing.{Point, listed, listed_from}
use Rattle.listing.specs.Filling.{Lines, Fills, line_room, none, behind, fitting, fills, turns, filled}
use Rattle.listing.proofs.Steps.{ahead, Onward, fitting_onward, fitting_end, fitting_full, fitting_more}

abbrev pub fills_at : ℕ → Point → List ℕ → Fills
fills_at k p out = record { count = k; end = p; out = out }

abbrev lines_of : List ℕ → Point → Lines
lines_of text end = record { text = text; end = end }

-- no line is to follow
abbrev pub IsFull : Point → ℕ → Type 0
IsFull p room = p.run.place < length p.trace → room < line_room (length p.buffer)

full : (p : Point) (room : ℕ) → IsFull p room → fitting room p (listed_from p) ≡ none p
full p room f = go (dec_lt p.run.place (length p.trace))
  where
    go : Dec (p.run.place < length p.trace) → fitting room p (listed_from p) ≡ none p
    go (yes h) = fitting_full p room h (f h)
    go (no h) = fitting_end p room (omega arith)

-- between two turns: the text is written, and the lines from now on fill what is left
pub record Written (start now : Point) (before out : List ℕ) (count : ℕ) : Type 0 where
  pub text : List ℕ
  pub put : Put 0 text before count out
  pub within : count ≤ length before
  pub long : length out ≡ length before
  pub counted : now.run.index ≤ now.run.place
  pub rest : fitting (length before) start (listed_from start) ≡ behind text (fitting (length before - count) now (listed_from now))

pub written_none : (p : Point) (out : List ℕ) → p.run.index ≤ p.run.place → Written p p out out 0
unfolding overlay
written_none p out h =
    let whole : length out - 0 ≡ length out = omega arith in
    record {
      text = [];
      put = record { ends = refl; bytes = refl };
      within = omega arith;
      long = refl;
      counted = h;
      rest = ap (λ (k : ℕ). fitting k p (listed_from p)) (sym whole);
    }

-- a line more
module _ {start p q : Point} {before out after : List ℕ} {count next : ℕ} (w : Written start p before out count)
    (h : (p.run.place < length p.trace) × (line_room (length p.buffer) ≤ length out - count))
    (turn : fills_at next q after ≡ turns count (listed p) out) where
  abbrev line : List ℕ
  line = (listed p).line

  stands_at : q ≡ (listed p).next
  stands_at = ap (λ (f : Fills). f.end) turn

  count_by : next ≡ count + length line
  count_by = ap (λ (f : Fills). f.count) turn

  bytes_by : after ≡ overlay count line out
  bytes_by = ap (λ (f : Fills). f.out) turn

  pub turn_further : p.run.place < q.run.place
  turn_further = rw stands_at (ahead p h.0).further

  pub turn_inside : q.run.place ≤ length p.trace
  turn_inside = rw stands_at (ahead p h.0).inside

  rest_by : fitting (length before - count) p (listed_from p) ≡ behind line (fitting (length before - next) q (listed_from q))
  rest_by =
      let room : length before - count - length line ≡ length before - next = omega (arith, count_by) in
      fitting_more p (length before - count) h.0 (omega (arith, h.1, w.long))
      ∙ ap (λ (k : ℕ). behind line (fitting k (listed p).next (listed_from (listed p).next))) room
      ∙ ap (λ (x : Point). behind line (fitting (length before - next) x (listed_from x))) (sym stands_at)

  one_text : (text : List ℕ) (x : Lines) → behind text (behind line x) ≡ behind (text ++ line) x
  one_text text x = ap (λ (t : List ℕ). lines_of t x.end) (sym (append_assoc text line x.text))

  pub written_more : next ≤ count + line_room (length p.buffer) → Written start q before after next
  written_more short =
      record {
        text = w.text ++ line;
        put = put_then w.put (record { ends = count_by; bytes = bytes_by });
        within = omega (arith, h.1, w.within, w.long);
        long = ap length bytes_by ∙ length_overlay count line out ∙ w.long;
        counted = rw stands_at ((ahead p h.0).counted w.counted);
        rest = w.rest ∙ ap (behind w.text) rest_by ∙ one_text w.text _;
      }

-- at the end
module _ (start : Point) (before : List ℕ) where
  pub filled_by : start.run.index ≤ start.run.place
      → fills (fitting (length before) start (listed_from start)) before ≡ filled start before
  unfolding filled
  filled_by h = rw (le-leb start.run.index start.run.place h)

  pub filled_not : start.run.place < start.run.index → fills_at 0 start before ≡ filled start before
  unfolding filled overlay
  filled_not h = rw (lt-leb start.run.index start.run.place h)

  pub written_all : {p : Point} {out : List ℕ} {count : ℕ} → start.run.index ≤ start.run.place
      → Written start p before out count
      → IsFull p (length out - count)
      → fills_at count p out ≡ filled start before
  written_all {p} {out} {count} c w f =
      let no_more : fitting (length before - count) p (listed_from p) ≡ none p =
      ap (λ (k : ℕ). fitting (k - count) p (listed_from p)) (sym w.long) ∙ full p (length out - count) f in
      let all : fitting (length before) start (listed_from start) ≡ lines_of w.text p =
      w.rest ∙ ap (behind w.text) no_more ∙ ap (λ (t : List ℕ). lines_of t p) (append-nil w.text) in
      let counted : count ≡ length w.text = w.put.ends ∙ zero-add (length w.text) in
      rw (counted, w.put.bytes) (sym (ap (λ (l : Lines). fills l before) all) ∙ filled_by c)

-- where a line is to follow and fits, the run comes further
module _ (p : Point) (out : List ℕ) (c : p.run.index ≤ p.run.place) where
  onward : (room : ℕ) → Onward p (fitting room p (listed_from p)).end
  onward room = fitting_onward (length p.trace) p room (omega arith) c

  pub filled_counted : (filled p out).end.run.index ≤ (filled p out).end.run.place
  filled_counted = rw (sym (filled_by p out c)) (onward (length out)).counted

  pub filled_further : p.run.place < length p.trace → line_room (length p.buffer) ≤ length out
      → p.run.place < (filled p out).end.run.place
  filled_further h f =
      let a = ahead p h in
      let next = (listed p).next in
      let on = fitting_onward (length next.trace) next (length out - length (listed p).line) (omega arith) (a.counted c) in
      let further : p.run.place < (fitting (length out) p (listed_from p)).end.run.place =
      rw (fitting_more p (length out) h f) (omega (arith, a.further, on.further)) in
      rw (sym (filled_by p out c)) further

  -- the same of what is left
  module _ {count : ℕ} {q : Point} {after : List ℕ} (e : fills_at count q after ≡ filled p out) where
    is_end : q ≡ (filled p out).end
    is_end = ap (λ (f : Fills). f.end) e

    pub left_counted : q.run.index ≤ q.run.place
    left_counted = rw is_end filled_counted

    pub left_further : p.run.place < length p.trace → line_room (length p.buffer) ≤ length out → p.run.place < q.run.place
    left_further h f = rw is_end (filled_further h f)
