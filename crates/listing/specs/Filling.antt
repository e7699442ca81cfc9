-- An output filled with whole lines, as many as surely fit, and all that a call of the library leaves, as one record.
use Rattle.std.specs.Prelude.{ℕ, ◌+◌, ◌-◌, ◌*◌, ◌<◌, ◌≤◌, cond, List, [], ◌∷◌, ◌++◌, length, nat_le, nat_lt}
use Rattle.rules.specs.Bytes.{overlay}
use Rattle.listing_line.specs.Lines.{refused_line}
use Rattle.listing.specs.Listing.{Point, Listed, point, listed_from}
use Rattle.listing.specs.declared.Run.{Run}
use Rattle.listing.specs.declared.Filled.{Filled}

-- more than any line takes: six numbers, each with a space behind it, and an answer of so many bytes in hex
abbrev pub numbers_room : ℕ
numbers_room = 128

abbrev pub line_room : ℕ → ℕ
line_room answer = numbers_room + 2 * answer

-- lines, and the point behind them
pub record Lines : Type 0 where
  pub text : List ℕ
  pub end : Point

abbrev pub none : Point → Lines
none p = record { text = []; end = p }

abbrev pub behind : List ℕ → Lines → Lines
behind line rest = record { text = line ++ rest.text; end = rest.end }

-- of the lines to come, as many as surely fit; p is the point before them
unfoldable pub fitting : ℕ → Point → List Listed → Lines
fitting room p [] = none p
fitting room p (l ∷ ls) =
    let some = behind l.line (fitting (room - length l.line) l.next ls) in
    cond (nat_le (line_room (length p.buffer)) room) some (none p)

-- what is left when an output is filled: how many of its bytes are lines, the point behind them, and its bytes
pub record Fills : Type 0 where
  pub count : ℕ
  pub end : Point
  pub out : List ℕ

abbrev pub left : Filled → List ℕ → List ℕ → List ℕ → List ℕ → List ℕ → List ℕ → List ℕ → Fills
left r trace tables saved frames store buffer out =
    record { count = r.count; end = point trace r.run tables saved frames store buffer; out = out }

abbrev pub fills : Lines → List ℕ → Fills
fills l out = record { count = length l.text; end = l.end; out = overlay 0 l.text out }

-- one line, from at on
abbrev pub turns : ℕ → Listed → List ℕ → Fills
turns at l out = record { count = at + length l.line; end = l.next; out = overlay at l.line out }

-- a run whose index is past its place is of no trace: nothing is listed, and nothing changes
unfoldable pub filled : Point → List ℕ → Fills
filled p out =
    cond (nat_le p.run.index p.run.place) (fills (fitting (length out) p (listed_from p)) out) (fills (none p) out)

-- what is asked before a turn: room for the longest line
pub record Ready (trace : List ℕ) (run : Run) (buffer room at : ℕ) : Type 0 where
  pub counted : run.index ≤ run.place
  pub inside : run.place < length trace
  pub wide : at + line_room buffer ≤ room

-- a header's line, over an output that has room for it
pub record Wrote : Type 0 where
  pub count : ℕ
  pub out : List ℕ

abbrev pub wrote : List ℕ → List ℕ → Wrote
wrote text out = record { count = length text; out = overlay 0 text out }

unfoldable pub refusal_wrote : ℕ → List ℕ → Wrote
refusal_wrote number out = cond (nat_lt (length out) numbers_room) (wrote [] out) (wrote (refused_line 0 number 0) out)
