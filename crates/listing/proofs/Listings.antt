-- The listing by the library's own calls: what a filled output holds is the first of the lines from the point before, and the lines
-- from the point behind it are the rest. So filling outputs one after the other to the trace's end gives all of the lines.
use Rattle.std.proofs.Common.{◌≡◌, ℕ, zero, suc, ◌+◌, ◌-◌, ◌<◌, ◌≤◌, List, ◌++◌, length, take, drop, sym, refl, ap, ◌∙◌, subst}
use Rattle.std.proofs.Common.{append_assoc, arith, take_at}
use native.Mathlib.Decide.{dec_lt}
use Rattle.rules.specs.Bytes.{overlay}
use Rattle.rules.proofs.Parts.{overlay_is}
use Rattle.listing.specs.Listing.{Point, listed, listed_from, lines_from}
use Rattle.listing.specs.Filling.{Lines, Fills, line_room, fitting, filled}
use Rattle.listing.proofs.Fillings.{filled_by}
use Rattle.listing.proofs.Steps.{Enough, enough_behind, lines_more, fitting_end, fitting_full, fitting_more}

overlay_front : (new bytes : List ℕ) (k : ℕ) → length new ≡ k → k ≤ length bytes → take k (overlay 0 new bytes) ≡ new
overlay_front new bytes k size fits =
    ap (take k) (overlay_is 0 new bytes (omega arith)) ∙ take_at new (drop (0 + length new) bytes) k size

-- the lines that fit, and those behind them
abbrev Whole : Point → Lines → Type 0
Whole p l = lines_from p ≡ l.text ++ lines_from l.end

fitting_in : (n : ℕ) (p : Point) (room : ℕ) → Enough p n → Whole p (fitting room p (listed_from p))
fitting_in zero p room e = rw (fitting_end p room (omega arith))
fitting_in (suc n) p room e =
    go (dec_lt p.run.place (length p.trace)) (dec_lt room (line_room (length p.buffer)))
    (λ h. fitting_in n (listed p).next (room - length (listed p).line) (enough_behind p n h e))
  where
    go : Dec (p.run.place < length p.trace) → Dec (room < line_room (length p.buffer))
        → (p.run.place < length p.trace
        → Whole (listed p).next (fitting (room - length (listed p).line) (listed p).next (listed_from (listed p).next)))
        → Whole p (fitting room p (listed_from p))
    go (yes h) (yes f) rest = rw (fitting_full p room h f)
    go (yes h) (no f) rest =
        rw (fitting_more p room h (omega arith))
        (lines_more p h ∙ ap (λ (x : List ℕ). (listed p).line ++ x) (rest h) ∙ sym (append_assoc (listed p).line _ _))
    go (no h) f rest = rw (fitting_end p room (omega arith))

pub fitting_lines : (p : Point) (room : ℕ)
    → lines_from p ≡ (fitting room p (listed_from p)).text ++ lines_from (fitting room p (listed_from p)).end
fitting_lines p room = fitting_in (length p.trace) p room (omega arith)

-- in the words of `fill`'s promise: the bytes that were filled, and the lines behind them
pub filled_lines : (p : Point) (out : List ℕ) → p.run.index ≤ p.run.place → (filled p out).count ≤ length out
    → lines_from p ≡ take (filled p out).count (filled p out).out ++ lines_from (filled p out).end
filled_lines p out c =
    subst
    (λ (f : Fills). f.count ≤ length out → lines_from p ≡ take f.count f.out ++ lines_from f.end)
    (filled_by p out c)
    (λ within.
    let l = fitting (length out) p (listed_from p) in
    fitting_lines p (length out)
    ∙ ap (λ (t : List ℕ). t ++ lines_from l.end) (sym (overlay_front l.text out (length l.text) refl within)))
