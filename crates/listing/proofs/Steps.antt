-- The laws of the listing: every line brings the run forward, so the lines from a point are its next line and those from the point
-- behind that; and an output filled with lines holds the first of them.
use Rattle.std.proofs.Common.{◌≡◌, ℕ, zero, suc, ◌+◌, ◌-◌, ◌<◌, ◌≤◌, List, [], ◌∷◌, ◌++◌, length, sym, refl, ap, ◌∙◌, arith, length-drop}
use Rattle.std.proofs.Common.{Some, None, Ok, Err, le-ltb, lt-ltb, le-leb}
use native.Mathlib.Decide.{dec_lt}
use borrow.Author.Tests.{lt-leb}
use Rattle.trace_form.specs.Form.{first}
use Rattle.trace_read.specs.Reading.{Found, read_at}
use Rattle.trace_laws.proofs.Records.{stands, takes_a_byte}
use Rattle.trace_laws.proofs.Wholes.{first_right}
use Rattle.listing.specs.Listing.{Point, Listed, unread, event_listed, listed_as, listed, listed_in, listed_from}
use Rattle.listing.specs.Listing.{text_of, lines_from}
use Rattle.listing.specs.Filling.{line_room, none, behind, fitting}

-- the point behind a line: of the same trace, further on, and its index still at most its place
pub record Ahead (p q : Point) : Type 0 where
  pub trace : q.trace ≡ p.trace
  pub further : p.run.place < q.run.place
  pub inside : q.run.place ≤ length p.trace
  pub counted : p.run.index ≤ p.run.place → q.run.index ≤ q.run.place

module _ (p : Point) (more : p.run.place < length p.trace) where
  ahead_as : (found : Found) → read_at first (unread p) p.run.place ≡ found → Ahead p (listed_as p found).next
  unfolding listed_as event_listed
  ahead_as (Ok None) e = record { trace = refl; further = more; inside = omega arith; counted = λ c. omega arith }
  ahead_as (Err n) e = record { trace = refl; further = more; inside = omega arith; counted = λ c. omega arith }
  ahead_as (Ok (Some r)) e =
      let st = stands r first (unread p) p.run.place e in
      let some = takes_a_byte first first_right (unread p) p.run.place r st in
      let rest = length-drop p.run.place p.trace in
      record {
        trace = refl;
        further = omega (arith, st.next_at, some);
        inside = omega (arith, st.next_at, st.inside, rest);
        counted = λ c. omega (arith, st.next_at, some);
      }

  pub ahead : Ahead p (listed p).next
  unfolding listed
  ahead = ahead_as (read_at first (unread p) p.run.place) refl

-- as many steps as there are bytes left are enough
module _ (p : Point) (n : ℕ) where
  in_none : length p.trace ≤ p.run.place → [] ≡ listed_in n p
  unfolding listed_in
  in_none h = at n
    where
      at : (n : ℕ) → [] ≡ listed_in n p
      at zero = refl
      at (suc n) = rw (le-ltb p.run.place (length p.trace) h)

  in_more : p.run.place < length p.trace → listed_in (suc n) p ≡ listed p ∷ listed_in n (listed p).next
  unfolding listed_in
  in_more h = rw (lt-ltb p.run.place (length p.trace) h)

abbrev pub Enough : Point → ℕ → Type 0
Enough p n = length p.trace ≤ p.run.place + n

pub enough_behind : (p : Point) (n : ℕ) → p.run.place < length p.trace → Enough p (suc n) → Enough (listed p).next n
enough_behind p n h e = let a = ahead p h in omega (arith, ap length a.trace, a.further)

any_enough : (n m : ℕ) (p : Point) → Enough p n → Enough p m → listed_in n p ≡ listed_in m p
any_enough zero m p e f = sym (in_none p zero (omega arith)) ∙ in_none p m (omega arith)
any_enough (suc n) zero p e f = sym (in_none p (suc n) (omega arith)) ∙ in_none p zero (omega arith)
any_enough (suc n) (suc m) p e f =
    go (dec_lt p.run.place (length p.trace))
    (λ h. any_enough n m (listed p).next (enough_behind p n h e) (enough_behind p m h f))
  where
    go : Dec (p.run.place < length p.trace)
        → (p.run.place < length p.trace → listed_in n (listed p).next ≡ listed_in m (listed p).next)
        → listed_in (suc n) p ≡ listed_in (suc m) p
    go (yes h) rest = in_more p n h ∙ ap (λ (ls : List Listed). listed p ∷ ls) (rest h) ∙ sym (in_more p m h)
    go (no h) rest = sym (in_none p (suc n) (omega arith)) ∙ in_none p (suc m) (omega arith)

-- THE LINES FROM A POINT: none at the end of the trace, and else the next line and those from the point behind it
pub listed_end : (p : Point) → length p.trace ≤ p.run.place → listed_from p ≡ []
unfolding listed_from
listed_end p h = sym (in_none p (length p.trace) h)

pub listed_more : (p : Point) → p.run.place < length p.trace → listed_from p ≡ listed p ∷ listed_from (listed p).next
unfolding listed_from
listed_more p h =
    let n : ℕ = length p.trace in
    any_enough n (suc n) p (omega arith) (omega arith)
    ∙ in_more p n h
    ∙ ap (λ (k : ℕ). listed p ∷ listed_in k (listed p).next) (sym (ap length (ahead p h).trace))

pub lines_end : (p : Point) → length p.trace ≤ p.run.place → lines_from p ≡ []
unfolding lines_from text_of
lines_end p h = rw (listed_end p h)

pub lines_more : (p : Point) → p.run.place < length p.trace → lines_from p ≡ (listed p).line ++ lines_from (listed p).next
unfolding lines_from text_of
lines_more p h = rw (listed_more p h)

-- AN OUTPUT THAT IS FILLED: none where the trace is at its end or a line might not fit, and else a line and what fits behind it
pub fitting_end : (p : Point) (room : ℕ) → length p.trace ≤ p.run.place → fitting room p (listed_from p) ≡ none p
unfolding fitting
fitting_end p room h = rw (listed_end p h)

pub fitting_full : (p : Point) (room : ℕ) → p.run.place < length p.trace → room < line_room (length p.buffer)
    → fitting room p (listed_from p) ≡ none p
unfolding fitting
fitting_full p room h f = rw (listed_more p h, lt-leb (line_room (length p.buffer)) room f)

pub fitting_more : (p : Point) (room : ℕ) → p.run.place < length p.trace → line_room (length p.buffer) ≤ room
    → fitting room p (listed_from p)
    ≡ behind (listed p).line (fitting (room - length (listed p).line) (listed p).next (listed_from (listed p).next))
unfolding fitting
fitting_more p room h f = rw (listed_more p h, le-leb (line_room (length p.buffer)) room f)

-- an output that is filled leaves the run further on, and its index still at most its place
pub record Onward (p q : Point) : Type 0 where
  pub further : p.run.place ≤ q.run.place
  pub counted : q.run.index ≤ q.run.place

abbrev stays : (p : Point) → p.run.index ≤ p.run.place → Onward p p
stays p c = record { further = omega arith; counted = c }

pub fitting_onward : (n : ℕ) (p : Point) (room : ℕ) → Enough p n → p.run.index ≤ p.run.place
    → Onward p (fitting room p (listed_from p)).end
fitting_onward zero p room e c = rw (fitting_end p room (omega arith)) (stays p c)
fitting_onward (suc n) p room e c =
    go (dec_lt p.run.place (length p.trace)) (dec_lt room (line_room (length p.buffer)))
    (λ h. fitting_onward n (listed p).next (room - length (listed p).line) (enough_behind p n h e) ((ahead p h).counted c))
  where
    go : Dec (p.run.place < length p.trace) → Dec (room < line_room (length p.buffer))
        → (p.run.place < length p.trace
        → Onward (listed p).next (fitting (room - length (listed p).line) (listed p).next (listed_from (listed p).next)).end)
        → Onward p (fitting room p (listed_from p)).end
    go (yes h) (yes f) rest = rw (fitting_full p room h f) (stays p c)
    go (yes h) (no f) rest =
        let on = rest h in
        let a = ahead p h in
        rw (fitting_more p room h (omega arith)) (record { further = omega (arith, on.further, a.further); counted = on.counted })
    go (no h) f rest = rw (fitting_end p room (omega arith)) (stays p c)
