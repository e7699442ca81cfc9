-- What the functions over a `Reader` promise of their results, and `read_record`, which makes one: named here so that what is
-- proved of these promises is about the ones that the contracts cite.
use Rattle.std.specs.Prelude.{◌≡◌, List, ℕ, length}
use Rattle.std.specs.Borrow.{Bor}
use Rattle.trace_form.specs.Form.{first}
use Rattle.trace_read.specs.Reading.{Found, read_at, unread_after, place_after}
use Rattle.trace_read.specs.declared.Reader.{Reader}

-- a reader of these bytes at this place
abbrev pub Reads : Bor (List ℕ) → ℕ → Reader → Type 0
Reads unread place r = (r.unread ≡ unread) × (r.place ≡ place)

abbrev pub Unread : Reader → ℕ → Type 0
Unread r n = n ≡ length r.unread.now

abbrev pub Finds : List ℕ → ℕ → Found → Type 0
Finds unread place found = found ≡ read_at first unread place

-- the reader behind what was found; at the same place where that was no record
abbrev pub Behind : Reader → Found → Reader → Type 0
Behind r found q =
    (q.unread.now ≡ unread_after found r.unread.now) × (q.place ≡ place_after found r.place)
