-- Document 01, "The trace form": the checks that trace-run makes before the first record, in their order. Each that fails is a
-- refused header.
use Rattle.std.specs.Prelude.{ℕ, ◌*◌, Bool, cond, List, [], ◌∷◌, Ok, Err, length, nat_le, nat_lt}
use Rattle.rules.specs.Bytes.{all_of}
use Rattle.rules.specs.Refusals.{number_in}
use Rattle.rules.specs.declared.Setup.{Setup}
use Rattle.rules.specs.declared.Refusal.TheVariants.{NotAcceptable}
use Rattle.trace_read.specs.Reading.{Header, sizes_at, header_at}

-- of a trace, of the frames and of the store: so many bytes at most
abbrev pub limit : ℕ
limit = 16384

-- what a setup asks to be lent: eight words of saved registers a context, and F · P and D · V · P bytes
abbrev pub saved_length : Setup → ℕ
saved_length s = 8 * s.contexts

abbrev pub frames_length : Setup → ℕ
frames_length s = s.frames * s.size

abbrev pub store_length : Setup → ℕ
store_length s = s.domains * s.pages * s.size

unfoldable pub products_fit : Setup → Bool
products_fit s = all_of (nat_le (frames_length s) limit ∷ nat_le (store_length s) limit ∷ [])

-- the header's 48 bits (9), the two products (10), the signatures being whole (9)
unfoldable pub opening_of : List ℕ → Header → Header
opening_of trace (Ok o) = cond (products_fit o.setup) (header_at trace) (Err NotAcceptable)
opening_of trace (Err r) = Err r

-- before these, the input's length (10)
unfoldable pub opening_at : List ℕ → Header
opening_at trace = cond (nat_lt limit (length trace)) (Err NotAcceptable) (opening_of trace (sizes_at trace))

-- the number that the header is refused with, or 0
unfoldable pub header_refusal : List ℕ → ℕ
header_refusal trace = number_in (opening_at trace)
