-- Document 01: each trace has one encoding, and what was read comes back unchanged. The theorems are about whole traces, a
-- header, its signatures and records to the end, as specs/Traces.antt reads and writes them by the very steps that the
-- contracts of the crates trace_read and trace_write cite.
use mathlib.Core.Path.{◌≡◌, sym, ◌∙◌}
use mathlib.Core.List.{List}
use Prim.Native.Nat.{ℕ, ◌^◌, ◌≤◌, ◌<◌}
use lib.ListN.{length, take}
use Rattle.rules.specs.Bytes.{Bytes}
use Rattle.trace_write.specs.Writing.{done}
use Rattle.trace_laws.specs.Traces.{Content, read_trace, Ends, write_trace}
use Rattle.trace_laws.specs.Traces.Reading.{ended}
use Rattle.trace_laws.proofs.Wholes.{trace_ends, trace_kept, written_again, read_again}

-- Writing what was read: if a trace of bytes reads to its end, then writing what was read, to any output with room for it, is
-- done, and leaves the trace's own bytes at the front of the output.
pub write_what_was_read : (trace : List ℕ) (c : Content) (out : List ℕ) → Bytes trace → read_trace trace ≡ ended c
    → length trace ≤ length out → write_trace c out ≡ done trace out
write_what_was_read = written_again

-- Reading what was written: if writing to an output is done, then what was written reads to its end, as the same setup, the
-- same signatures, the same events and the same data. (An output is a slice: its length fits 64 bits.)
pub read_what_was_written : (c : Content) (out : List ℕ) → length out < 2 ^ 64 → (write_trace c out).number ≡ 0
    → read_trace (take (write_trace c out).count (write_trace c out).out) ≡ ended c
read_what_was_written = read_again

-- One encoding: two traces of bytes that read to the same content are the same bytes.
pub one_encoding : (s t : List ℕ) (c : Content) → Bytes s → Bytes t → read_trace s ≡ ended c → read_trace t ≡ ended c → s ≡ t
one_encoding s t c bs bt es et = sym (trace_kept s bs c es).bytes ∙ (trace_kept t bt c et).bytes

-- Reading ends: a trace is read to its end, or reading stops with 1, 9 or 10; it never goes on, since each record takes at
-- least one byte.
pub reading_ends : (trace : List ℕ) → Ends (read_trace trace)
reading_ends = trace_ends
