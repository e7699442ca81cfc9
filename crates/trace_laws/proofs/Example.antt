-- Document 01's example trace, by computation: reading it gives its five records, and writing them gives its bytes; and what
-- the reader and the writer refuse, one case for each reason.
use mathlib.Core.Path.{◌≡◌, refl}
use mathlib.Core.List.{List, [], ◌∷◌, ◌++◌, map}
use Prim.Native.Nat.{ℕ}
use lib.ListN.{replicate, take}
use Rattle.rules.specs.Example.{S0, S1, small}
use Rattle.rules.specs.declared.Setup.{Setup}
use Rattle.rules.specs.declared.Event.{Event}
use Rattle.rules.specs.declared.Event.TheVariants.{Begin, KernelRead, Trap}
use Rattle.rules.specs.declared.TrapKind.TheVariants.{Interrupt}
use Rattle.trace_form.specs.Form.{first}
use Rattle.rules.specs.Refusals.{number_in}
use Rattle.trace_read.specs.Reading.{header_at, read_at}
use Rattle.trace_write.specs.Writing.{done, write_header, write_record}
use Rattle.trace_laws.specs.Traces.{read_trace, write_trace}
use Rattle.trace_laws.specs.Traces.Reading.{ended}
use Rattle.trace_laws.proofs.Computing.{trace_computing}
use Rattle.trace_laws.specs.Example.{example_trace, example_content}

pub example_reads : read_trace example_trace ≡ ended example_content
unfolding trace_computing
example_reads = refl

-- to an output of 64 bytes
pub example_writes : write_trace example_content (replicate 64 255) ≡ done example_trace (replicate 64 255)
unfolding trace_computing
example_writes = refl

-- The reader: kinds 14 and 15, before any 9; a record cut short, a padding bit set, data cut short; a place that the unread
-- length cannot be added to, before all else; and the end, at the last place too.
pub reader_refuses : map number_in
    (read_at first (0xe0 ∷ []) 0
    ∷ read_at first (0xff ∷ []) 0
    ∷ read_at first (0x40 ∷ 0x00 ∷ []) 0
    ∷ read_at first (0x00 ∷ 0x01 ∷ []) 0
    ∷ read_at first (0x50 ∷ 0x00 ∷ 0x00 ∷ 0x00 ∷ 0x00 ∷ []) 0
    ∷ read_at first (0x00 ∷ 0x00 ∷ []) 18446744073709551614
    ∷ read_at first (0xe0 ∷ []) 18446744073709551615
    ∷ read_at first [] 18446744073709551615
    ∷ [])
    ≡ 1 ∷ 1 ∷ 9 ∷ 9 ∷ 9 ∷ 10 ∷ 10 ∷ 0 ∷ []
unfolding trace_computing
reader_refuses = refl

-- A header cut short, with a spare bit set, and with a signature's last byte missing.
pub header_refuses : map number_in
    (header_at (take 5 example_trace)
    ∷ header_at (0x00 ∷ 0x01 ∷ 0x00 ∷ 0x40 ∷ 0x00 ∷ 0x01 ∷ [])
    ∷ header_at (take 37 example_trace)
    ∷ header_at (take 38 example_trace)
    ∷ [])
    ≡ 9 ∷ 9 ∷ 9 ∷ 0 ∷ []
unfolding trace_computing
header_refuses = refl

-- The writer: a domain and a frame beyond their fields; len 0 and 4,097, off 4,096, data of a wrong length; an output too
-- short by one; each before those after it; and an interrupt's mask, which is written as given.
abbrev writes : Event → List ℕ → ℕ → ℕ
writes e new room = (write_record first e new (replicate room 0)).number

abbrev reads : ℕ → ℕ → ℕ → Event
reads f off len = KernelRead (record { 0 = f }) (record { off = off; len = len })

pub writer_refuses :
    writes (Begin (record { 0 = 8 }) (record { 0 = 0 })) [] 0
    ∷ writes (reads 64 0 0) [] 0
    ∷ writes (reads 63 0 0) [] 0
    ∷ writes (reads 63 0 4097) [] 0
    ∷ writes (reads 63 4096 1) [] 0
    ∷ writes (reads 63 4095 4096) (0 ∷ []) 0
    ∷ writes (reads 63 4095 4096) [] 4
    ∷ writes (reads 63 4095 4096) [] 5
    ∷ writes (Trap (record { 0 = 15 }) Interrupt 255) (replicate 64 0) 67
    ∷ []
    ≡ 2 ∷ 2 ∷ 3 ∷ 3 ∷ 3 ∷ 3 ∷ 11 ∷ 0 ∷ 0 ∷ []
unfolding trace_computing
writer_refuses = refl

-- A header's writer: a page size that is no multiple of 16, a signature's last byte missing, an output too short by one.
abbrev heads : Setup → List ℕ → ℕ → ℕ
heads s supply room = (write_header s supply (replicate room 0)).number

pub header_writer_refuses :
    heads (record { size = 24; domains = 1; pages = 2; contexts = 1; frames = 2; signatures = 0 }) [] 0
    ∷ heads small (take 31 (S0 ++ S1)) 0
    ∷ heads small (S0 ++ S1) 37
    ∷ heads small (S0 ++ S1) 38
    ∷ []
    ≡ 10 ∷ 10 ∷ 11 ∷ 0 ∷ []
unfolding trace_computing
header_writer_refuses = refl
