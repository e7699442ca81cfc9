-- Further runs, on what document 01's fourteen leave out: two signatures at once, pages that meet in one frame, ends, a Stopped
-- domain, Public pages, and the order of the refusals.
use Rattle.std.specs.Prelude.{List, [], ◌∷◌, ◌++◌, ℕ, replicate}
use Rattle.rules.specs.Records.{Given}
use Rattle.rules.specs.Runs.{Ask}
use Rattle.rules.specs.Example.{Run, Seen, then, says, quiet, refuses, S0, S1, Z, A, B, example, begin_in, end, map_of, unmap_of}
use Rattle.rules.specs.Example.{kernel_read, kernel_write, resume_of, spawn, leave, cloak_of, uncloak_of, read_of, write_of, registers}
use Rattle.rules.specs.Example.{call, interrupt, ask_with}
use Rattle.rules.specs.declared.Setup.{Setup}
use Rattle.rules.specs.declared.Event.TheVariants.{KernelWrite, Read}

-- P 16, D 2, V 2, T 2, F 3, N 3: three signatures, and three that are equal
abbrev S2 : List ℕ
S2 = replicate 16 0xa2

abbrev larger : Setup
larger = record { size = 16; domains = 2; pages = 2; contexts = 2; frames = 3; signatures = 3 }

abbrev distinct : Given
distinct = record { setup = larger; supply = S0 ++ S1 ++ S2 }

abbrev equal : Given
equal = record { setup = larger; supply = S0 ++ S0 ++ S0 }

abbrev from : Given → List Ask → List Seen → Run
from g asks gives = record { given = g; asks = asks; gives = gives }

-- pages 0 and 1 of domain 0 Clear in frames 0 and 1, dirty
abbrev two_clear : Given → Run
two_clear g =
    from g (begin_in 0 0 ∷ map_of 0 0 0 ∷ cloak_of 0 0 ∷ map_of 0 1 1 ∷ cloak_of 0 1 ∷ [])
    (quiet 0 ∷ quiet 0 ∷ quiet 0 ∷ quiet 0 ∷ quiet 0 ∷ [])

-- domain 0 Stopped: its page 0 was Clear in frame 0 and mapped to frame 1, which held no signature
abbrev stopped : Run
stopped =
    from distinct (begin_in 0 0 ∷ map_of 0 0 0 ∷ cloak_of 0 0 ∷ map_of 0 0 1 ∷ read_of 0 0 0 16 ∷ [])
    (quiet 0 ∷ quiet 0 ∷ quiet 0 ∷ quiet 0 ∷ says 8 1 0 1 [] ∷ [])

unfoldable pub further : List Run
further =
    -- a bring-in takes two signatures: the page's own first, then that of the page in its way
    then (two_clear example) (map_of 0 0 1 ∷ read_of 0 0 0 16 ∷ kernel_read 0 ∷ kernel_read 1 ∷ [])
    (quiet 0 ∷ says 8 2 0 2 [] ∷ says 0 0 0 2 S0 ∷ says 0 0 0 2 S1 ∷ [])
    -- the same where all signatures are equal: the page is found in the other's frame, with its own bytes
    ∷ then (two_clear equal) (write_of 0 0 7 ∷ map_of 0 0 1 ∷ read_of 0 0 0 16 ∷ [])
    (quiet 0 ∷ quiet 0 ∷ says 0 2 1 2 (7 ∷ replicate 15 0) ∷ [])
    -- two signatures needed and one left: 6, and nothing has moved, neither the page nor the one in its way
    ∷ then (two_clear example)
    (kernel_read 0 ∷ write_of 0 0 7 ∷ map_of 0 0 1 ∷ read_of 0 0 0 16 ∷ map_of 0 0 0 ∷ read_of 0 0 0 1 ∷ kernel_read 1 ∷ [])
    (says 0 1 0 1 S0
    ∷ says 0 0 1 1 []
    ∷ quiet 1
    ∷ refuses 6 1
    ∷ quiet 1
    ∷ says 0 0 0 1 (7 ∷ [])
    ∷ says 0 1 0 2 S1
    ∷ [])
    -- a page sealed at one frame and found at another, where the kernel copied its signature
    ∷ then B (kernel_read 0 ∷ kernel_write 1 S0 ∷ map_of 0 0 1 ∷ read_of 0 0 0 16 ∷ [])
    (says 0 1 0 1 S0 ∷ quiet 1 ∷ quiet 1 ∷ says 0 0 1 1 Z ∷ [])
    -- a page whose frame holds another page's signature: 8, and then 7
    ∷ then (two_clear example) (kernel_read 0 ∷ kernel_read 1 ∷ map_of 0 0 1 ∷ read_of 0 0 0 16 ∷ read_of 0 0 0 16 ∷ [])
    (says 0 1 0 1 S0 ∷ says 0 1 0 2 S1 ∷ quiet 2 ∷ refuses 8 2 ∷ refuses 7 2 ∷ [])
    -- two domains whose pages meet in frame 0: the second cloak seals the first's page, which is then not found there
    ∷ from distinct
    (begin_in 0 0
    ∷ map_of 0 0 0
    ∷ cloak_of 0 0
    ∷ begin_in 1 1
    ∷ map_of 1 0 0
    ∷ cloak_of 1 0
    ∷ read_of 0 0 0 16
    ∷ read_of 0 0 0 16
    ∷ read_of 1 0 0 16
    ∷ [])
    (quiet 0
    ∷ quiet 0
    ∷ quiet 0
    ∷ quiet 0
    ∷ quiet 0
    ∷ says 0 1 0 1 []
    ∷ says 8 1 0 2 []
    ∷ refuses 7 2
    ∷ says 0 0 1 2 Z
    ∷ [])
    -- end of a domain with a Clear page and a Sealed one: the one's frame is zero, the other's keeps its signature, and
    -- domain, context and pages can be had again
    ∷ then (two_clear distinct)
    (write_of 0 0 7
    ∷ kernel_read 1
    ∷ end 0
    ∷ kernel_read 0
    ∷ kernel_read 1
    ∷ end 0
    ∷ begin_in 0 0
    ∷ read_of 0 1 0 16
    ∷ map_of 0 1 1
    ∷ read_of 0 1 0 16
    ∷ [])
    (quiet 0
    ∷ says 0 1 0 1 S0
    ∷ quiet 1
    ∷ says 0 0 0 1 Z
    ∷ says 0 0 0 1 S0
    ∷ refuses 4 1
    ∷ quiet 1
    ∷ refuses 5 1
    ∷ quiet 1
    ∷ says 0 0 0 1 S0
    ∷ [])
    -- resume in the wrong domain, in the right one, and once more; the mask's most significant bit is register 0
    ∷ from distinct (begin_in 0 0 ∷ begin_in 1 1 ∷ call 0 0x80 ∷ resume_of 1 0 9 ∷ resume_of 0 0 9 ∷ resume_of 0 0 9 ∷ [])
    (quiet 0
    ∷ quiet 0
    ∷ says 0 0 0 0 (registers 1 0 0 0 0 0 0 0)
    ∷ refuses 4 0
    ∷ says 0 0 0 0 (registers 9 2 3 4 5 6 7 8)
    ∷ refuses 4 0
    ∷ [])
    -- in a Stopped domain the application's events answer 7, and so does resume; 4 comes before 7, and 7 before 5
    ∷ from distinct
    (begin_in 0 0
    ∷ map_of 0 0 0
    ∷ cloak_of 0 0
    ∷ spawn 0 1
    ∷ call 1 0x00
    ∷ map_of 0 0 1
    ∷ write_of 0 0 7
    ∷ resume_of 0 1 9
    ∷ uncloak_of 0 0
    ∷ cloak_of 0 0
    ∷ cloak_of 0 1
    ∷ [])
    (quiet 0
    ∷ quiet 0
    ∷ quiet 0
    ∷ quiet 0
    ∷ says 0 0 0 0 (registers 0 0 0 0 0 0 0 0)
    ∷ quiet 0
    ∷ says 8 1 0 1 []
    ∷ refuses 7 1
    ∷ refuses 7 1
    ∷ refuses 4 1
    ∷ refuses 7 1
    ∷ [])
    -- leave, spawn and trap answer 7 there; map, unmap and end work, and unmap answers 5 where nothing is mapped
    ∷ then stopped
    (leave 0
    ∷ spawn 0 1
    ∷ interrupt 0 0
    ∷ map_of 0 0 2
    ∷ unmap_of 0 0
    ∷ unmap_of 0 0
    ∷ end 0
    ∷ kernel_read 0
    ∷ begin_in 0 0
    ∷ [])
    (refuses 7 1
    ∷ refuses 7 1
    ∷ refuses 7 1
    ∷ quiet 1
    ∷ quiet 1
    ∷ refuses 5 1
    ∷ quiet 1
    ∷ says 0 0 0 1 S0
    ∷ quiet 1
    ∷ [])
    -- a Public page's read and write by the application seal as the kernel's do, and change what is unveiled there
    ∷ then A
    (map_of 0 1 0
    ∷ read_of 0 1 0 16
    ∷ read_of 0 0 0 16
    ∷ write_of 0 1 7
    ∷ kernel_read 0
    ∷ read_of 0 0 0 16
    ∷ [])
    (quiet 0
    ∷ says 0 1 0 1 S0
    ∷ says 0 0 1 1 Z
    ∷ says 0 1 0 1 []
    ∷ says 0 0 0 1 (7 ∷ replicate 15 0xa0)
    ∷ refuses 8 1
    ∷ [])
    -- cloak seals what is Clear in the mapped frame
    ∷ then A (map_of 0 1 0 ∷ cloak_of 0 1 ∷ kernel_read 0 ∷ []) (quiet 0 ∷ says 0 1 0 1 [] ∷ says 0 1 0 2 S1 ∷ [])
    -- uncloak zeroes the frame and keeps the mapping; the page can be cloaked again
    ∷ then A (write_of 0 0 7 ∷ uncloak_of 0 0 ∷ read_of 0 0 0 16 ∷ uncloak_of 0 0 ∷ cloak_of 0 0 ∷ [])
    (quiet 0 ∷ quiet 0 ∷ says 0 0 0 0 Z ∷ refuses 4 0 ∷ quiet 0 ∷ [])
    -- a context that has left is Free; its domain stays Live
    ∷ then A (leave 0 ∷ leave 0 ∷ begin_in 0 0 ∷ end 0 ∷ begin_in 0 0 ∷ [])
    (quiet 0 ∷ refuses 4 0 ∷ refuses 4 0 ∷ quiet 0 ∷ quiet 0 ∷ [])
    -- the order of the refusals: 1 before 2, 2 before 3, 3 before 11, 11 before 4; a wrong data length and a len of 0 are 3
    ∷ from example
    (interrupt 1 1
    ∷ read_of 1 0 0 0
    ∷ record { event = Read (record { 0 = 0 }) (record { 0 = 0 }) (record { off = 8; len = 9 }); new = []; buffer = [] }
    ∷ record {
      event = Read (record { 0 = 0 }) (record { 0 = 0 }) (record { off = 0; len = 16 });
      new = [];
      buffer = replicate 15 255;
    }
    ∷ read_of 0 0 0 16
    ∷ read_of 0 0 0 0
    ∷ ask_with (KernelWrite (record { 0 = 0 }) (record { off = 0; len = 16 })) (replicate 15 7)
    ∷ [])
    (refuses 1 0 ∷ refuses 2 0 ∷ refuses 3 0 ∷ refuses 11 0 ∷ refuses 4 0 ∷ refuses 3 0 ∷ refuses 3 0 ∷ [])
    -- 5 before 6: no signature is left, page 0 is dirty in frame 0, and page 1 is not mapped
    ∷ then B (write_of 0 0 0 ∷ kernel_read 0 ∷ write_of 0 0 7 ∷ cloak_of 0 1 ∷ map_of 0 1 0 ∷ cloak_of 0 1 ∷ [])
    (quiet 1 ∷ says 0 1 0 2 S1 ∷ says 0 0 1 2 [] ∷ refuses 5 2 ∷ quiet 2 ∷ refuses 6 2 ∷ [])
    ∷ []
