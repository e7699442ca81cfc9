-- Document 01, "Fourteen runs to prove": inputs and results, as one list, in its order.
use Rattle.std.specs.Prelude.{List, [], ◌∷◌}
use Rattle.rules.specs.Example.{Run, then, says, quiet, refuses, S0, S1, Z, A, B, map_of, kernel_read, kernel_write, resume_of, spawn}
use Rattle.rules.specs.Example.{cloak_of, read_of, write_of, registers, call, interrupt}

abbrev four : Run
four = then B (write_of 0 0 0x00 ∷ kernel_read 0 ∷ []) (quiet 1 ∷ says 0 1 0 2 S1 ∷ [])

unfoldable pub fourteen : List Run
fourteen =
    -- 1. A, kernel read frame 0: S0, 1 seal
    then A (kernel_read 0 ∷ []) (says 0 1 0 1 S0 ∷ [])
    -- 2. B: the read gives 16 zeros
    ∷ B
    -- 3. B, kernel read: S0 again, used 1
    ∷ then B (kernel_read 0 ∷ []) (says 0 1 0 1 S0 ∷ [])
    -- 4. B, write byte 00 at 0, kernel read: S1, used 2
    ∷ four
    -- 5. Run 4, application read, write 07 at 0, kernel read: 6; application read of byte 0: 07
    ∷ then four (read_of 0 0 0 16 ∷ write_of 0 0 0x07 ∷ kernel_read 0 ∷ read_of 0 0 0 1 ∷ [])
    (says 0 0 1 2 Z ∷ quiet 2 ∷ refuses 6 2 ∷ says 0 0 0 2 (0x07 ∷ []) ∷ [])
    -- 6. Run 4, kernel writes S0 to frame 0, application read: 8; again: 7
    ∷ then four (kernel_write 0 S0 ∷ read_of 0 0 0 16 ∷ read_of 0 0 0 16 ∷ []) (quiet 2 ∷ refuses 8 2 ∷ refuses 7 2 ∷ [])
    -- 7. B, kernel writes S0 to frame 1, map page 0 to 1, read: zeros, 1 seal, 1 unveil, used 1
    ∷ then B (kernel_write 1 S0 ∷ map_of 0 0 1 ∷ read_of 0 0 0 16 ∷ []) (quiet 1 ∷ quiet 1 ∷ says 0 1 1 1 Z ∷ [])
    -- 8. A, map page 0 to frame 1, read: 8, 1 seal, used 1
    ∷ then A (map_of 0 0 1 ∷ read_of 0 0 0 16 ∷ []) (quiet 0 ∷ says 8 1 0 1 [] ∷ [])
    -- 9. B, off 15 len 1: done; off 15 len 2: 3
    ∷ then B (read_of 0 0 15 1 ∷ read_of 0 0 15 2 ∷ []) (says 0 0 0 1 (0 ∷ []) ∷ refuses 3 1 ∷ [])
    -- 10. B, read page 1: 5; page 2: 2
    ∷ then B (read_of 0 1 0 16 ∷ read_of 0 2 0 16 ∷ []) (refuses 5 1 ∷ refuses 2 1 ∷ [])
    -- 11. A, cloak page 0 again: 4
    ∷ then A (cloak_of 0 0 ∷ []) (refuses 4 0 ∷ [])
    -- 12. A, registers 1 to 8, call, mask 81 hex: shows 1,0,0,0,0,0,0,8; resume with 9: 9,2,3,4,5,6,7,8
    ∷ then A (call 0 0x81 ∷ resume_of 0 0 9 ∷ [])
    (says 0 0 0 0 (registers 1 0 0 0 0 0 0 8) ∷ says 0 0 0 0 (registers 9 2 3 4 5 6 7 8) ∷ [])
    -- 13. The same as an interrupt, mask 0: all zero; resume with 9: 1 to 8
    ∷ then A (interrupt 0 0 ∷ resume_of 0 0 9 ∷ [])
    (says 0 0 0 0 (registers 0 0 0 0 0 0 0 0) ∷ says 0 0 0 0 (registers 1 2 3 4 5 6 7 8) ∷ [])
    -- 14. A, spawn 0, 0: 4
    ∷ then A (spawn 0 0 ∷ []) (refuses 4 0 ∷ [])
    ∷ []
