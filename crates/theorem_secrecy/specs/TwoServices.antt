-- Two runs that differ in secrets alone. The service writes a byte to its private page; the kernel reads the frame; the service
-- reads the byte back, calls the kernel with registers 0 and 7 shown, and is resumed with 9.
use Rattle.std.specs.Prelude.{[], ◌∷◌, ℕ}
use Rattle.rules.specs.Example.{Run, then, says, quiet, S0, A, kernel_read, resume_of, read_of, write_of, registers, ask_with}
use Rattle.rules.specs.declared.TrapKind.TheVariants.{Call}
use Rattle.rules.specs.declared.Event.TheVariants.{Trap}

-- the byte, and registers 1 to 6
abbrev service : ℕ → ℕ → ℕ → ℕ → ℕ → ℕ → ℕ → Run
service x a b c d e f =
    then A
    (write_of 0 0 x
    ∷ kernel_read 0
    ∷ read_of 0 0 0 1
    ∷ ask_with (Trap (record { 0 = 0 }) Call 0x81) (registers 1 a b c d e f 8)
    ∷ resume_of 0 0 9
    ∷ [])
    (quiet 0
    ∷ says 0 1 0 1 S0
    ∷ says 0 0 1 1 (x ∷ [])
    ∷ says 0 0 0 1 (registers 1 0 0 0 0 0 0 8)
    ∷ says 0 0 0 1 (registers 9 a b c d e f 8)
    ∷ [])

abbrev pub one : Run
one = service 0x07 2 3 4 5 6 7

abbrev pub other : Run
other = service 0xf9 20 30 40 50 60 70
