-- The premises of `secret` can be met by runs whose secrets differ: two such runs, worked out.
use mathlib.Core.Path.{◌≡◌, refl, sym, ap}
use mathlib.Core.Logic.{◌≢◌}
use mathlib.Core.List.{List, [], ◌∷◌, map}
use mathlib.Core.Bool.{Bool, true, cond, true≢false}
use Prim.Native.Nat.{ℕ, ◌<◌}
use native.Mathlib.Omega.{arith}
use lib.ListN.{get_or, replicate}
use Rattle.rules.specs.Bytes.{same_bytes}
use Rattle.rules.specs.Answers.{start_refusal, start}
use Rattle.rules.specs.Runs.{Ask}
use Rattle.rules.specs.Example.{Seen, quiet, small, example, result, registers}
use Rattle.rules.specs.declared.Setup.{Setup}
use Rattle.rules.specs.declared.Tables.{Tables}
use Rattle.rules.specs.declared.TrapKind.TheVariants.{Call}
use Rattle.rules.specs.declared.Event.{Event}
use Rattle.rules.specs.declared.Event.TheVariants.{Begin, End, Map, Unmap, KernelRead, KernelWrite, Resume, Spawn, Leave, Cloak, Uncloak}
use Rattle.rules.specs.declared.Event.TheVariants.{Read, Write, Trap}
use Rattle.rules.proofs.Tests.{passes, all_at, same_bytes_holds}
use Rattle.rules.proofs.Computing.{computing}
use Rattle.theorem_secrecy.specs.Secrets.{register_of, may_be_seen, SameButSecrets, DifferInSecrets, DifferOnlyInSecrets, transcript}
use Rattle.theorem_secrecy.specs.TwoServices.{one, other}
use Rattle.theorem_secrecy.proofs.Main.{same_transcript}

-- Each run gives what is written down for it: the service is given another byte and other registers in the one than in the other,
-- and the kernel the same.
pub services_hold : map result (one ∷ other ∷ []) ≡ map (λ r. r.gives) (one ∷ other ∷ [])
unfolding computing
services_hold = refl

-- They start over different lent bytes,
pub both_start : (start_refusal example (replicate 32 255) (replicate 32 255) ≡ 0)
    × (start_refusal example (replicate 32 1) (replicate 32 2) ≡ 0)
unfolding computing
both_start = (refl, refl)

-- an ask differs from itself in nothing
same_data : (s : Setup) (t : Tables) (e : Event) (x : List ℕ) → SameButSecrets s t e x x
same_data s t (Begin d c) x = refl
same_data s t (End d) x = refl
same_data s t (Map d v f) x = refl
same_data s t (Unmap d v) x = refl
same_data s t (KernelRead f p) x = refl
same_data s t (KernelWrite f p) x = refl
same_data s t (Resume d c) x = refl
same_data s t (Spawn c u) x = refl
same_data s t (Leave c) x = refl
same_data s t (Cloak c v) x = refl
same_data s t (Uncloak c v) x = refl
same_data s t (Read c v p) x = refl
same_data s t (Write c v p) x = λ _. refl
same_data s t (Trap c k mask) x = λ i _ _. refl

same_ask : (s : Setup) (t : Tables) (a : Ask) → DifferInSecrets s t a a
same_ask s t a = record { event = refl; data_length = refl; room = refl; secrets = same_data s t a.event a.new }

-- of the call's registers the first and the last may be seen, and are equal
abbrev secret_registers : List ℕ
secret_registers = registers 1 2 3 4 5 6 7 8

abbrev other_registers : List ℕ
other_registers = registers 1 20 30 40 50 60 70 8

abbrev equal_if_seen : ℕ → Bool
equal_if_seen i = cond (may_be_seen Call 0x81 i) (same_bytes (register_of i secret_registers) (register_of i other_registers)) true

shown_equal : (i : ℕ) → i < 8 → may_be_seen Call 0x81 i ≡ true → register_of i secret_registers ≡ register_of i other_registers
unfolding computing
shown_equal i h e = same_bytes_holds _ _ (passes _ (rw e at (all_at {A = ℕ} (λ k _. equal_if_seen k) 0 (replicate 8 0) tt i h)))

-- and differ only in secrets.
pub differ_in_secrets : DifferOnlyInSecrets example (start example (replicate 32 255) (replicate 32 255)) one.asks other.asks
unfolding computing
differ_in_secrets = (
  same_ask small _ _,
  (
    same_ask small _ _,
    (
      same_ask small _ _,
      (
        record { event = refl; data_length = refl; room = refl; secrets = λ shared. absurd (true≢false (sym shared)) },
        (
          same_ask small _ _,
          (
            same_ask small _ _,
            (
              record { event = refl; data_length = refl; room = refl; secrets = shown_equal },
              (
                same_ask small _ _,
                tt,
              ),
            ),
          ),
        ),
      ),
    ),
  ),
)

-- So the kernel is told the same in both,
pub services_same : transcript example (start example (replicate 32 255) (replicate 32 255)) one.asks
    ≡ transcript example (start example (replicate 32 1) (replicate 32 2)) other.asks
services_same =
    same_transcript example (replicate 32 255) (replicate 32 1) (replicate 32 255) (replicate 32 2) both_start.0 both_start.1
    one.asks other.asks
    differ_in_secrets

-- though the runs are not the same: the services read different bytes.
pub services_differ : result one ≢ result other
unfolding computing
services_differ same =
    let read : ◌≡◌ {A = ℕ} 0x07 0xf9 = ap (λ (l : List Seen). get_or (get_or l 5 (quiet 0)).bytes 0 0) same in
    omega arith
