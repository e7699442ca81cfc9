-- Two starts are alike, whatever frames and store were lent, and so are two runs from them.
use mathlib.Core.Path.{◌≡◌, refl, sym, ap₂, ◌∙◌, subst}
use mathlib.Core.List.{List}
use Prim.Native.Nat.{ℕ, ◌*◌}
use lib.ListN.{length}
use Rattle.rules.specs.Runs.{Ask}
use Rattle.rules.specs.Bytes.{zeros}
use Rattle.rules.specs.Records.{Given, Machine, machine, fresh_state}
use Rattle.rules.specs.Answers.{start_refusal, start}
use Rattle.rules.specs.declared.Setup.{Setup}
use Rattle.rules.proofs.Facts.{Accepted}
use Rattle.rules.proofs.Parts.{length_zeros}
use Rattle.theorem_reached.proofs.Start.{start_accepted}
use Rattle.theorem_secrecy.specs.Secrets.{DifferOnlyInSecrets, SameRuns}
use Rattle.theorem_secrecy.proofs.TwoRuns.{runs_alike}
use Rattle.theorem_secrecy.proofs.Alike.{Alike}

pub alike_self : (s : Setup) (m : Machine) → Alike s m m
alike_self s m = record { tables = refl; seals = refl; unveils = refl; bare = λ f hf q. refl }

-- a granted start is zero, and as long as the setup says
start_is : (g : Given) (frames store : List ℕ) → start_refusal g frames store ≡ 0
    → start g frames store ≡ machine fresh_state (zeros (length frames)) (zeros (length store))
unfolding start
start_is g frames store ok = rw ok

start_zero : (g : Given) (frames store : List ℕ) → start_refusal g frames store ≡ 0
    → start g frames store
    ≡ machine fresh_state (zeros (g.setup.frames * g.setup.size)) (zeros (g.setup.domains * g.setup.pages * g.setup.size))
start_zero g frames store ok =
    let e = start_is g frames store ok in
    let accepted = subst (Accepted g) e (start_accepted g frames store ok) in
    e
    ∙ ap₂ (λ (x y : ℕ). machine fresh_state (zeros x) (zeros y)) (sym (length_zeros (length frames)) ∙ accepted.looks.frames)
    (sym (length_zeros (length store)) ∙ accepted.looks.store)

pub starts_alike : (g : Given) (frames frames' store store' : List ℕ) → start_refusal g frames store ≡ 0
    → start_refusal g frames' store' ≡ 0
    → Alike g.setup (start g frames store) (start g frames' store')
starts_alike g frames frames' store store' ok ok' =
    rw (start_zero g frames store ok, start_zero g frames' store' ok') (alike_self g.setup _)

-- so runs from them are
pub started_runs : (g : Given) (frames frames' store store' : List ℕ) → start_refusal g frames store ≡ 0
    → start_refusal g frames' store' ≡ 0
    → (asks others : List Ask) → DifferOnlyInSecrets g (start g frames store) asks others
    → SameRuns g (start g frames store) (start g frames' store') asks others
started_runs g frames frames' store store' ok ok' asks others secrets =
    runs_alike g asks others (start g frames store) (start g frames' store') (start_accepted g frames store ok)
    (start_accepted g frames' store' ok') (starts_alike g frames frames' store store' ok ok') secrets
