-- What the kernel is told in two runs of the code whose events differ only in secrets: the law of `theorem_secrecy`.
use Rattle.std.proofs.Common.{◌≡◌, ℕ, ◌*◌, List, arith}
use mathlib.Core.Path.{transport, transport⁻¹}
use lib.ListN.{length-replicate}
use Rattle.rules.specs.Records.{Given}
use Rattle.rules.specs.Answers.{start}
use Rattle.rules.specs.Runs.{Ask}
use Rattle.rules.specs.Example.{small, example}
use Rattle.core_tables.specs.Image.{image_words}
use Rattle.theorem_secrecy.specs.Secrets as rule-secrets
use Rattle.theorem_secrecy.specs.TwoServices.{one, other}
use Rattle.theorem_secrecy.proofs.Main as rule
use Rattle.theorem_secrecy.proofs.Example.{differ_in_secrets}
use Rattle.theorem_code.specs.Calls.{Memory, WordsRight, CodeRun, any_memory}
use Rattle.theorem_code.specs.Told.{DifferOnlyInSecrets, SameRuns}
use Rattle.theorem_code.proofs.Stands.{Stands, start_stands}
use Rattle.theorem_code.proofs.TwoRuns.{same_secrets, same_runs}
use Rattle.theorem_code.proofs.Points.{words_right, rules_start}

module _ {g : Given} {lent : Memory} {asks : List Ask} (r : CodeRun g lent asks) (right : WordsRight g.setup lent) where
  pub starts_at : Stands g r.first (start g lent.frames lent.store)
  starts_at = start_stands g lent right r.first r.starts

  pub run_secrets : (others : List Ask)
      → DifferOnlyInSecrets g.setup r.first r.lefts asks others
      ≡ rule-secrets.DifferOnlyInSecrets g (start g lent.frames lent.store) asks others
  run_secrets = same_secrets g r.first (start g lent.frames lent.store) starts_at asks r.lefts r.steps

module _ {g : Given} {lent lent' : Memory} {asks others : List Ask} (r : CodeRun g lent asks) (q : CodeRun g lent' others)
    (ok : r.first.answer.number ≡ 0) (ok' : q.first.answer.number ≡ 0)
    (secrets : DifferOnlyInSecrets g.setup r.first r.lefts asks others) where
  pub run_secret : SameRuns g r.first q.first asks others r.lefts q.lefts
  run_secret =
      let right = words_right r ok in
      same_runs g r.first q.first (start g lent.frames lent.store) (start g lent'.frames lent'.store) (starts_at r right)
      (starts_at q (words_right q ok')) asks others r.lefts q.lefts r.steps q.steps
      (rule.secret g lent.frames lent'.frames lent.store lent'.store (rules_start r ok) (rules_start q ok') asks others
      (transport (run_secrets r right others) secrets))

-- the two services of `theorem_secrecy`
small_right : WordsRight small (any_memory small)
small_right =
    let largest : ℕ = 255 in
    record {
      tables = length-replicate image_words largest;
      saved = length-replicate (8 * small.contexts) largest;
      contexts = omega arith;
    }

pub services_differ : (r : CodeRun example (any_memory small) one.asks)
    → DifferOnlyInSecrets small r.first r.lefts one.asks other.asks
services_differ r = transport⁻¹ (run_secrets r small_right other.asks) differ_in_secrets
