-- Two runs of the code whose starts were taken: they differ only in secrets where the rules' runs do, the kernel is told what the rules
-- tell it, and what is the same to it in the rules' machines is the same in the words and bytes that the calls left.
use Rattle.std.proofs.Common.{◌≡◌, Bool, true, false, List, [], ◌∷◌, sym, refl, ap, ◌∙◌, ap₂}
use Rattle.rules.specs.Bytes.{overlay}
use Rattle.rules.specs.Records.{Given, Machine}
use Rattle.rules.specs.Runs.{Ask}
use Rattle.rules.specs.Example.{Seen}
use Rattle.rules.specs.declared.Tables.{Tables}
use Rattle.rules.specs.declared.Event.TheVariants.{KernelRead}
use Rattle.core_tables.specs.Image.{image_of}
use Rattle.core_answer.specs.Handed.{Left, leaves}
use Rattle.theorem_reached.specs.States.{answered}
use Rattle.theorem_secrecy.specs.Secrets as rule
use Rattle.theorem_code.specs.Calls.{MayStep, MaySteps, tables_left}
use Rattle.theorem_code.specs.Told.{asking, kernel_told, DifferOnlyInSecrets, SameToKernel, SameRuns}
use Rattle.theorem_code.proofs.Stands.{Stands, same_tables, step_left, next_stands}
use Rattle.theorem_code.proofs.AnswerBytes.{answer_bytes_holds, buffer_left}

module _ (g : Given) where
  -- the moment's tables are the same, so two runs differ only in secrets where the rules' runs do, and the other way round
  pub same_secrets : (p : Left) (m : Machine) → Stands g p m → (asks : List Ask) (lefts : List Left) → MaySteps g p asks lefts
      → (others : List Ask) → DifferOnlyInSecrets g.setup p lefts asks others ≡ rule.DifferOnlyInSecrets g m asks others
  same_secrets p m at [] [] c [] = refl
  same_secrets p m at [] [] c (b ∷ others) = refl
  same_secrets p m at [] (l ∷ lefts) c others = absurd c
  same_secrets p m at (a ∷ asks) [] c others = absurd c
  same_secrets p m at (a ∷ asks) (l ∷ lefts) c [] = refl
  same_secrets p m at (a ∷ asks) (l ∷ lefts) c (b ∷ others) =
      ap₂ (λ (A B : Type 0). A × B) (ap (λ (t : Tables). rule.DifferInSecrets g.setup t a b) (same_tables g p m at))
      (same_secrets l (answered g m a).machine (next_stands g p m at a l c.0) asks lefts c.1 others)

  -- what the kernel is told
  told_bytes : (m : Machine) (a : Ask) (b : Bool) → rule.for_application g.setup m.tables a.event ≡ b
      → kernel_told g.setup m.tables a.event (leaves g.setup (answered g m a))
      ≡ rule.told g.setup m.tables a.event (answered g m a)
  told_bytes m a true q = rw q
  told_bytes m a false q = rw (answer_bytes_holds g a.event a.new a.buffer m q)

  same_told : (p : Left) (m : Machine) → Stands g p m → (a : Ask) (l : Left) → MayStep g p a l
      → kernel_told g.setup (tables_left g.setup p) a.event l ≡ rule.told g.setup m.tables a.event (answered g m a)
  same_told p m at a l c =
      ap₂ (λ (t : Tables) (x : Left). kernel_told g.setup t a.event x) (same_tables g p m at) (step_left g p m at a l c)
      ∙ told_bytes m a (rule.for_application g.setup m.tables a.event) refl

  -- what is the same to it
  same_point : (p q : Left) (m n : Machine) → Stands g p m → Stands g q n → rule.SameToKernel g m n → SameToKernel g p q
  same_point p q m n at to h =
      record {
        tables = at.tables ∙ ap (image_of g.setup.pages) h.tables ∙ sym to.tables;
        frames =
            λ f inside none.
            rw (at.frames, to.frames) (h.frames f inside (rw (same_tables g p m at) at none));
        looks =
            λ f x buffer l k c d.
            let a = asking (KernelRead f x) [] buffer in
            let s = h.looks f x buffer in (
              ap (λ (y : Left). y.answer) (step_left g p m at a l c)
                  ∙ (λ i. record { number = (s i).number; seals = (s i).seals; unveils = (s i).unveils; used = (s i).used })
                  ∙ sym (ap (λ (y : Left). y.answer) (step_left g q n to a k d)),
              ap (λ (y : Left). y.buffer) (step_left g p m at a l c) ∙ buffer_left g (KernelRead f x) [] buffer m
                  ∙ ap (λ (y : Seen). overlay 0 y.bytes buffer) s ∙ sym (buffer_left g (KernelRead f x) [] buffer n)
                  ∙ sym (ap (λ (y : Left). y.buffer) (step_left g q n to a k d)),
            );
      }

  pub same_runs : (p q : Left) (m n : Machine) → Stands g p m → Stands g q n → (asks others : List Ask) (lefts rights : List Left)
      → MaySteps g p asks lefts → MaySteps g q others rights → rule.SameRuns g m n asks others → SameRuns g p q asks others lefts rights
  same_runs p q m n at to [] [] [] [] c d h = same_point p q m n at to h
  same_runs p q m n at to [] [] [] (k ∷ rights) c d h = absurd d
  same_runs p q m n at to [] [] (l ∷ lefts) rights c d h = absurd c
  same_runs p q m n at to [] (b ∷ others) lefts rights c d h = absurd h
  same_runs p q m n at to (a ∷ asks) [] lefts rights c d h = absurd h
  same_runs p q m n at to (a ∷ asks) (b ∷ others) [] rights c d h = absurd c
  same_runs p q m n at to (a ∷ asks) (b ∷ others) (l ∷ lefts) [] c d h = absurd d
  same_runs p q m n at to (a ∷ asks) (b ∷ others) (l ∷ lefts) (k ∷ rights) c d h =
      let further = next_stands g p m at a l c.0 in
      let further' = next_stands g q n to b k d.0 in (
        same_point p q m n at to h.0,
        same_told p m at a l c.0 ∙ h.1 ∙ sym (same_told q n to b k d.0),
        same_runs l k (answered g m a).machine (answered g n b).machine further further' asks others lefts rights c.1 d.1
            h.2,
      )
