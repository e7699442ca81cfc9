-- Kind 1, end, where it is granted: what the code asks is given, and what the rules leave.
use mathlib.Core.Path.{◌≡◌}
use mathlib.Core.List.{List}
use Prim.Native.Nat.{ℕ, ◌<◌}
use lib.ListN.{length}
use lib.Dec.{ltb→lt}
use Rattle.rules.specs.Sizes.{domain_in}
use Rattle.rules.specs.Sealing.{seal_all, done}
use Rattle.rules.specs.Events.{numbers_in, row, on_records, does, ended}
use Rattle.rules.specs.Answers.{perform, performed}
use Rattle.rules.specs.Bytes.{overlay}
use Rattle.rules.specs.declared.Asid.{Asid}
use Rattle.rules.specs.declared.Event.TheVariants.{End}
use Rattle.core_answer.specs.declared.lent.Given.{Given}
use Rattle.core_answer.specs.Handed.{Handed, machine_in, refuses, stepped, ends}
use Rattle.core_answer.specs.Lending.{handed_with}
use Rattle.core_answer.proofs.Laws.{was_tested, found, was_accepted, was_granted, granted_leaves}
use Rattle.core_end.specs.Ending.{Endable}

module _ (g : Given) (words saved frames store buffer : List ℕ) (d : Asid) where
  abbrev ending : Handed
  ending = handed_with g words saved frames store buffer (End d)

  module _ (none : refuses ending ≡ 0) where
    domain_in_holds : d.0 < g.setup.domains
    unfolding numbers_in domain_in
    domain_in_holds = ltb→lt d.0 g.setup.domains (was_granted _ none).numbers

    pub endable : Endable g.setup d words (length saved) (length frames) (length store)
    endable =
        record {
          tested = was_tested _ none;
          domain = domain_in_holds;
          saved_long = (found _ none).saved_long;
          frames_long = (was_accepted _ none).looks.frames;
          store_long = (was_accepted _ none).looks.store;
        }

    pub end_leaves : stepped ending ≡ ends g.setup 0 (ended g.setup d (machine_in ending)) buffer
    unfolding perform performed row on_records seal_all does done overlay
    end_leaves = granted_leaves ending none
