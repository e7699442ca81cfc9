-- What is known of a setup and of lent words that the entry points have tested, and what the functions below them ask: the words are
-- the one image of tables whose records agree.
use Rattle.std.specs.Prelude.{◌≡◌, List, ℕ, length}
use Rattle.rules.specs.Asked.{Limited, Agreed}
use Rattle.rules.specs.declared.Setup.{Setup}
use Rattle.core_tables.specs.Image.{image_words, tables_in, Canonical}

pub record Tested (s : Setup) (x : List ℕ) : Type 0 where
  pub limited : Limited s
  pub long : length x ≡ image_words
  pub canonical : Canonical s.pages x
  pub agreed : Agreed s (tables_in s.pages x)
