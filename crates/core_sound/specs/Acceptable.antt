-- Lent words are acceptable where they are the one image of the tables that they hold, and the state that they hold with the
-- saved registers is sound.
use Rattle.std.specs.Prelude.{List, [], ◌∷◌, Bool, ℕ}
use Rattle.rules.specs.Bytes.{all_of}
use Rattle.rules.specs.Sound.{sound}
use Rattle.rules.specs.declared.Setup.{Setup}
use Rattle.core_tables.specs.Image.{canonical, state_in}

unfoldable pub sound_image : Setup → List ℕ → List ℕ → Bool
sound_image s x y = all_of (canonical s.pages x ∷ sound s (state_in s x y) ∷ [])
