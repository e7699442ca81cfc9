-- Document 01, answer 10, of lent words: they are the image of a state, and what they hold is what the rules accept.
use Rattle.std.specs.Prelude.{List, [], ◌∷◌, Bool, ◌&&◌, ℕ, ◌*◌, length, eqb}
use Rattle.rules.specs.Bytes.{all_of}
use Rattle.rules.specs.Sizes.{setup_in_range, frames_right, store_right, supply_right}
use Rattle.rules.specs.Records.{given, machine}
use Rattle.rules.specs.Sound.{lookable, acceptable}
use Rattle.rules.specs.declared.Setup.{Setup}
use Rattle.core_tables.specs.Image.{image_words, state_in}
use Rattle.core_answer.specs.Handed.{readable}

-- the setup is in range, and what is lent has the lengths that it gives
unfoldable pub lent_right : Setup → List ℕ → List ℕ → List ℕ → List ℕ → Bool
lent_right s tables saved frames store =
    all_of
    (setup_in_range s
    ∷ eqb (length tables) image_words
    ∷ eqb (length saved) (8 * s.contexts)
    ∷ frames_right s frames
    ∷ store_right s store
    ∷ [])

-- what a start, a look and an event ask
abbrev pub startable_in : Setup → List ℕ → List ℕ → List ℕ → List ℕ → List ℕ → Bool
startable_in s tables saved frames store supply = lent_right s tables saved frames store && supply_right s supply

abbrev pub lookable_in : Setup → List ℕ → List ℕ → List ℕ → List ℕ → Bool
lookable_in s tables saved frames store = readable s tables saved && lookable s (machine (state_in s tables saved) frames store)

abbrev pub acceptable_in : Setup → List ℕ → List ℕ → List ℕ → List ℕ → List ℕ → Bool
acceptable_in s tables saved frames store supply =
    readable s tables saved && acceptable (given s supply) (machine (state_in s tables saved) frames store)
