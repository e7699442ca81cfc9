-- What a cursor's writing leaves.
use Rattle.std.specs.Prelude.{◌≡◌, List, ℕ, ◌+◌, ◌≤◌, length}
use Rattle.listing_line.specs.Lines.{Put}
use Rattle.listing_line.specs.declared.Cursor.{Cursor}

-- so many bytes are left behind the place
abbrev pub Room : ℕ → Cursor → Type 0
Room n c = c.at + n ≤ length c.out.now

-- a text was put at the place, which is behind it now and at most so many bytes further; the output is the same one
pub record Writes (text : List ℕ) (most : ℕ) (before after : Cursor) : Type 0 where
  pub put : Put before.at text before.out.now after.at after.out.now
  pub within : after.at ≤ before.at + most
  pub long : length after.out.now ≡ length before.out.now
  pub same_reference : after.out.ghost_name ≡ before.out.ghost_name
