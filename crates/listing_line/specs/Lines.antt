-- Document 01, "The trace form": what trace-run's lines are made of. Decimal numbers, lower-case hex, one space between fields
-- and one newline at the end; a digit is the kit's.
use Rattle.std.specs.Prelude.{◌≡◌, List, [], ◌∷◌, ◌++◌, cond, ℕ, zero, suc, ◌+◌, ◌/◌, ◌%◌, length, ltb}
use Rattle.io.specs.Digits.{hex_digit_ascii}
use Rattle.rules.specs.Bytes.{overlay}
use Rattle.rules.specs.declared.Answer.{Answer}

abbrev pub space : ℕ
space = 32

abbrev pub newline : ℕ
newline = 10

abbrev pub dash : List ℕ
dash = 45 ∷ []

-- the decimal digits of n, of which there are at most k + 1
unfoldable pub decimal_in : ℕ → ℕ → List ℕ
decimal_in zero n = hex_digit_ascii n ∷ []
decimal_in (suc k) n =
    let more = decimal_in k (n / 10) ++ (hex_digit_ascii (n % 10) ∷ []) in
    cond (ltb n 10) (hex_digit_ascii n ∷ []) more

unfoldable pub decimal : ℕ → List ℕ
decimal n = decimal_in n n

unfoldable pub hex : List ℕ → List ℕ
hex [] = []
hex (b ∷ bs) = hex_digit_ascii (b / 16) ∷ hex_digit_ascii (b % 16) ∷ hex bs

-- a line's last field: the bytes that it shows, in hex, or `-` where it shows none
abbrev pub last_field : List ℕ → List ℕ
last_field [] = dash
last_field (b ∷ bs) = hex (b ∷ bs)

abbrev pub field_then : List ℕ → List ℕ → List ℕ
field_then field rest = field ++ (space ∷ rest)

-- an answer's four numbers, and then the rest of the line
unfoldable pub counts_then : Answer → List ℕ → List ℕ
counts_then a rest =
    field_then (decimal a.number)
    (field_then (decimal a.seals) (field_then (decimal a.unveils) (field_then (decimal a.used) rest)))

-- record index, kind, answer, seals, unveils, used, and what is shown
unfoldable pub line : ℕ → List ℕ → Answer → List ℕ → List ℕ
line index kind a shown = field_then (decimal index) (field_then kind (counts_then a (last_field shown ++ (newline ∷ []))))

-- of a record or header that is refused: kind `-`, nothing sealed, unveiled or shown
unfoldable pub refused_line : ℕ → ℕ → ℕ → List ℕ
refused_line index number used = line index dash (record { number = number; seals = 0; unveils = 0; used = used }) []

-- a text that was put over the bytes from at on, and the place behind it
pub record Put (at : ℕ) (text before : List ℕ) (end : ℕ) (after : List ℕ) : Type 0 where
  pub ends : end ≡ at + length text
  pub bytes : after ≡ overlay at text before
