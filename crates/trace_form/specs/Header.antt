-- Document 01, "The trace form": the header's 48 bits, which give the setup, and the signatures behind them.
use Rattle.std.specs.Prelude.{List, [], ◌∷◌, ◌++◌, ℕ, ◌+◌, ◌-◌, ◌*◌, ◌/◌, get_or, take}
use Rattle.trace_bits.specs.Packing.{join, split}
use Rattle.rules.specs.Bytes.{big_endian, number}
use Rattle.rules.specs.Sizes.{size_unit}
use Rattle.rules.specs.declared.Setup.{Setup}
use Rattle.trace_form.specs.Form.{domain_bits, page_bits, context_bits, frame_bits}

abbrev pub size_bits : ℕ
size_bits = 8

abbrev pub signature_bits : ℕ
signature_bits = 16

abbrev pub spare_bits : ℕ
spare_bits = 6

-- P/16-1, D-1, V-1, T-1, F-1, N, and six zero bits; six bytes in all
abbrev pub header_widths : List ℕ
header_widths =
    size_bits ∷ domain_bits ∷ page_bits ∷ context_bits ∷ frame_bits ∷ signature_bits ∷ spare_bits ∷ []

abbrev pub header_length : ℕ
header_length = 6

-- the values of a setup, and back
abbrev pub setup_values : Setup → List ℕ
setup_values s =
    (s.size / size_unit - 1)
    ∷ (s.domains - 1)
    ∷ (s.pages - 1)
    ∷ (s.contexts - 1)
    ∷ (s.frames - 1)
    ∷ s.signatures
    ∷ 0
    ∷ []

abbrev pub setup_in : List ℕ → Setup
setup_in vs =
    record {
      size = (get_or vs 0 0 + 1) * size_unit;
      domains = get_or vs 1 0 + 1;
      pages = get_or vs 2 0 + 1;
      contexts = get_or vs 3 0 + 1;
      frames = get_or vs 4 0 + 1;
      signatures = get_or vs 5 0;
    }

abbrev pub spare_in : List ℕ → ℕ
spare_in vs = get_or vs 6 0

-- the signatures' bytes
abbrev pub supply_length : Setup → ℕ
supply_length s = s.signatures * s.size

-- the header's bytes with the signatures behind them, and the values that a trace begins with
unfoldable pub header_bytes : Setup → List ℕ
header_bytes s = big_endian header_length (join 0 header_widths (setup_values s))

unfoldable pub header_of : Setup → List ℕ → List ℕ
header_of s supply = header_bytes s ++ supply

unfoldable pub header_values : List ℕ → List ℕ
header_values trace = split header_widths (number (take header_length trace))
