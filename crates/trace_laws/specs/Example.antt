-- Document 01's example trace, byte for byte, and what it holds: the setup and signatures of the rules' example, and its five
-- events, which are those of the rules' run B.
use Rattle.std.specs.Prelude.{List, [], ◌∷◌, ◌++◌, map, ℕ, replicate}
use Rattle.rules.specs.Runs.{Ask}
use Rattle.rules.specs.Example.{example, B}
use Rattle.trace_laws.specs.Traces.{Item, item, Content, content}

abbrev pub example_trace : List ℕ
example_trace =
    (0x00 ∷ 0x01 ∷ 0x00 ∷ 0x40 ∷ 0x00 ∷ 0x80 ∷ [])
    ++ replicate 16 0xa0
    ++ replicate 16 0xa1
    ++ (0x00 ∷ 0x00 ∷ [])
    ++ (0x20 ∷ 0x00 ∷ 0x00 ∷ [])
    ++ (0x90 ∷ 0x00 ∷ [])
    ++ (0x40 ∷ 0x00 ∷ 0x00 ∷ 0x03 ∷ 0xc0 ∷ [])
    ++ (0xb0 ∷ 0x00 ∷ 0x00 ∷ 0x00 ∷ 0x78 ∷ [])

abbrev pub item_of : Ask → Item
item_of a = item a.event a.new

abbrev pub example_content : Content
example_content = content example (map item_of B.asks)
