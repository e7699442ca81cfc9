-- The bounds that packing and taking apart rest on. Every head of a right form keeps to them, and so do the fields of every
-- event that can be written (proofs/Heads.antt).
use Rattle.std.specs.Prelude.{◌≡◌, ◌+◌, ◌-◌, ◌*◌, ◌^◌, ◌≤◌, ◌<◌}
use Rattle.trace_form.specs.Form.{used_bits}
use Rattle.trace_form.specs.declared.Widths.{Widths}
use Rattle.trace_form.specs.declared.Head.{Head}
use Rattle.trace_form.specs.declared.Fields.{Fields}

-- a row: a number fits a byte, off and len fit twelve bits, and all of them forty
pub record Small (w : Widths) : Type 0 where
  pub one : w.first ≤ 8
  pub two : w.second ≤ 8
  pub three : w.third ≤ 8
  pub four : w.off ≤ 12
  pub five : w.len ≤ 12
  pub all : w.first + w.second + w.third + w.off + w.len ≤ 40

-- a head: at least one byte and at most six, of which no bit is left over
pub record Laid (h : Head) : Type 0 where
  pub small : Small h.widths
  pub kind : h.kind ≤ 8
  pub some : 1 ≤ h.bytes
  pub few : h.bytes ≤ 6
  pub whole : used_bits h.kind h.widths + h.padding ≡ 8 * h.bytes

-- each value fits its field; of a length, one less does
pub record Within (w : Widths) (v : Fields) : Type 0 where
  pub one : v.first < 2 ^ w.first
  pub two : v.second < 2 ^ w.second
  pub three : v.third < 2 ^ w.third
  pub four : v.span.off < 2 ^ w.off
  pub five : v.span.len - 1 < 2 ^ w.len
  pub some : 1 ≤ v.span.len
