-- What a frame's word says of what the frame names: nothing where it is 0, else the page of that number.
use Rattle.std.specs.Prelude.{Option, Some, None}
use mathlib.Core.Path.{◌≡◌, refl, sym, ap, ◌∙◌}
use mathlib.Core.List.{List}
use Prim.Native.Nat.{ℕ, ◌+◌, ◌<◌}
use native.Mathlib.Omega.{arith}
use lib.ListN.{get_or}
use Rattle.rules.specs.Sizes.{max_frames, page_number}
use Rattle.rules.specs.Records.{open_frame}
use Rattle.rules.specs.declared.Setup.{Setup}
use Rattle.rules.specs.declared.Asid.{Asid}
use Rattle.rules.specs.declared.Gvpn.{Gvpn}
use Rattle.rules.specs.declared.FrameRecord.{FrameRecord}
use Rattle.core_tables.specs.Words.{names_in, names_word}
use Rattle.core_tables.specs.Image.{frames_at, word_at, tables_in, Canonical}
use Rattle.core_tables.proofs.Reading.{frame_there}

pub slot_word : (v : ℕ) (x : List ℕ) (i : ℕ) → i < max_frames → Canonical v x
    → word_at x (frames_at + i) ≡ names_word v (get_or (tables_in v x).frames i open_frame).names
slot_word v x i h c =
    sym (canonical_word ∙ c.frames i h)
  where
    canonical_word : names_word v (get_or (tables_in v x).frames i open_frame).names ≡ names_word v (names_in v (word_at x (frames_at + i)))
    canonical_word = ap (λ (r : FrameRecord). names_word v r.names) (frame_there v x i h)

pub slot_none : (v : ℕ) (n : Option (Asid × Gvpn)) → names_word v n ≡ 0 → n ≡ None
unfolding names_word
slot_none v None e = refl
slot_none v (Some (d, p)) e = absurd (omega arith)

-- the page of number k
pub record Slot (s : Setup) (n : Option (Asid × Gvpn)) (k : ℕ) : Type 0 where
  pub domain : Asid
  pub page : Gvpn
  pub names : n ≡ Some (domain, page)
  pub number : k ≡ page_number s domain page

pub slot_some : (s : Setup) (n : Option (Asid × Gvpn)) (k : ℕ) → names_word s.pages n ≡ 1 + k → Slot s n k
unfolding names_word
slot_some s None k e = absurd (omega arith)
slot_some s (Some (d, p)) k e = record { domain = d; page = p; names = refl; number = omega arith }
