-- The frames that name pages of an ending domain lie within the lent frames: no frame past the setup's names a page.
use Rattle.std.specs.Prelude.{Option, Some, None}
use mathlib.Core.Path.{◌≡◌}
use Prim.Native.Nat.{ℕ, ◌+◌, ◌*◌, ◌≤◌, ◌<◌}
use native.Mathlib.Decide.{dec_lt}
use native.Mathlib.Omega.{arith}
use lib.ListN.{get_or}
use lib.Dec.{T}
use Rattle.rules.specs.Sizes.{max_frames}
use Rattle.rules.specs.Records.{names_of, names_in, names_none, open_frame}
use Rattle.rules.specs.Asked.{Agreed}
use Rattle.rules.proofs.Parts.{part_fits}
use Rattle.rules.specs.declared.Gvpn.{Gvpn}
use Rattle.rules.specs.declared.Setup.{Setup}
use Rattle.rules.specs.declared.Tables.{Tables}
use Rattle.rules.specs.declared.Asid.{Asid}
use Rattle.core_end.specs.Ending.{NamedFit}

not_both : (d : Asid) (n : Option (Asid × Gvpn)) → T (names_none n) → T (names_in d n) → ⊥
not_both d None a b = b
not_both d (Some (e, v)) a b = a

pub named_fit : (s : Setup) (t : Tables) (d : Asid) (n : ℕ) → Agreed s t → n ≡ s.frames * s.size → NamedFit s d t.frames n
named_fit s t d n agrees long = record { fits = λ k h named. at k h named (dec_lt k s.frames) }
  where
    at : (k : ℕ) → k < max_frames → T (names_in d (get_or t.frames k open_frame).names) → Dec (k < s.frames)
        → k * s.size + s.size ≤ n
    at k h named (yes b) = part_fits s.size k s.frames b long
    at k h named (no b) =
        absurd (not_both d (names_of t (record { 0 = k })) (agrees.unnamed (record { 0 = k }) (omega arith) h) named)
