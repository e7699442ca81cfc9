-- The frames that uncloak and the end of a domain take from a page are zero: they name no page any more, and the kernel may read them.
use mathlib.Core.Path.{◌≡◌, refl, sym, ◌∙◌}
use mathlib.Core.List.{List, [], ◌∷◌}
use mathlib.Core.Bool.{Bool, true, false, cond, true≢false}
use Prim.Native.Nat.{ℕ, zero, suc, ◌+◌, ◌*◌, ◌<◌}
use native.Mathlib.Nat.{zero-add, add-zero, suc-add, add-suc}
use native.Mathlib.Omega.{arith}
use lib.ListN.{length, get_or}
use Rattle.rules.specs.Bytes.{part, zeros}
use Rattle.rules.specs.Records.{Given, Machine, open_frame, place_of, names_of, names_in, frame_bytes}
use Rattle.rules.specs.Events.{zero_named, ended, zero_if_clear, uncloaked}
use Rattle.rules.specs.declared.Setup.{Setup}
use Rattle.rules.specs.declared.Asid.{Asid}
use Rattle.rules.specs.declared.Gvpn.{Gvpn}
use Rattle.rules.specs.declared.Gppn.{Gppn}
use Rattle.rules.specs.declared.FrameRecord.{FrameRecord}
use Rattle.rules.specs.declared.Wear.{Wear}
use Rattle.rules.specs.declared.Place.TheVariants.{Clear}
use Rattle.rules.proofs.Parts.{length_zeros, part_fits, part_same}
use Rattle.rules.proofs.Facts.{Accepted}
use Rattle.theorem_reached.proofs.FramesAndSlots.{NamesWithin, length_one, within_rest, zero_missed}
use Rattle.theorem_reached.proofs.EndOfDomain.{names_within, ended_frame}

-- The frame of a page that is uncloaked is zero.
pub uncloak_zeroes : (s : Setup) (f : Gppn) (d : Asid) (v : Gvpn) (m : Machine) → f.0 < s.frames
    → length m.frames ≡ s.frames * s.size
    → (w : Wear) → place_of s m.tables d v ≡ Clear f w → frame_bytes s f (uncloaked s d v m) ≡ zeros s.size
unfolding uncloaked zero_if_clear
uncloak_zeroes s f d v m hf frames w place =
    rw place (part_same s.size f.0 (zeros s.size) m.frames (length_zeros s.size)
    (part_fits s.size f.0 s.frames hf frames))

-- So are the frames that named a page of a domain that is ended.
zero_hit : (s : Setup) (d : Asid) (j : ℕ) (rs : List FrameRecord) (k : ℕ) (x : List ℕ) → length x ≡ s.frames * s.size
    → NamesWithin s d rs k
    → (i : ℕ) → k + i ≡ j → names_in d (get_or rs i open_frame).names ≡ true → part s.size j (zero_named s d k rs x) ≡ zeros s.size
unfolding zero_named
zero_hit s d j [] k x e within i q t = absurd (true≢false (sym t))
zero_hit s d j (r ∷ rs) k x e within zero q t =
    let same : k ≡ j = sym (add-zero k) ∙ q in
    zero_missed s d j rs (suc k) _ (length_one s d k (names_in d r.names) _ x ∙ e) (within_rest s d j r rs k within)
    (λ i _ p. omega arith)
    ∙ rw (t, ← same)
    (part_same s.size k (zeros s.size) x (length_zeros s.size)
    (part_fits s.size k s.frames (rw add-zero at (within 0 (rw t tt))) e))
zero_hit s d j (r ∷ rs) k x e within (suc i) q t =
    zero_hit s d j rs (suc k) _ (length_one s d k (names_in d r.names) _ x ∙ e) (within_rest s d j r rs k within) i
    (suc-add k i ∙ sym (add-suc k i) ∙ q) t

pub end_zeroes : (g : Given) (m : Machine) (accepted : Accepted g m) (d : Asid) → d.0 < g.setup.domains → (f : Gppn)
    → frame_bytes g.setup f (ended g.setup d m)
    ≡ cond (names_in d (names_of m.tables f)) (zeros g.setup.size) (frame_bytes g.setup f m)
unfolding ended
end_zeroes g m accepted d hd f = pick (names_in d (names_of m.tables f)) refl
  where
    pick : (b : Bool) → names_in d (names_of m.tables f) ≡ b
        → frame_bytes g.setup f (ended g.setup d m) ≡ cond b (zeros g.setup.size) (frame_bytes g.setup f m)
    pick true e =
        zero_hit g.setup d f.0 m.tables.frames 0 m.frames accepted.looks.frames (names_within g m accepted d hd) f.0
        (zero-add f.0) e
    pick false e = ended_frame g m accepted d hd f e
