-- What a private page holds: its frame's bytes where it is Clear, its slot's where it is Sealed. Sealing and unveiling it keep that.
use mathlib.Core.Path.{◌≡◌, refl, sym, ◌∙◌}
use mathlib.Core.List.{List}
use Prim.Native.Nat.{ℕ}
use Rattle.rules.specs.Records.{Machine, place_of, frame_bytes, slot_bytes}
use Rattle.rules.specs.Answers.{contents_at}
use Rattle.rules.specs.declared.Setup.{Setup}
use Rattle.rules.specs.declared.Asid.{Asid}
use Rattle.rules.specs.declared.Gvpn.{Gvpn}
use Rattle.rules.specs.declared.Gppn.{Gppn}
use Rattle.rules.specs.declared.Wear.{Wear}
use Rattle.rules.specs.declared.Wear.TheVariants.{Clean}
use Rattle.rules.specs.declared.Place.{Place}
use Rattle.rules.specs.declared.Place.TheVariants.{Public, Clear, Sealed}
use Rattle.theorem_reached.proofs.SealPage.{Stays}
use Rattle.theorem_reached.proofs.PageFates.{Quiet, is_same, is_sealed, is_unveiled, and_then_holds}

unfoldable pub contents : Setup → Asid → Gvpn → Machine → List ℕ
contents s d v m = contents_at s d v (place_of s m.tables d v) m

module _ (s : Setup) (d : Asid) (v : Gvpn) where
  pub contents_clear : (f : Gppn) (w : Wear) (m : Machine) → place_of s m.tables d v ≡ Clear f w → contents s d v m ≡ frame_bytes s f m
  unfolding contents contents_at
  contents_clear f w m e = rw e

  pub contents_sealed : (k : ℕ) (m : Machine) → place_of s m.tables d v ≡ Sealed k → contents s d v m ≡ slot_bytes s d v m
  unfolding contents contents_at
  contents_sealed k m e = rw e

  contents_stays : (m n : Machine) → Stays s d v m n → contents s d v n ≡ contents s d v m
  unfolding contents contents_at
  contents_stays m n h = rw h.place (at (place_of s m.tables d v) refl)
    where
      at : (p : Place) → place_of s m.tables d v ≡ p → contents_at s d v p n ≡ contents_at s d v p m
      at Public e = refl
      at (Clear f w) e = h.frame f w e
      at (Sealed k) e = h.slot

  pub quiet_contents : (m n : Machine) → Quiet s d v m n → contents s d v n ≡ contents s d v m
  quiet_contents m n (is_same h) = contents_stays m n h
  quiet_contents m n (is_sealed f w a b slot more) = contents_sealed _ n b ∙ slot ∙ sym (contents_clear f w m a)
  quiet_contents m n (is_unveiled f k a b frame slot more) = contents_clear f (Clean k) n b ∙ frame ∙ sym (contents_sealed k m a)
  quiet_contents m n (and_then_holds {n = o} a b) = quiet_contents o n b ∙ quiet_contents m o a
