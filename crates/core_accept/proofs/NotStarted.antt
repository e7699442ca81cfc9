-- Words and bytes of lengths that no start takes are not acceptable, whatever words they are.
use mathlib.Core.Path.{◌≡◌, refl, ap, ◌∙◌}
use mathlib.Core.List.{List}
use mathlib.Core.Bool.{Bool, true, false, ◌&&◌}
use Prim.Native.Nat.{ℕ}
use lib.ListN.{length}
use Rattle.rules.specs.Sizes.{supply_right}
use Rattle.rules.specs.declared.Setup.{Setup}
use Rattle.core_sound.specs.Acceptable.{sound_image}
use Rattle.core_accept.specs.Acceptable.{lent_right, startable_in, acceptable_in}
use Rattle.core_accept.proofs.Handed.{lookable_by, acceptable_by}

both_false : (a b c : Bool) → a && c ≡ false → (a && b) && c ≡ false
both_false true true c e = e
both_false true false c e = refl
both_false false b c e = refl

pub not_started : (s : Setup) (x y frames store supply : List ℕ) → startable_in s x y frames store supply ≡ false
    → (u w : List ℕ) → length u ≡ length x → length w ≡ length y → acceptable_in s u w frames store supply ≡ false
unfolding lent_right
not_started s x y frames store supply never u w long long' =
    let same : lent_right s u w frames store ≡ lent_right s x y frames store = rw (long, long') in
    acceptable_by s u w frames store supply
    ∙ ap (λ (b : Bool). b && supply_right s supply) (lookable_by s u w frames store ∙ ap (λ (b : Bool). b && sound_image s u w) same)
    ∙ both_false (lent_right s x y frames store) (sound_image s u w) (supply_right s supply) never
