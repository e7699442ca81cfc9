-- A frame's word that is not 0: the page that the frame names is one of the setup's, so its record is in the table, and what
-- sealing it takes is told by its place.
use mathlib.Core.Path.{◌≡◌, sym, ap, ◌∙◌}
use mathlib.Core.List.{List}
use Prim.Native.Nat.{ℕ, ◌+◌, ◌-◌, ◌<◌}
use native.Mathlib.Omega.{arith}
use lib.ListN.{get_or}
use Rattle.rules.specs.Records.{names_of, public_page}
use Rattle.rules.specs.Sealing.{takes_at, takes_named}
use Rattle.rules.proofs.PageNumbers.{numbered}
use Rattle.rules.specs.declared.Setup.{Setup}
use Rattle.rules.specs.declared.Gppn.{Gppn}
use Rattle.rules.specs.declared.Place.{Place}
use Rattle.core_tables.specs.Words.{names_word}
use Rattle.core_tables.specs.Image.{max_entries, tables_in}
use Rattle.core_tables.proofs.Slots.{Slot, slot_some}
use Rattle.core_tables.specs.Tested.{Tested}

module _ (s : Setup) (x : List ℕ) (f : Gppn) (h : Tested s x) (known : f.0 < s.frames) (w : ℕ)
    (word : w ≡ names_word s.pages (names_of (tables_in s.pages x) f)) (some : w ≡ 0 → ⊥) where
  slot : Slot s (names_of (tables_in s.pages x) f) (w - 1)
  slot = slot_some s _ (w - 1) (let e : w ≡ 1 + (w - 1) = omega arith in sym word ∙ e)

  pub listed : w - 1 < max_entries
  listed =
      let n = slot in
      let b = h.agreed.clear f n.domain n.page known n.names in
      omega (arith, n.number, (numbered s n.domain n.page h.limited b.0 b.1).listed)

  pub takes_there : (n : ℕ) (p : Place) → p ≡ (get_or (tables_in s.pages x).pages (w - 1) public_page).place → n ≡ takes_at p
      → n ≡ takes_named s (tables_in s.pages x) (names_of (tables_in s.pages x) f)
  unfolding takes_named
  takes_there n p place takes =
      rw slot.names
      (takes ∙ ap takes_at (place ∙ ap (λ (k : ℕ). (get_or (tables_in s.pages x).pages k public_page).place) slot.number))
