-- The products, once: a frame, a slot and a signature of the setup's lie within the lent memory.
use mathlib.Core.List.{List}
use Prim.Native.Nat.{ℕ, ◌+◌, ◌*◌, ◌≤◌, ◌<◌}
use lib.ListN.{length}
use Rattle.rules.proofs.Parts.{part_fits}
use Rattle.rules.specs.declared.Setup.{Setup}
use Rattle.core_seal.specs.Asked.{Lent}

module _ (s : Setup) {words frames store supply : List ℕ} (lent : Lent s words frames store supply) where
  pub frame_fits : {f : ℕ} → f < s.frames → f * s.size + s.size ≤ length frames
  frame_fits {f} h = part_fits s.size f s.frames h lent.frames_long

  pub slot_fits : {n : ℕ} → n < s.domains * s.pages → n * s.size + s.size ≤ length store
  slot_fits {n} h = part_fits s.size n (s.domains * s.pages) h lent.store_long

  pub signature_fits : {k : ℕ} → k < s.signatures → k * s.size + s.size ≤ length supply
  signature_fits {k} h = part_fits s.size k s.signatures h lent.supply_long

  pub all_fit : {f n k : ℕ} → f < s.frames → n < s.domains * s.pages → k < s.signatures
      → (f * s.size + s.size ≤ length frames) × (n * s.size + s.size ≤ length store)
      × (k * s.size + s.size ≤ length supply)
  all_fit hf hn hk = (frame_fits hf, slot_fits hn, signature_fits hk)
