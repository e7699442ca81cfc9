-- `trace_bits::Packed::with` meets its contract: there is room, so the shift loses nothing.
use Rattle.std.proofs.Common.{◌≡◌, ℕ, ◌+◌, ◌*◌, ◌%◌, ◌^◌, ◌<◌, refl, sym, ap, subst, arith}
use native.Mathlib.Nat.{mod-eq_of_lt}
use Rattle.trace_bits.specs.Packing.{Room, Longer}
use Rattle.trace_bits.specs.declared.Packed.{Packed}
use Rattle.trace_bits.proofs.Laws.{wider, wider_within}
use Rattle.trace_bits.proofs.Packed.with.Goals as goal

module _ (p : Packed) (w v : ℕ) (r : Room p w v) where
  fits : p.number * 2 ^ w + v < 2 ^ 64
  fits = wider_within p.bits p.number w v 64 r.sized.within r.fits (omega arith)

  shifted : p.number * 2 ^ w % 2 ^ 64 ≡ p.number * 2 ^ w
  shifted = mod-eq_of_lt (let h : p.number * 2 ^ w + v < 2 ^ 64 = fits in omega arith)

  sum_fits : p.number * 2 ^ w % 2 ^ 64 + v < 2 ^ 64
  sum_fits = subst (λ (x : ℕ). x + v < 2 ^ 64) (sym shifted) fits

  longer : Longer p w v (record { number = p.number * 2 ^ w % 2 ^ 64 + v; bits = p.bits + w })
  longer =
      record {
        number = ap (λ (x : ℕ). x + v) shifted;
        bits = refl;
        sized =
            record {
              within =
                  subst (λ (x : ℕ). x + v < 2 ^ (p.bits + w)) (sym shifted)
                  (wider p.bits p.number w v r.sized.within r.fits);
            };
      }

pub overflow_add-result : goal.overflow_add-result
overflow_add-result c = record { fits = sum_fits c.args.self c.args.width c.args.value c.requires }

pub returns : goal.returns
returns c = longer c.args.self c.args.width c.args.value c.requires
