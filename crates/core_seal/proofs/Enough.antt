-- Where the records agree and the signatures suffice, the first of the frames can be sealed, and then the next, and then
-- the page can be unveiled.
use Rattle.std.specs.Prelude.{Some}
use mathlib.Core.Path.{◌≡◌, sym, subst, ◌∙◌}
use mathlib.Core.Logic.{◌≢◌}
use mathlib.Core.List.{List, [], ◌∷◌}
use Prim.Native.Nat.{ℕ, ◌+◌, ◌≤◌, ◌<◌}
use native.Mathlib.Omega.{arith}
use lib.ListN.{length}
use Rattle.rules.specs.Records.{Machine, given, place_of, names_of}
use Rattle.rules.specs.Sealing.{sealed_with, takes, seal, takes_at, takes_named, needed}
use Rattle.rules.specs.declared.Setup.{Setup}
use Rattle.rules.specs.declared.Tables.{Tables}
use Rattle.rules.specs.declared.Registers.{Registers}
use Rattle.rules.specs.declared.Asid.{Asid}
use Rattle.rules.specs.declared.Gvpn.{Gvpn}
use Rattle.rules.specs.declared.Gppn.{Gppn}
use Rattle.rules.specs.declared.Wear.{Wear}
use Rattle.rules.specs.declared.Wear.TheVariants.{Dirty, Clean}
use Rattle.rules.specs.declared.Place.TheVariants.{Clear, Sealed}
use Rattle.core_tables.specs.Image.{tables_in, Canonical}
use Rattle.core_seal.specs.Under.{during}
use Rattle.core_seal.specs.Asked.{Signable, Sealable, Unveilable, Matched, Bringable}
use Rattle.core_seal.specs.declared.Work.{Work}
use Rattle.core_seal.proofs.Kept.{Kept, seal_kept}

module _ (s : Setup) (t : Tables) (f : Gppn) (ok : Matched s t) (inside : f.0 < s.frames)
    (enough : t.used + takes_named s t (names_of t f) ≤ s.signatures) where
  signature_left : (d : Asid) (v : Gvpn) (h : Gppn) (w : Wear) → names_of t f ≡ Some (d, v) → place_of s t d v ≡ Clear h w
      → takes_named s t (names_of t f) ≡ takes w → sealed_with t.used w < s.signatures
  unfolding sealed_with takes
  signature_left d v h Dirty n e need = omega arith
  signature_left d v h (Clean k) n e need =
      let c = ok.clear f d v inside n in
      omega (arith, ok.worn d v h k c.0 c.1 e)

  pub ready : Signable s t f
  unfolding takes_named takes_at
  ready =
      record {
        domain = λ d v n. (ok.clear f d v inside n).0;
        page = λ d v n. (ok.clear f d v inside n).1;
        signature = λ d v h w n e. signature_left d v h w n e (rw (n, e));
      }

module _ (s : Setup) (work : Work) (words frames store supply : List ℕ) (f : Gppn) (d : Asid) (v : Gvpn) (h : Gppn)
    (rest : List Gppn) (asked : Bringable s work words frames store supply f d v (h ∷ rest)) (inside : h.0 < s.frames) where
  pub first_sealable : Sealable s work words frames store supply h
  unfolding needed
  first_sealable =
      record {
        limited = asked.reached.limited;
        lent = asked.reached.lent;
        frame = inside;
        ready = ready s (tables_in s.pages words) h asked.matched inside (omega (arith, asked.enough));
        counts = omega (arith, asked.counts);
      }

  -- once it is sealed
  module _ (z : List Registers) (work' : Work) (words' : List ℕ) {frames' store' : List ℕ} (long : length words' ≡ length words)
      (canon : Canonical s.pages words → Canonical s.pages words')
      (sealed : during s work' z words' frames' store' ≡ seal (given s supply) h (during s work z words frames store)) where
    kept : Kept s (during s work z words frames store) (during s work' z words' frames' store') h
    kept =
        subst (λ (n : Machine). Kept s (during s work z words frames store) n h) (sym sealed)
        (seal_kept (given s supply) (during s work z words frames store) h asked.reached.limited asked.matched inside)

    still_reached : Unveilable s work' words' frames' store' supply f d v
    still_reached =
        record {
          limited = asked.reached.limited;
          lent = record {
            words_long = long ∙ asked.reached.lent.words_long;
            canonical = canon asked.reached.lent.canonical;
            some_pages = asked.reached.lent.some_pages;
            frames_long = kept.frames_long ∙ asked.reached.lent.frames_long;
            store_long = kept.store_long ∙ asked.reached.lent.store_long;
            supply_long = asked.reached.lent.supply_long;
          };
          frame = asked.reached.frame;
          domain = asked.reached.domain;
          page = asked.reached.page;
          counts = omega (arith, asked.reached.counts, kept.unveils);
        }

    pub unveil_asked : (k : ℕ) → place_of s (tables_in s.pages words') d v ≡ Sealed k
        → (Unveilable s work' words' frames' store' supply f d v) × (k < s.signatures)
    unfolding needed
    unveil_asked k e = (
      still_reached,
      omega (
        arith,
        kept.matched.sealed d v k asked.reached.domain asked.reached.page e,
        kept.used,
        asked.enough,
      ),
    )

    pub next_asked : rest ≡ f ∷ [] → f.0 ≢ h.0 → Bringable s work' words' frames' store' supply f d v (f ∷ [])
    unfolding needed
    next_asked one ne =
        record {
          reached = still_reached;
          matched = kept.matched;
          enough = omega (arith, kept.used, kept.others f asked.reached.frame ne, rw one at asked.enough);
          counts = omega (arith, kept.seals, rw one at asked.counts);
        }
