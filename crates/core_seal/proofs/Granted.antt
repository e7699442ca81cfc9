-- What sealing and bringing in ask follows where the rules accept the machine and count enough signatures.
use mathlib.Core.List.{List, [], ◌∷◌}
use Prim.Native.Nat.{ℕ, ◌+◌, ◌≤◌, ◌<◌}
use native.Mathlib.Omega.{arith}
use mathlib.Core.Path.{◌≡◌}
use lib.ListN.{length}
use Rattle.rules.specs.Records.{Given, Machine, state_of, place_of}
use Rattle.rules.specs.Sealing.{needed, sealed_first}
use Rattle.rules.specs.Events.{max_seals}
use Rattle.rules.proofs.Rows.{few_first}
use Rattle.rules.proofs.Facts.{Shaped, Accepted}
use Rattle.rules.specs.declared.Registers.{Registers}
use Rattle.rules.specs.declared.Asid.{Asid}
use Rattle.rules.specs.declared.Gvpn.{Gvpn}
use Rattle.rules.specs.declared.Gppn.{Gppn}
use Rattle.rules.specs.declared.Setup.{Setup}
use Rattle.core_tables.specs.Image.{image_words, tables_in, Canonical}
use Rattle.core_seal.specs.Under.{during}
use Rattle.rules.specs.Asked.{Agreed}
use Rattle.core_seal.specs.Asked.{Lent, Matched, Sealable, Unveilable, Bringable}
use Rattle.core_seal.specs.declared.Work.{Work}
use Rattle.core_seal.proofs.Enough.{ready}

pub matched : (s : Setup) (m : Machine) → Shaped (state_of m) → Agreed s m.tables → Matched s m.tables
matched s m shape a =
    record {
      pages_long = shape.pages;
      frames_long = shape.frames;
      clear = a.clear;
      held = λ d v f w hd hv e. (a.named d v f w hd hv e).0;
      worn = a.worn;
      sealed = a.sealed;
    }

-- the work on an accepted machine, and a frame of the setup's
module _ (g : Given) (work : Work) (z : List Registers) (words frames store : List ℕ) (long : length words ≡ image_words)
    (canon : Canonical g.setup.pages words) (f : Gppn)
    (ok : Accepted g (during g.setup work z words frames store)) (inside : f.0 < g.setup.frames) where
  lent : Lent g.setup words frames store g.supply
  lent =
      record {
        words_long = long;
        canonical = canon;
        some_pages = ok.looks.sizes.some_pages;
        frames_long = ok.looks.frames;
        store_long = ok.looks.store;
        supply_long = ok.supply;
      }

  matching : Matched g.setup (tables_in g.setup.pages words)
  matching = matched g.setup (during g.setup work z words frames store) ok.looks.shapes ok.looks.agrees

  pub sealable : (tables_in g.setup.pages words).used + needed g.setup (tables_in g.setup.pages words) (f ∷ [])
      ≤ g.setup.signatures
      → work.seals < 255
      → Sealable g.setup work words frames store g.supply f
  unfolding needed
  sealable enough few =
      record {
        limited = ok.looks.sizes;
        lent = lent;
        frame = inside;
        ready = ready g.setup (tables_in g.setup.pages words) f matching inside (omega arith);
        counts = few;
      }

  -- a page of the setup's
  module _ (d : Asid) (v : Gvpn) (hd : d.0 < g.setup.domains) (hv : v.0 < g.setup.pages) (one : work.unveils < 255) where
    pub reached : Unveilable g.setup work words frames store g.supply f d v
    reached =
        record {
          limited = ok.looks.sizes;
          lent = lent;
          frame = inside;
          domain = hd;
          page = hv;
          counts = one;
        }

    pub bringable : (tables_in g.setup.pages words).used + needed g.setup (tables_in g.setup.pages words)
        (sealed_first f (place_of g.setup (tables_in g.setup.pages words) d v))
        ≤ g.setup.signatures
        → work.seals + max_seals < 256
        → Bringable g.setup work words frames store g.supply f d v
        (sealed_first f (place_of g.setup (tables_in g.setup.pages words) d v))
    bringable enough few =
        record {
          reached = reached;
          matched = matching;
          enough = enough;
          counts = omega (arith, few_first f (place_of g.setup (tables_in g.setup.pages words) d v));
        }
