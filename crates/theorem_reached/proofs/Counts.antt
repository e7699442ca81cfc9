-- The signatures that an event takes, and the seals and unveils that it counts: beyond what it seals, an event takes no signature
-- and counts at most one unveil.
use mathlib.Core.Path.{◌≡◌, refl}
use mathlib.Core.List.{List, [], ◌∷◌}
use Prim.Native.Nat.{ℕ, ◌+◌, ◌≤◌}
use native.Mathlib.Omega.{arith}
use lib.ListN.{length}
use Rattle.rules.specs.Records.{Given, Machine, place_of, domain_of}
use Rattle.rules.specs.Sealing.{Effect, done, failed, and_then, seal_page, seal, seal_all, unveiled_tables, unveiled, bring_in}
use Rattle.rules.specs.Events.{row, numbers_in, own_frame, own_place, on_records, on_frame, acting, on_page, touching, ended_tables, ended}
use Rattle.rules.specs.Events.{store_span, cloaked, zero_if_clear, uncloaked, marked_dirty, turned, does}
use Rattle.rules.specs.declared.Setup.{Setup}
use Rattle.rules.specs.declared.Tables.{Tables}
use Rattle.rules.specs.declared.Asid.{Asid}
use Rattle.rules.specs.declared.Gvpn.{Gvpn}
use Rattle.rules.specs.declared.Gppn.{Gppn}
use Rattle.rules.specs.declared.Place.{Place}
use Rattle.rules.specs.declared.Place.TheVariants.{Public, Clear, Sealed}
use Rattle.rules.specs.declared.Event.{Event}
use Rattle.rules.specs.declared.Event.TheVariants.{Begin, End, Map, Unmap, KernelRead, KernelWrite, Resume, Spawn, Leave, Cloak, Uncloak}
use Rattle.rules.specs.declared.Event.TheVariants.{Read, Write, Trap}
use Rattle.rules.proofs.Granting.{Unrefused}
use Rattle.rules.proofs.Tests.{frame_below}
use Rattle.theorem_reached.proofs.BringIn.{bring_in_cases}
use Rattle.theorem_reached.proofs.SealFrames.{seal_cases, Fits}
use Rattle.theorem_reached.proofs.TouchCases.{first_fits}
use Rattle.theorem_reached.proofs.OwnPages.{cloak_own, read_own, write_own}

-- n has counted as m has, but for one unveil at most
pub record Counts (m n : Machine) : Type 0 where
  pub used : n.tables.used ≡ m.tables.used
  pub seals : n.seals ≡ m.seals
  pub unveils : n.unveils ≤ m.unveils + 1

same : (m n : Machine) → n.tables.used ≡ m.tables.used → n.seals ≡ m.seals → n.unveils ≡ m.unveils → Counts m n
same m n a b c = record { used = a; seals = b; unveils = omega arith }

bring_in_counts : (g : Given) (f : Gppn) (d : Asid) (v : Gvpn) (m : Machine) (next : Machine → Effect)
    → ((n : Machine) → Counts n (next n).machine) → ((n : Machine) → (next n).machine.unveils ≡ n.unveils)
    → Counts m (and_then (bring_in g f d v m) next).machine
unfolding and_then unveiled unveiled_tables done failed
bring_in_counts g f d v m next counts quiet =
    bring_in_cases g f d v m (λ e. Counts m (and_then e next).machine) (counts m)
    (λ k.
    let o = unveiled g f d v k m in
    let c = counts o in
    record { used = c.used; seals = c.seals; unveils = omega (arith, quiet o) })
    (same m _ refl refl refl)

uncloaked_counts : (s : Setup) (d : Asid) (v : Gvpn) (m : Machine) → Counts m (uncloaked s d v m)
unfolding uncloaked zero_if_clear
uncloaked_counts s d v m =
    let c = placed (place_of s m.tables d v) in
    record { used = c.used; seals = c.seals; unveils = c.unveils }
  where
    placed : (p : Place) → Counts m (zero_if_clear s p m)
    placed Public = same m _ refl refl refl
    placed (Clear h w) = same m _ refl refl refl
    placed (Sealed k) = same m _ refl refl refl

pub does_counts : (g : Given) (t : Tables) (e : Event) (new : List ℕ) (m : Machine) → Counts m (does g t e new m).machine
unfolding does done ended ended_tables store_span cloaked turned marked_dirty
does_counts g t (Begin d c) new m = same m _ refl refl refl
does_counts g t (End d) new m = same m _ refl refl refl
does_counts g t (Map d v f) new m = same m _ refl refl refl
does_counts g t (Unmap d v) new m = same m _ refl refl refl
does_counts g t (KernelRead f x) new m = same m _ refl refl refl
does_counts g t (KernelWrite f x) new m = same m _ refl refl refl
does_counts g t (Resume d c) new m = same m _ refl refl refl
does_counts g t (Spawn c u) new m = same m _ refl refl refl
does_counts g t (Leave c) new m = same m _ refl refl refl
does_counts g t (Cloak c v) new m = same m _ refl refl refl
does_counts g t (Uncloak c v) new m = uncloaked_counts g.setup (domain_of t c) v m
does_counts g t (Read c v x) new m =
    bring_in_counts g (own_frame g.setup t c v) (domain_of t c) v m _ (λ n. same n n refl refl refl) (λ n. refl)
does_counts g t (Write c v x) new m =
    bring_in_counts g (own_frame g.setup t c v) (domain_of t c) v m _ (λ n. same n _ refl refl refl) (λ n. refl)
does_counts g t (Trap c k mask) new m = same m _ refl refl refl

-- what sealing counts
seal_counts : (g : Given) (f : Gppn) (m : Machine) → ((seal g f m).seals ≤ m.seals + 1) × ((seal g f m).unveils ≡ m.unveils)
unfolding seal_page
seal_counts g f m =
    seal_cases g f m (λ n. (n.seals ≤ m.seals + 1) × (n.unveils ≡ m.unveils)) (omega arith) (λ d v w. omega arith)

pub seal_all_counts : (g : Given) (fs : List Gppn) (m : Machine)
    → ((seal_all g fs m).seals ≤ m.seals + length fs) × ((seal_all g fs m).unveils ≡ m.unveils)
unfolding seal_all
seal_all_counts g [] m = omega arith
seal_all_counts g (f ∷ fs) m =
    let a = seal_counts g f m in
    let b = seal_all_counts g fs (seal g f m) in
    omega arith

-- the frames that an event seals are within the setup
module _ (g : Given) (m : Machine) (space : ℕ) where
  pub seals_fit : (e : Event) (new : ℕ) → Unrefused g m e new space → Fits g.setup (row g.setup m.tables e).seals
  unfolding row on_records on_frame acting on_page touching numbers_in own_place
  seals_fit (Begin d c) new p = tt
  seals_fit (End d) new p = tt
  seals_fit (Map d v f) new p = tt
  seals_fit (Unmap d v) new p = tt
  seals_fit (KernelRead f x) new p = (frame_below g.setup f p.granted.numbers, tt)
  seals_fit (KernelWrite f x) new p = (frame_below g.setup f p.granted.numbers, tt)
  seals_fit (Resume d c) new p = tt
  seals_fit (Spawn c u) new p = tt
  seals_fit (Leave c) new p = tt
  seals_fit (Cloak c v) new p =
      ((cloak_own g m c v new space p).frame p.granted.mapped, tt)
  seals_fit (Uncloak c v) new p = tt
  seals_fit (Read c v x) new p =
      let own = read_own g m c v new space x p in
      first_fits g m p.accepted _ (own.frame p.granted.mapped) (domain_of m.tables c) v own.within
  seals_fit (Write c v x) new p =
      let own = write_own g m c v new space x p in
      first_fits g m p.accepted _ (own.frame p.granted.mapped) (domain_of m.tables c) v own.within
  seals_fit (Trap c k mask) new p = tt
