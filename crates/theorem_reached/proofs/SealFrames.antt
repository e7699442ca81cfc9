-- Sealing what is Clear in one frame, and in a list of frames: the machine stays acceptable, the signatures counted beforehand
-- suffice, and no more are taken than frames are listed.
use Rattle.std.specs.Prelude.{Option, Some, None}
use mathlib.Core.Path.{◌≡◌, refl, sym, ap, ◌∙◌}
use mathlib.Core.List.{List, [], ◌∷◌}
use Prim.Native.Nat.{ℕ, ◌+◌, ◌≤◌, ◌<◌}
use native.Mathlib.Decide.{ℕ_discrete}
use native.Mathlib.Omega.{arith}
use lib.ListN.{get_or, length}
use lib.Dec.{T, eqb→eq}
use Rattle.rules.specs.Records.{empty_domain, life_of, Given, Machine, place_of, names_of, is_clear_in}
use Rattle.rules.specs.Sealing.{takes, sealed_tables, seal_page, seal_at, seal_named, seal, seal_all, takes_at, takes_named, needed}
use Rattle.rules.specs.declared.DomainRecord.{DomainRecord}
use Rattle.rules.specs.declared.Setup.{Setup}
use Rattle.rules.specs.declared.Tables.{Tables}
use Rattle.rules.specs.declared.Asid.{Asid}
use Rattle.rules.specs.declared.Gvpn.{Gvpn}
use Rattle.rules.specs.declared.Gppn.{Gppn}
use Rattle.rules.specs.declared.Wear.{Wear}
use Rattle.rules.specs.declared.Wear.TheVariants.{Dirty, Clean}
use Rattle.rules.specs.declared.Place.{Place}
use Rattle.rules.specs.declared.Place.TheVariants.{Public, Clear, Sealed}
use Rattle.rules.proofs.PageNumbers.{same_frame}
use Rattle.rules.proofs.Facts.{Accepted}
use Rattle.theorem_reached.proofs.FramesAndSlots.{Within}
use Rattle.theorem_reached.proofs.SealPage.{Holds, pages_apart, sealed_names, others_names, others_place, sealed_accepted}

-- a frame within the setup names nothing, and sealing it changes nothing; or it holds a page, which is sealed
pub seal_either : (g : Given) (f : Gppn) (m : Machine) → Accepted g m → f.0 < g.setup.frames → (P : Machine → Type 0)
    → (names_of m.tables f ≡ None → P m)
    → ((d : Asid) (v : Gvpn) (w : Wear) → Holds g.setup m.tables f d v w → P (seal_page g f d v w m)) → P (seal g f m)
unfolding seal seal_named seal_at
seal_either g f m accepted hf P none one = named (names_of m.tables f) refl
  where
    placed : (d : Asid) (v : Gvpn) → names_of m.tables f ≡ Some (d, v) → Within g.setup d v → (p : Place)
        → place_of g.setup m.tables d v ≡ p → T (is_clear_in f p) → P (seal_at g f d v p m)
    placed d v n h Public e c = absurd c
    placed d v n h (Clear k w) e c =
        let q : k ≡ f = same_frame k f (eqb→eq k.0 f.0 c) in
        one d v w (record { frame = hf; within = h; names = n; place = e ∙ ap (λ (x : Gppn). Clear x w) q })
    placed d v n h (Sealed k) e c = absurd c

    named : (n : Option (Asid × Gvpn)) → names_of m.tables f ≡ n → P (seal_named g f n m)
    named None e = none e
    named (Some (d, v)) e =
        let c = accepted.looks.agrees.clear f d v hf e in
        placed d v e (record { domain = c.0; page = c.1 }) (place_of g.setup m.tables d v) refl c.2

-- what sealing a frame can come to, whatever it names
pub seal_cases : (g : Given) (f : Gppn) (m : Machine) (P : Machine → Type 0) → P m
    → ((d : Asid) (v : Gvpn) (w : Wear) → P (seal_page g f d v w m)) → P (seal g f m)
unfolding seal seal_named seal_at
seal_cases g f m P same one = named (names_of m.tables f)
  where
    placed : (d : Asid) (v : Gvpn) (p : Place) → P (seal_at g f d v p m)
    placed d v Public = same
    placed d v (Clear h w) = one d v w
    placed d v (Sealed k) = same

    named : (n : Option (Asid × Gvpn)) → P (seal_named g f n m)
    named None = same
    named (Some (d, v)) = placed d v (place_of g.setup m.tables d v)

-- which of the two it is, told from the records
pub seal_none : (g : Given) (f : Gppn) (m : Machine) → names_of m.tables f ≡ None → seal g f m ≡ m
unfolding seal seal_named
seal_none g f m none = rw none

pub seal_held : (g : Given) (f : Gppn) (m : Machine) (d : Asid) (v : Gvpn) (w : Wear) → Holds g.setup m.tables f d v w
    → seal g f m ≡ seal_page g f d v w m
unfolding seal seal_named seal_at
seal_held g f m d v w h = rw (h.names, h.place)

-- what is counted for the page that a frame holds is what sealing it takes
takes_held : (s : Setup) (t : Tables) (f : Gppn) (d : Asid) (v : Gvpn) (w : Wear) → Holds s t f d v w
    → takes_named s t (names_of t f) ≡ takes w
unfolding takes_named takes_at
takes_held s t f d v w h = rw (h.names, h.place)

-- the frames are within the setup
abbrev pub Fits : Setup → List Gppn → Type 0
Fits s [] = Unit {0}
Fits s (f ∷ fs) = (f.0 < s.frames) × Fits s fs

-- there are signatures enough to seal what is Clear in these frames
abbrev pub Enough : Given → List Gppn → Machine → Type 0
Enough g fs m = m.tables.used + needed g.setup m.tables fs ≤ g.setup.signatures

-- there is one to seal what is Clear in f
unfoldable pub Room : Given → Gppn → Machine → Type 0
Room g f m = m.tables.used + takes_named g.setup m.tables (names_of m.tables f) ≤ g.setup.signatures

pub room_held : (g : Given) (f : Gppn) (m : Machine) (d : Asid) (v : Gvpn) (w : Wear) → Room g f m → Holds g.setup m.tables f d v w
    → m.tables.used + takes w ≤ g.setup.signatures
unfolding Room
room_held g f m d v w room h = omega (arith, takes_held g.setup m.tables f d v w h)

takes_one : (w : Wear) → takes w ≤ 1
unfolding takes
takes_one Dirty = omega arith
takes_one (Clean k) = omega arith

module _ (g : Given) (f : Gppn) (m : Machine) (accepted : Accepted g m) (hf : f.0 < g.setup.frames) (room : Room g f m) where
  pub seal_accepted : Accepted g (seal g f m)
  seal_accepted =
      seal_either g f m accepted hf (Accepted g) (λ _. accepted)
      (λ d v w h. sealed_accepted g f d v w m accepted h (room_held g f m d v w room h))

  pub seal_names : names_of (seal g f m).tables f ≡ None
  seal_names =
      seal_either g f m accepted hf (λ n. names_of n.tables f ≡ None) (λ e. e)
      (λ d v w h. sealed_names g f d v w m accepted h (room_held g f m d v w room h))

  pub seal_used : (seal g f m).tables.used ≡ m.tables.used + takes_named g.setup m.tables (names_of m.tables f)
  unfolding seal_page sealed_tables takes_named
  seal_used =
      seal_either g f m accepted hf (λ n. n.tables.used ≡ m.tables.used + takes_named g.setup m.tables (names_of m.tables f))
      (λ e. rw e (omega arith))
      (λ d v w h. ap (λ (k : ℕ). m.tables.used + k) (sym (takes_held g.setup m.tables f d v w h)))

  seal_one : takes_named g.setup m.tables (names_of m.tables f) ≤ 1
  unfolding takes_named
  seal_one =
      seal_either g f m accepted hf (λ n. takes_named g.setup m.tables (names_of m.tables f) ≤ 1) (λ e. rw e (omega arith))
      (λ d v w h. omega (arith, takes_one w, takes_held g.setup m.tables f d v w h))

  -- no other frame's page needs more than before
  seal_takes : (h : Gppn) → h.0 < g.setup.frames
      → takes_named g.setup (seal g f m).tables (names_of (seal g f m).tables h) ≤ takes_named g.setup m.tables
      (names_of m.tables h)
  unfolding takes_named
  seal_takes h hh =
      seal_either g f m accepted hf
      (λ n. takes_named g.setup n.tables (names_of n.tables h) ≤ takes_named g.setup m.tables (names_of m.tables h))
      (λ _. omega arith) (λ d v w held. at d v w held (ℕ_discrete h.0 f.0))
    where
      s : Setup
      s = g.setup

      at : (d : Asid) (v : Gvpn) (w : Wear) → Holds s m.tables f d v w → Dec (h.0 ≡ f.0)
          → takes_named s (seal_page g f d v w m).tables (names_of (seal_page g f d v w m).tables h) ≤ takes_named s m.tables
          (names_of m.tables h)
      at d v w held (yes q) =
          let fit = room_held g f m d v w room held in
          rw (same_frame h f q, sealed_names g f d v w m accepted held fit) (omega arith)
      at d v w held (no ne) =
          let fit = room_held g f m d v w room held in
          rw (others_names g f d v w m accepted held fit h ne) (same (names_of m.tables h) refl)
        where
          same : (n : Option (Asid × Gvpn)) → names_of m.tables h ≡ n
              → takes_named s (seal_page g f d v w m).tables n ≤ takes_named s m.tables n
          same None e = omega arith
          same (Some (x, y)) e =
              let apart = pages_apart s m.tables accepted.looks.agrees f d v w held h x y hh e ne in
              rw (others_place g f d v w m accepted held (room_held g f m d v w room held) x y apart) (omega arith)

  seal_needed : (fs : List Gppn) → Fits g.setup fs → needed g.setup (seal g f m).tables fs ≤ needed g.setup m.tables fs
  unfolding needed
  seal_needed [] fit = omega arith
  seal_needed (h ∷ fs) fit = omega (arith, seal_takes h fit.0, seal_needed fs fit.1)

-- one frame after the other
pub room_first : (g : Given) (f : Gppn) (fs : List Gppn) (m : Machine) → Enough g (f ∷ fs) m → Room g f m
unfolding Room needed
room_first g f fs m h = omega arith

module _ (g : Given) (f : Gppn) (fs : List Gppn) (m : Machine) (accepted : Accepted g m) (fit : Fits g.setup (f ∷ fs))
    (enough : Enough g (f ∷ fs) m) where
  pub first_accepted : Accepted g (seal g f m)
  first_accepted = seal_accepted g f m accepted fit.0 (room_first g f fs m enough)

  pub room_rest : Enough g fs (seal g f m)
  unfolding needed
  room_rest =
      let room = room_first g f fs m enough in
      omega (arith, seal_used g f m accepted fit.0 room, seal_needed g f m accepted fit.0 room fs fit.1)

  first_few : m.tables.used ≤ (seal g f m).tables.used
  first_few = omega (arith, seal_used g f m accepted fit.0 (room_first g f fs m enough))

  first_one : (seal g f m).tables.used ≤ m.tables.used + 1
  first_one =
      let room = room_first g f fs m enough in
      omega (arith, seal_used g f m accepted fit.0 room, seal_one g f m accepted fit.0 room)

pub seal_all_accepted : (g : Given) (fs : List Gppn) (m : Machine) → Accepted g m → Fits g.setup fs → Enough g fs m
    → Accepted g (seal_all g fs m)
unfolding seal_all
seal_all_accepted g [] m accepted fit enough = accepted
seal_all_accepted g (f ∷ fs) m accepted fit enough =
    seal_all_accepted g fs (seal g f m) (first_accepted g f fs m accepted fit enough) fit.1 (room_rest g f fs m accepted fit enough)

-- signatures are taken, at most one for each frame, and never given back
pub seal_all_used : (g : Given) (fs : List Gppn) (m : Machine) → Accepted g m → Fits g.setup fs → Enough g fs m
    → (m.tables.used ≤ (seal_all g fs m).tables.used) × ((seal_all g fs m).tables.used ≤ m.tables.used + length fs)
unfolding seal_all
seal_all_used g [] m accepted fit enough = omega arith
seal_all_used g (f ∷ fs) m accepted fit enough =
    let rest =
    seal_all_used g fs (seal g f m) (first_accepted g f fs m accepted fit enough) fit.1 (room_rest g f fs m accepted fit enough) in
    let one = first_one g f fs m accepted fit enough in
    let few = first_few g f fs m accepted fit enough in
    omega arith

-- sealing leaves domains, contexts and saved registers
pub record Apart (m n : Machine) : Type 0 where
  pub domains : n.tables.domains ≡ m.tables.domains
  pub contexts : n.tables.contexts ≡ m.tables.contexts
  pub saved : n.saved ≡ m.saved

pub seal_apart : (g : Given) (f : Gppn) (m : Machine) → Apart m (seal g f m)
unfolding seal_page sealed_tables
seal_apart g f m =
    seal_cases g f m (Apart m) (record { domains = refl; contexts = refl; saved = refl })
    (λ d v w. record { domains = refl; contexts = refl; saved = refl })

pub seal_life : (g : Given) (f : Gppn) (m : Machine) (d : Asid) → life_of (seal g f m).tables d ≡ life_of m.tables d
seal_life g f m d = ap (λ (l : List DomainRecord). (get_or l d.0 empty_domain).life) (seal_apart g f m).domains

pub seal_all_apart : (g : Given) (fs : List Gppn) (m : Machine) → Apart m (seal_all g fs m)
unfolding seal_all
seal_all_apart g [] m = record { domains = refl; contexts = refl; saved = refl }
seal_all_apart g (f ∷ fs) m =
    let a = seal_apart g f m in
    let b = seal_all_apart g fs (seal g f m) in
    record { domains = b.domains ∙ a.domains; contexts = b.contexts ∙ a.contexts; saved = b.saved ∙ a.saved }
