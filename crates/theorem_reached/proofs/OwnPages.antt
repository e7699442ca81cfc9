-- What is known of the context that acts and of its own page, where no check refuses the event: its domain is begun, the page's frame is
-- within the setup, and a page that is to be cloaked is Public with a frame that names none, once that frame is sealed.
use Rattle.std.specs.Prelude.{Option, Some, None}
use mathlib.Core.Path.{◌∙◌, ◌≡◌, refl}
use mathlib.Core.List.{[], ◌∷◌}
use mathlib.Core.Bool.{not}
use Prim.Native.Nat.{ℕ, ◌<◌}
use lib.Dec.{T}
use Rattle.rules.specs.Records.{place_of, names_of, Given, Machine, life_of, activity_of, mapping_of, domain_of, domain_where, frame_where}
use Rattle.rules.specs.Records.{is_empty}
use Rattle.rules.specs.Records.{is_running, is_unmapped}
use Rattle.rules.specs.Sealing.{seal}
use Rattle.rules.specs.Events.{own_place, running, own_frame, own_mapped, row, numbers_in, acting, on_page, touching}
use Rattle.rules.specs.Sizes.{page_in, context_in}
use Rattle.rules.specs.Asked.{Agreed}
use Rattle.rules.specs.Bytes.{all_of}
use Rattle.rules.specs.declared.Place.TheVariants.{Public}
use Rattle.rules.specs.declared.Setup.{Setup}
use Rattle.rules.specs.declared.Tables.{Tables}
use Rattle.rules.specs.declared.Asid.{Asid}
use Rattle.rules.specs.declared.Gvpn.{Gvpn}
use Rattle.rules.specs.declared.Gppn.{Gppn}
use Rattle.rules.specs.declared.Ctc.{Ctc}
use Rattle.rules.specs.declared.Activity.{Activity}
use Rattle.rules.specs.declared.Activity.TheVariants.{Free, Running, Kept}
use Rattle.rules.specs.declared.Event.TheVariants.{Cloak, Uncloak, Read, Write}
use Rattle.rules.specs.declared.Span.{Span}
use Rattle.rules.proofs.Facts.{Accepted}
use Rattle.rules.proofs.Tests.{passes, page_below, context_below, each}
use Rattle.rules.proofs.Granting.{Unrefused}
use Rattle.theorem_reached.proofs.SealFrames.{Room, room_first, seal_accepted, seal_names, seal_life}
use Rattle.theorem_reached.proofs.PageFates.{seal_quiet, quiet_public, is_public_holds}
use Rattle.theorem_reached.proofs.FramesAndSlots.{Within}

-- a running context's domain and own pages
module _ (s : Setup) (t : Tables) (agrees : Agreed s t) (c : Ctc) (hc : c.0 < s.contexts) where
  home_at : (a : Activity) → activity_of t c ≡ a → T (is_running a)
      → ((domain_where a).0 < s.domains) × T (not (is_empty (life_of t (domain_where a))))
  home_at Free e h = absurd h
  home_at (Running d) e h = agrees.inhabited c d hc e
  home_at (Kept d k) e h = absurd h

  pub home : T (running t c) → ((domain_of t c).0 < s.domains) × T (not (is_empty (life_of t (domain_of t c))))
  unfolding running
  home h = home_at (activity_of t c) refl h

  mapped_in : (d : Asid) (v : Gvpn) → Within s d v → (y : Option Gppn) → mapping_of s t d v ≡ y → T (not (is_unmapped y))
      → (frame_where y).0 < s.frames
  mapped_in d v hd None e h = absurd h
  mapped_in d v hd (Some f) e h = agrees.mapped d v f hd.domain hd.page e

  pub own_frame_holds : (v : Gvpn) → Within s (domain_of t c) v → T (own_mapped s t c v) → (own_frame s t c v).0 < s.frames
  unfolding own_mapped own_frame
  own_frame_holds v hd h = mapped_in (domain_of t c) v hd (mapping_of s t (domain_of t c) v) refl h

-- an acting context's own page
pub record OwnPage (s : Setup) (t : Tables) (c : Ctc) (v : Gvpn) : Type 0 where
  pub within : Within s (domain_of t c) v
  pub lives : T (not (is_empty (life_of t (domain_of t c))))
  pub frame : T (own_mapped s t c v) → (own_frame s t c v).0 < s.frames

own_page : (s : Setup) (t : Tables) → Agreed s t → (c : Ctc) (v : Gvpn) → T (all_of (context_in s c ∷ page_in s v ∷ [])) → T (running t c)
    → OwnPage s t c v
own_page s t agrees c v numbers r =
    let n = each _ numbers in
    let hc = context_below s c n.0 in
    let h = home s t agrees c hc r in
    let hd : Within s (domain_of t c) v = record { domain = h.0; page = page_below s v n.1.0 } in
    record { within = hd; lives = h.1; frame = own_frame_holds s t agrees c hc v hd }

module _ (g : Given) (m : Machine) (c : Ctc) (v : Gvpn) (new space : ℕ) where
  pub cloak_own : Unrefused g m (Cloak c v) new space → OwnPage g.setup m.tables c v
  unfolding row on_page numbers_in
  cloak_own p = own_page g.setup m.tables p.accepted.looks.agrees c v p.granted.numbers (each _ p.granted.condition).0

  pub uncloak_own : Unrefused g m (Uncloak c v) new space → OwnPage g.setup m.tables c v
  unfolding row acting numbers_in
  uncloak_own p =
      own_page g.setup m.tables p.accepted.looks.agrees c v p.granted.numbers (each _ p.granted.condition).0

  pub read_own : (x : Span) → Unrefused g m (Read c v x) new space → OwnPage g.setup m.tables c v
  unfolding row touching on_page numbers_in
  read_own x p =
      own_page g.setup m.tables p.accepted.looks.agrees c v p.granted.numbers (each _ p.granted.condition).0

  pub write_own : (x : Span) → Unrefused g m (Write c v x) new space → OwnPage g.setup m.tables c v
  unfolding row touching on_page numbers_in
  write_own x p =
      own_page g.setup m.tables p.accepted.looks.agrees c v p.granted.numbers (each _ p.granted.condition).0

  -- that context is Running
  pub cloak_runs : Unrefused g m (Cloak c v) new space → T (running m.tables c)
  unfolding row on_page
  cloak_runs p = (each _ p.granted.condition).0

  pub uncloak_runs : Unrefused g m (Uncloak c v) new space → T (running m.tables c)
  unfolding row acting
  uncloak_runs p = (each _ p.granted.condition).0

  pub read_runs : (x : Span) → Unrefused g m (Read c v x) new space → T (running m.tables c)
  unfolding row touching on_page
  read_runs x p = (each _ p.granted.condition).0

  pub write_runs : (x : Span) → Unrefused g m (Write c v x) new space → T (running m.tables c)
  unfolding row touching on_page
  write_runs x p = (each _ p.granted.condition).0

-- a page that is cloaked, once what is Clear in its frame is sealed
module _ (g : Given) (m : Machine) (c : Ctc) (v : Gvpn) where
  abbrev s : Setup
  s = g.setup

  abbrev d : Asid
  d = domain_of m.tables c

  abbrev f : Gppn
  f = own_frame s m.tables c v

  abbrev q : Machine
  q = seal g f m

  pub record Cloakable : Type 0 where
    pub within : Within s d v
    pub frame : f.0 < s.frames
    pub room : Room g f m
    pub sealed : Accepted g q
    pub none : names_of q.tables f ≡ None
    pub lives : T (not (is_empty (life_of q.tables d)))
    pub shared : place_of s q.tables d v ≡ Public

  pub cloakable : (new space : ℕ) → Unrefused g m (Cloak c v) new space → Cloakable
  unfolding row on_page own_place
  cloakable new space p =
      let own = cloak_own g m c v new space p in
      let hf = own.frame p.granted.mapped in
      let room = room_first g f [] m p.granted.signatures in
      let quiet = seal_quiet g d v own.within f m p.accepted hf room in
      record {
        within = own.within;
        frame = hf;
        room = room;
        sealed = seal_accepted g f m p.accepted hf room;
        none = seal_names g f m p.accepted hf room;
        lives = rw (seal_life g f m d) own.lives;
        shared = is_public_holds _ (quiet_public s d v m q quiet ∙ passes _ (each _ p.granted.condition).1.0);
      }
