-- A page that is written anew never bears an older signature again: from then on each signature that it bears was unused before.
use mathlib.Core.Path.{◌≡◌, refl, ◌∙◌}
use mathlib.Core.List.{List, [], ◌∷◌}
use mathlib.Core.Bool.{Bool, true, false, cond}
use Prim.Native.Nat.{ℕ, ◌+◌, ◌≤◌, ◌<◌}
use native.Mathlib.Omega.{arith}
use lib.ListN.{length}
use lib.Dec.{T, eqb→eq}
use borrow.Author.Tests.{eq-eqb}
use Rattle.rules.specs.Answers.{Outcome, start_refusal, outset, step}
use Rattle.rules.specs.Sizes.{page_number}
use Rattle.rules.specs.Records.{Given, Machine, place_of, domain_of, is_public}
use Rattle.rules.specs.Sealing.{sealed_with}
use Rattle.rules.specs.Events.{own_place}
use Rattle.rules.specs.Runs.{Ask, after}
use Rattle.rules.specs.Asked.{Agreed}
use Rattle.rules.specs.declared.Setup.{Setup}
use Rattle.rules.specs.declared.Asid.{Asid}
use Rattle.rules.specs.declared.Gvpn.{Gvpn}
use Rattle.rules.specs.declared.Gppn.{Gppn}
use Rattle.rules.specs.declared.Tables.{Tables}
use Rattle.rules.specs.declared.Ctc.{Ctc}
use Rattle.rules.specs.declared.Span.{Span}
use Rattle.rules.specs.declared.Wear.{Wear}
use Rattle.rules.specs.declared.Wear.TheVariants.{Dirty, Clean}
use Rattle.rules.specs.declared.Place.{Place}
use Rattle.rules.specs.declared.Place.TheVariants.{Public, Clear, Sealed}
use Rattle.rules.specs.declared.Event.TheVariants.{Write}
use Rattle.rules.proofs.Tests.{passed}
use Rattle.theorem_reached.specs.States.{reached}
use Rattle.theorem_reached.proofs.EveryRun.{run_accepted}
use Rattle.theorem_reached.proofs.DoneOrRefused.{answered_0, step_counted, step_fate}
use Rattle.theorem_reached.proofs.FramesAndSlots.{Within}
use Rattle.theorem_reached.proofs.PageFates.{Quiet, is_same, is_sealed, is_unveiled, and_then_holds, Act, kept, put, Fate, is_kept}
use Rattle.theorem_reached.proofs.PageFates.{is_zeroed}
use Rattle.theorem_reached.proofs.PageFates.{is_dropped, is_put, same_number, quiet_public, is_public_holds, act_of}
use Rattle.theorem_reached.proofs.OwnPages.{write_own}
use Rattle.theorem_freshness.specs.Stale.{bears}

-- the signature that the page bears, if it bears one, is among those unused at u
abbrev pub BearsNew : ℕ → Place → Type 0
BearsNew u Public = Unit {0}
BearsNew u (Clear f Dirty) = Unit {0}
BearsNew u (Clear f (Clean k)) = u ≤ k
BearsNew u (Sealed k) = u ≤ k

pub bears_new : (u k : ℕ) (p : Place) → BearsNew u p → T (bears k p) → u ≤ k
bears_new u k Public h t = absurd t
bears_new u k (Clear f Dirty) h t = absurd t
bears_new u k (Clear f (Clean j)) h t = omega (arith, eqb→eq j k t)
bears_new u k (Sealed j) h t = omega (arith, eqb→eq j k t)

pub record Since (s : Setup) (d : Asid) (v : Gvpn) (u : ℕ) (m : Machine) : Type 0 where
  pub used : u ≤ m.tables.used
  pub place : BearsNew u (place_of s m.tables d v)

new_weaker : (u w : ℕ) → u ≤ w → (p : Place) → BearsNew w p → BearsNew u p
new_weaker u w le Public h = tt
new_weaker u w le (Clear f Dirty) h = tt
new_weaker u w le (Clear f (Clean k)) h = omega arith
new_weaker u w le (Sealed k) h = omega arith

weaker : (s : Setup) (d : Asid) (v : Gvpn) (u w : ℕ) (m : Machine) → u ≤ w → Since s d v w m → Since s d v u m
weaker s d v u w m le h = record { used = omega (arith, h.used); place = new_weaker u w le (place_of s m.tables d v) h.place }

module _ (s : Setup) (d : Asid) (v : Gvpn) (u : ℕ) where
  sealed_new : (f : Gppn) (w : Wear) (used : ℕ) → u ≤ used → BearsNew u (Clear f w) → u ≤ sealed_with used w
  unfolding sealed_with
  sealed_new f Dirty used more h = more
  sealed_new f (Clean k) used more h = h

  pub quiet_since : (m n : Machine) → Quiet s d v m n → Since s d v u m → Since s d v u n
  quiet_since m n (is_same h) a = record { used = omega (arith, h.used, a.used); place = rw h.place a.place }
  quiet_since m n (is_sealed f w was now slot more) a =
      record { used = omega (arith, a.used); place = rw now (sealed_new f w m.tables.used a.used (rw was at a.place)) }
  quiet_since m n (is_unveiled f k was now frame slot more) a =
      record { used = omega (arith, a.used); place = rw now (rw was at a.place) }
  quiet_since m n (and_then_holds {n = o} a b) h = quiet_since o n b (quiet_since m o a h)

  fate_since : (m n : Machine) (a : Act) → m.tables.used ≤ n.tables.used → Fate s d v m n a → Since s d v u m → Since s d v u n
  fate_since m n a more (is_kept q) h = quiet_since m n q h
  fate_since m n a more (is_zeroed f p b) h = record { used = omega (arith, h.used); place = rw p tt }
  fate_since m n a more (is_dropped p) h = record { used = omega (arith, h.used); place = rw p tt }
  fate_since m n a more (is_put o f w at new q was p b) h = record { used = omega (arith, h.used); place = rw p tt }

  -- a page that is written is dirty, whatever it bore before, or it is Public
  private_anew : (m n : Machine) (at : ℕ) (new : List ℕ) → u ≤ n.tables.used → Fate s d v m n (put at new) → Since s d v u n
  private_anew m n at new more (is_put o f w at' new' q was p b) = record { used = more; place = rw p tt }

  public_anew : (m n : Machine) → u ≤ n.tables.used → Fate s d v m n kept → is_public (place_of s m.tables d v) ≡ true → Since s d v u n
  public_anew m n more (is_kept q) shared =
      record { used = more; place = rw (is_public_holds (place_of s n.tables d v) (quiet_public s d v m n q ∙ shared)) tt }

pub after_since : (g : Given) (d : Asid) (v : Gvpn) → Within g.setup d v → (u : ℕ) (asks : List Ask) (m : Machine)
    → Since g.setup d v u m → Since g.setup d v u (after g m asks)
unfolding after
after_since g d v hd u [] m h = h
after_since g d v hd u (a ∷ asks) m h =
    after_since g d v hd u asks _
    (fate_since g.setup d v u m _ _ (step_counted g a.event a.new a.buffer m).kept
    (step_fate g a.event a.new a.buffer m d v hd) h)

-- a granted write
module _ (g : Given) (c : Ctc) (v : Gvpn) (x : Span) (new buffer : List ℕ) (m : Machine)
    (ok : (step g (Write c v x) new buffer m).number ≡ 0) where
  abbrev d : Asid
  d = domain_of m.tables c

  abbrev n : Machine
  n = (step g (Write c v x) new buffer m).machine

  pub write_within : Within g.setup (domain_of m.tables c) v
  unfolding outset
  write_within = (write_own g (outset m) c v (length new) (length buffer) x (answered_0 g (Write c v x) new buffer m ok)).within

  pub write_anew : Since g.setup d v n.tables.used n
  unfolding act_of own_place same_number
  write_anew =
      at (is_public (place_of g.setup m.tables d v)) refl
      (rw (ok, eq-eqb (page_number g.setup d v) (page_number g.setup d v) refl) at
      (step_fate g (Write c v x) new buffer m d v write_within))
    where
      at : (b : Bool) → is_public (place_of g.setup m.tables d v) ≡ b → Fate g.setup d v m n (cond b kept (put x.off new))
          → Since g.setup d v n.tables.used n
      at true shared fate = public_anew g.setup d v n.tables.used m n (omega arith) fate shared
      at false private fate = private_anew g.setup d v n.tables.used m n x.off new (omega arith) fate

pub after_used : (g : Given) (asks : List Ask) (m : Machine) → m.tables.used ≤ (after g m asks).tables.used
unfolding after
after_used g [] m = omega arith
after_used g (a ∷ asks) m =
    omega (
      arith,
      (step_counted g a.event a.new a.buffer m).kept,
      after_used g asks
          (step g a.event a.new a.buffer m).machine,
    )

-- a signature that a page bears is used
bears_used : (s : Setup) (t : Tables) → Agreed s t → (d : Asid) (v : Gvpn) → Within s d v → (j : ℕ) (p : Place) → place_of s t d v ≡ p
    → T (bears j p) → j < t.used
bears_used s t agrees d v hd j Public e h = absurd h
bears_used s t agrees d v hd j (Clear f Dirty) e h = absurd h
bears_used s t agrees d v hd j (Clear f (Clean k)) e h = omega (arith, eqb→eq k j h, agrees.worn d v f k hd.domain hd.page e)
bears_used s t agrees d v hd j (Sealed k) e h = omega (arith, eqb→eq k j h, agrees.sealed d v k hd.domain hd.page e)

-- After a granted start and the events `earlier` page v of context c's domain bears signature j; then, after the events `between`, the
-- context is granted a write to it; and then come the events `later`. What the page bears then is among the signatures unused at j.
module _ (g : Given) (frames store : List ℕ) (started : start_refusal g frames store ≡ 0) (earlier between later : List Ask)
    (c : Ctc) (v : Gvpn) (x : Span) (new buffer : List ℕ) (j : ℕ) where
  abbrev m : Machine
  m = reached g frames store earlier

  abbrev before : Machine
  before = after g m between

  abbrev home : Asid
  home = domain_of before.tables c

  abbrev o : Outcome
  o = step g (Write c v x) new buffer before

  abbrev now : Machine
  now = after g o.machine later

  pub older_since : bears j (place_of g.setup m.tables home v) ≡ true → o.number ≡ 0 → Since g.setup home v (j + 1) now
  older_since bore ok =
      let agrees = (run_accepted g frames store earlier started).looks.agrees in
      let hd = write_within g c v x new buffer before ok in
      let low = bears_used g.setup m.tables agrees home v hd j (place_of g.setup m.tables home v) refl (passed _ bore) in
      let more = (step_counted g (Write c v x) new buffer before).kept in
      let up : j + 1 ≤ o.machine.tables.used = omega (arith, after_used g between m) in
      after_since g home v hd (j + 1) later _ (weaker g.setup home v (j + 1) _ _ up (write_anew g c v x new buffer before ok))

  -- so it is a later one
  pub older_below : bears j (place_of g.setup m.tables home v) ≡ true → o.number ≡ 0 → (k : ℕ)
      → bears k (place_of g.setup now.tables home v) ≡ true → j < k
  older_below bore ok k h =
      let since = older_since bore ok in
      omega (arith, bears_new (j + 1) k (place_of g.setup now.tables home v) since.place (passed _ h))
