-- What each event keeps holds after every list of events from the start.
use mathlib.Core.Path.{◌≡◌, refl, sym, ap, ◌∙◌, subst}
use mathlib.Core.List.{List, [], ◌∷◌}
use Prim.Native.Nat.{ℕ, ◌*◌, ◌≤◌}
use native.Mathlib.Omega.{arith}
use lib.ListN.{get_or}
use lib.Dec.{T, leb→le}
use Rattle.rules.specs.Sizes.{page_number, max_domains, max_pages}
use Rattle.rules.specs.Records.{Given, Machine, state_of, public_page, place_of}
use Rattle.rules.specs.Sound.{sound}
use Rattle.rules.specs.Answers.{refused, start_refusal, start}
use Rattle.rules.specs.Runs.{Ask, after}
use Rattle.rules.specs.declared.State.{State}
use Rattle.rules.specs.declared.Asid.{Asid}
use Rattle.rules.specs.declared.Gvpn.{Gvpn}
use Rattle.rules.specs.declared.Place.TheVariants.{Public}
use Rattle.rules.proofs.Tests.{each}
use Rattle.rules.proofs.Lists.{get_d_fresh}
use Rattle.rules.proofs.Facts.{Accepted}
use Rattle.theorem_reached.specs.States.{answered, CleanAgree}
use Rattle.theorem_reached.proofs.Start.{start_accepted, fresh_sound, start_state, step_refused}
use Rattle.theorem_reached.proofs.FramesAndSlots.{Within}
use Rattle.theorem_reached.proofs.PageFates.{CleanAt, fate_clean}
use Rattle.theorem_reached.proofs.DoneOrRefused.{step_accepted, step_sound, step_fate}

pub after_accepted : (g : Given) (asks : List Ask) (m : Machine) → Accepted g m → Accepted g (after g m asks)
unfolding after
after_accepted g [] m accepted = accepted
after_accepted g (a ∷ asks) m accepted = after_accepted g asks _ (step_accepted g a.event a.new a.buffer m accepted)

pub run_accepted : (g : Given) (frames store : List ℕ) (asks : List Ask) → start_refusal g frames store ≡ 0
    → Accepted g (after g (start g frames store) asks)
run_accepted g frames store asks ok = after_accepted g asks (start g frames store) (start_accepted g frames store ok)

after_sound : (g : Given) (asks : List Ask) (m : Machine) → T (sound g.setup (state_of m))
    → T (sound g.setup (state_of (after g m asks)))
unfolding after
after_sound g [] m h = h
after_sound g (a ∷ asks) m h = after_sound g asks _ (step_sound g a.event a.new a.buffer m h)

pub run_sound : (g : Given) (frames store : List ℕ) (asks : List Ask) → T (sound g.setup (state_of (after g (start g frames store) asks)))
run_sound g frames store asks =
    after_sound g asks (start g frames store)
    (subst (λ (x : State). T (sound g.setup x)) (sym (start_state g frames store)) (fresh_sound g.setup))

pub run_used : (g : Given) (frames store : List ℕ) (asks : List Ask)
    → (after g (start g frames store) asks).tables.used ≤ g.setup.signatures
unfolding sound
run_used g frames store asks = leb→le _ _ (each _ (run_sound g frames store asks)).1.0

-- after a refused start nothing changes
pub run_refused : (g : Given) (frames store : List ℕ) → start_refusal g frames store ≡ 10 → (asks : List Ask)
    → after g (start g frames store) asks ≡ start g frames store
unfolding after refused
run_refused g frames store ten [] = refl
run_refused g frames store ten (a ∷ asks) =
    rw (step_refused g frames store ten a.event a.new a.buffer) (run_refused g frames store ten asks)

pub run_always_10 : (g : Given) (frames store : List ℕ) → start_refusal g frames store ≡ 10 → (asks : List Ask) (a : Ask)
    → answered g (after g (start g frames store) asks) a ≡ refused 10 (start g frames store) a.buffer
run_always_10 g frames store ten asks a =
    rw (run_refused g frames store ten asks) (step_refused g frames store ten a.event a.new a.buffer)

-- the frame and the slot of a clean page agree
after_clean : (g : Given) (d : Asid) (v : Gvpn) → Within g.setup d v → (asks : List Ask) (m : Machine) → CleanAt g.setup d v m
    → CleanAt g.setup d v (after g m asks)
unfolding after
after_clean g d v h [] m clean = clean
after_clean g d v h (a ∷ asks) m clean =
    after_clean g d v h asks _ (fate_clean g.setup d v m _ _ (step_fate g a.event a.new a.buffer m d v h) clean)

pub start_public : (g : Given) (frames store : List ℕ) (d : Asid) (v : Gvpn)
    → place_of g.setup (start g frames store).tables d v ≡ Public
start_public g frames store d v =
    ap (λ (x : State). (get_or x.tables.pages (page_number g.setup d v) public_page).place) (start_state g frames store)
    ∙ ap (λ r. r.place) (get_d_fresh (max_domains * max_pages) (page_number g.setup d v) public_page)

pub run_clean : (g : Given) (frames store : List ℕ) (asks : List Ask) → CleanAgree g.setup (after g (start g frames store) asks)
unfolding CleanAgree CleanAt
run_clean g frames store asks d v f k hd hv e =
    after_clean g d v (record { domain = hd; page = hv }) asks (start g frames store)
    (λ f k q.
    let p = start_public g frames store d v in
    let z : ◌≡◌ {A = ℕ} 0 1 = cc in
    absurd (omega arith))
    f k e
