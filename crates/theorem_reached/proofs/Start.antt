-- The start: fresh tables are sound under every setup; a granted start leaves an acceptable machine, and after a refused one every
-- event is refused with 10 and changes nothing.
use mathlib.Core.Path.{◌≡◌, refl, sym, ◌∙◌}
use mathlib.Core.List.{List, [], ◌∷◌}
use mathlib.Core.Bool.{Bool, true, false, cond, true≢false}
use Prim.Native.Nat.{ℕ, ◌*◌}
use native.Mathlib.Nat.{suc-ne-zero}
use native.Mathlib.Omega.{arith}
use lib.ListN.{length}
use lib.Dec.{T, eqb, ltb, le→leb}
use Rattle.rules.specs.Bytes.{all_of, same_bytes, zeros}
use Rattle.rules.specs.Sizes.{max_domains, max_pages, max_contexts, max_frames, setup_in_range, frames_right, store_right, supply_right}
use Rattle.rules.specs.Records.{Given, machine, state_of, empty_domain, free_context, public_page, open_frame, zero_registers, fresh_tables}
use Rattle.rules.specs.Records.{fresh_state}
use Rattle.rules.specs.Sound.{domain_sound, activity_sound, context_sound, saved_sound, page_sound, names_sound, frame_sound, whole, sound}
use Rattle.rules.specs.Sound.{lookable, acceptable}
use Rattle.rules.specs.Answers.{check, first_of, refusal, refused, outset, step_from, step, start_refusal, start}
use Rattle.rules.specs.declared.Setup.{Setup}
use Rattle.rules.specs.declared.Event.{Event}
use Rattle.rules.proofs.Parts.{length_zeros}
use Rattle.rules.proofs.Tests.{each, all, passed, passes, all_of_holds, second_or}
use Rattle.rules.proofs.Lists.{get_d_fresh}
use Rattle.rules.proofs.Soundness.{untouched_public, owned_public}
use Rattle.rules.proofs.Facts.{Accepted, accepted}

-- fresh tables
pick : (b c d : Bool) → T c → T d → T (cond b c d)
pick true c d t u = t
pick false c d t u = u

fresh_page : (s : Setup) (i : ℕ) → T (page_sound s fresh_tables i public_page)
unfolding page_sound
fresh_page s i = pick (ltb i (s.domains * s.pages)) _ _ (owned_public s fresh_tables _ _) untouched_public

fresh_whole : T (whole fresh_state)
unfolding whole all_of
fresh_whole = tt

pub fresh_sound : (s : Setup) → T (sound s fresh_state)
unfolding sound domain_sound context_sound activity_sound saved_sound same_bytes zeros frame_sound names_sound
fresh_sound s =
    all _ (
      fresh_whole,
      (
        le→leb 0 s.signatures (omega arith),
        (
          all_of_holds (domain_sound s) empty_domain _
              (λ i _. rw (get_d_fresh max_domains i empty_domain) (second_or (ltb i s.domains) true tt)),
          (
            all_of_holds (context_sound s fresh_tables) free_context _
                (λ i _. rw (get_d_fresh max_contexts i free_context) (pick (ltb i s.contexts) true true tt tt)),
            (
              all_of_holds (saved_sound s) zero_registers _
                  (λ i _. rw (get_d_fresh max_contexts i zero_registers) (second_or (ltb i s.contexts) true tt)),
              (
                all_of_holds (page_sound s fresh_tables) public_page _
                    (λ i _. rw (get_d_fresh (max_domains * max_pages) i public_page) (fresh_page s i)),
                (
                  all_of_holds (frame_sound s fresh_tables) open_frame _
                      (λ i _. rw (get_d_fresh max_frames i open_frame) (pick (ltb i s.frames) true true tt tt)),
                  tt,
                ),
              ),
            ),
          ),
        ),
      ),
    )

-- the start's tables are fresh, granted or not
started : (g : Given) (frames store : List ℕ) (b : Bool)
    → state_of (cond b (machine fresh_state (zeros (length frames)) (zeros (length store))) (machine fresh_state frames store))
    ≡ fresh_state
started g frames store true = refl
started g frames store false = refl

pub start_state : (g : Given) (frames store : List ℕ) → state_of (start g frames store) ≡ fresh_state
unfolding start
start_state g frames store = started g frames store (eqb (start_refusal g frames store) 0)

-- what a start tests
abbrev starts : Given → List ℕ → List ℕ → List Bool
starts g frames store =
    setup_in_range g.setup ∷ frames_right g.setup frames ∷ store_right g.setup store ∷ supply_right g.setup g.supply ∷ []

granted : (b : Bool) → ◌≡◌ {A = ℕ} (cond b 0 10) 0 → T b
granted true e = tt
granted false e = absurd (suc-ne-zero 9 e)

denied : (b : Bool) → ◌≡◌ {A = ℕ} (cond b 0 10) 10 → b ≡ false
denied true e = absurd (suc-ne-zero 9 (sym e))
denied false e = refl

module _ (g : Given) (frames store : List ℕ) where
  pub start_accepted : start_refusal g frames store ≡ 0 → Accepted g (start g frames store)
  unfolding start start_refusal acceptable lookable frames_right store_right
  start_accepted ok =
      let e = each (starts g frames store) (granted (all_of (starts g frames store)) ok) in
      rw ok
      (accepted g (machine fresh_state (zeros (length frames)) (zeros (length store)))
      (all _ (
        all _ (
          e.0,
          (
            rw (length_zeros (length frames)) e.1.0,
            (rw (length_zeros (length store)) e.1.1.0, (fresh_sound g.setup, tt)),
          ),
        ),
        (e.1.1.1.0, tt),
      )))

  -- a refused start leaves the lent bytes, and the machine is not acceptable
  start_refused : start_refusal g frames store ≡ 10 → start g frames store ≡ machine fresh_state frames store
  unfolding start
  start_refused ten = rw ten

  unacceptable : start_refusal g frames store ≡ 10 → acceptable g (machine fresh_state frames store) ≡ false
  unfolding start_refusal acceptable lookable
  unacceptable ten = go (acceptable g (machine fresh_state frames store)) refl
    where
      go : (b : Bool) → acceptable g (machine fresh_state frames store) ≡ b → b ≡ false
      go true q =
          let e = each _ (passed _ q) in
          let l = each _ e.0 in
          absurd (true≢false
          (sym (passes (all_of (starts g frames store)) (all (starts g frames store) (l.0, (l.1.0, (l.1.1.0, (e.1.0, tt))))))
          ∙ denied _ ten))
      go false q = refl

  pub step_refused : start_refusal g frames store ≡ 10 → (e : Event) (new buffer : List ℕ)
      → step g e new buffer (start g frames store) ≡ refused 10 (start g frames store) buffer
  unfolding step step_from refusal check first_of outset
  step_refused ten e new buffer = rw (start_refused ten, unacceptable ten)
