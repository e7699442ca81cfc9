-- The words and bytes that a call left are those of a machine of the rules' that goes on: its state has one image, at the start and after
-- every event. So a further call leaves what the rules answer.
use Rattle.std.proofs.Common.{◌≡◌, Bool, true, false, cond, ◌&&◌, T, List, [], ◌∷◌, map, sym, refl, ap, ◌∙◌, subst, ap₂, eqb→eq, eq-eqb}
use Rattle.rules.specs.Bytes.{all_of, zeros}
use Rattle.rules.specs.Sizes.{setup_in_range, frames_right, store_right, supply_right}
use Rattle.rules.specs.Records.{Given, Machine, machine, state_of}
use Rattle.rules.specs.Sound.{sound, lookable, acceptable}
use Rattle.rules.specs.Answers.{refused, outset, step_from, step, start_refusal, start}
use Rattle.rules.specs.Runs.{Ask, run_from, after}
use Rattle.rules.proofs.Facts.{each, passed, limited}
use Rattle.rules.proofs.Granting.{is_acceptable}
use Rattle.rules.specs.declared.State.{State}
use Rattle.core_tables.specs.Image.{image_of, saved_words, state_in}
use Rattle.core_tables.proofs.Images.{canonical_image}
use Rattle.core_tables.proofs.Registers.{saved_image}
use Rattle.core_tables.proofs.Encoding.{saved_eights}
use Rattle.core_answer.specs.Handed.{Left, readable, refuses, leaves}
use Rattle.core_answer.proofs.Laws.{is_readable, found, not_refused, readable_leaves}
use Rattle.core_accept.specs.Acceptable.{lent_right, startable_in}
use Rattle.core_accept.proofs.OneImage.{image_readable, image_state}
use Rattle.core_entry.specs.Started.{started}
use Rattle.theorem_reached.specs.States.{answered}
use Rattle.theorem_reached.proofs.DoneOrRefused.{step_sound}
use Rattle.theorem_reached.proofs.Start.{fresh_sound, start_state, step_refused}
use Rattle.theorem_reached.proofs.Eights.{Eights, step_eights, start_eights}
use Rattle.theorem_code.specs.Calls.{Memory, WordsRight, MayStart, MayStep, MaySteps, OneImage, last_of, tables_left, held}
use Rattle.theorem_code.specs.Told.{handed_on}
use Rattle.theorem_code.proofs.Calls.{started_over, start_left, step_words}
use Rattle.theorem_code.proofs.Fresh.{Imaged, fresh_tables_holds, fresh_saved, fresh_imaged}

-- a machine goes on: it is sound, with registers of eight words, or every event is refused with 10 and it stays as it is
pub data Goes (g : Given) (m : Machine) : Type 0 where
  on : T (setup_in_range g.setup) → T (sound g.setup (state_of m)) → Eights m.saved → Goes g m
  stuck : Imaged g.setup (state_of m) → ((a : Ask) → answered g m a ≡ refused 10 m a.buffer) → Goes g m

goes_imaged : (g : Given) (m : Machine) → Goes g m → Imaged g.setup (state_of m)
goes_imaged g m (on ranged ok eights) =
    record {
      reads = image_readable g.setup (state_of m) ranged ok eights;
      back = image_state g.setup (state_of m) ranged ok eights;
    }
goes_imaged g m (stuck image same) = image

goes_next : (g : Given) (m : Machine) → Goes g m → (a : Ask) → Goes g (answered g m a).machine
unfolding refused
goes_next g m (on ranged ok eights) a =
    on ranged (step_sound g a.event a.new a.buffer m ok) (step_eights g a.event a.new a.buffer m eights)
goes_next g m (stuck image same) a = rw (same a) (stuck image same)

-- what was left as p is the image of m, and m goes on
pub record Stands (g : Given) (p : Left) (m : Machine) : Type 0 where
  pub tables : p.tables ≡ image_of g.setup.pages m.tables
  pub saved : p.saved ≡ saved_words g.setup.contexts m.saved
  pub frames : p.frames ≡ m.frames
  pub store : p.store ≡ m.store
  pub goes : Goes g m

module _ (g : Given) (p : Left) (m : Machine) (at : Stands g p m) where
  image : Imaged g.setup (state_of m)
  image = goes_imaged g m at.goes

  pub is_read : T (readable g.setup p.tables p.saved)
  is_read = rw (at.tables, at.saved) image.reads

  pub is_held : held g.setup p ≡ outset m
  unfolding outset
  is_held =
      (λ i. machine (state_in g.setup (at.tables i) (at.saved i)) (at.frames i) (at.store i))
      ∙ ap (λ (x : State). machine x m.frames m.store) image.back

  pub same_tables : tables_left g.setup p ≡ m.tables
  unfolding outset
  same_tables = ap (λ (x : Machine). x.tables) is_held

  -- no other words do
  pub one_image : OneImage g.setup p (state_of m)
  unfolding outset
  one_image =
      record {
        reads = is_read;
        holds = ap (λ (x : Machine). state_of x) is_held;
        one =
            λ tables saved t e.
            let r = is_readable g.setup tables saved t in (
              canonical_image g.setup.pages tables r.tables_long r.canonical
                  ∙ ap (λ (x : State). image_of g.setup.pages x.tables) e ∙ sym at.tables,
              saved_image g.setup.contexts saved r.saved_long
                  ∙ ap (λ (x : State). saved_words g.setup.contexts x.saved) e ∙ sym at.saved,
            );
      }

  pub step_left : (a : Ask) (l : Left) → MayStep g p a l → l ≡ leaves g.setup (answered g m a)
  unfolding step outset
  step_left a l c =
      step_words g p a l c ∙ readable_leaves (handed_on g p a) is_read
      ∙ ap (λ (x : Machine). leaves g.setup (step_from g a.event a.new a.buffer x)) is_held

  pub next_stands : (a : Ask) (l : Left) → MayStep g p a l → Stands g l (answered g m a).machine
  next_stands a l c =
      let e = step_left a l c in
      record {
        tables = ap (λ (x : Left). x.tables) e;
        saved = ap (λ (x : Left). x.saved) e;
        frames = ap (λ (x : Left). x.frames) e;
        store = ap (λ (x : Left). x.store) e;
        goes = goes_next g m at.goes a;
      }

-- a list of calls
module _ (g : Given) where
  pub last_stands : (p : Left) (m : Machine) → Stands g p m → (asks : List Ask) (lefts : List Left) → MaySteps g p asks lefts
      → Stands g (last_of p lefts) (after g m asks)
  unfolding after
  last_stands p m at [] [] c = at
  last_stands p m at [] (l ∷ lefts) c = absurd c
  last_stands p m at (a ∷ asks) [] c = absurd c
  last_stands p m at (a ∷ asks) (l ∷ lefts) c =
      last_stands l (answered g m a).machine (next_stands g p m at a l c.0) asks lefts c.1

  pub all_left : (p : Left) (m : Machine) → Stands g p m → (asks : List Ask) (lefts : List Left) → MaySteps g p asks lefts
      → lefts ≡ map (leaves g.setup) (run_from g m asks)
  unfolding run_from
  all_left p m at [] [] c = refl
  all_left p m at [] (l ∷ lefts) c = absurd c
  all_left p m at (a ∷ asks) [] c = absurd c
  all_left p m at (a ∷ asks) (l ∷ lefts) c =
      ap₂ ◌∷◌ (step_left g p m at a l c.0)
      (all_left l (answered g m a).machine (next_stands g p m at a l c.0) asks lefts c.1)

-- what is handed in by anyone, where the event is not refused
pub handed_stands : (g : Given) (p : Left) (a : Ask) → refuses (handed_on g p a) ≡ 0 → Stands g p (held g.setup p)
unfolding acceptable lookable
handed_stands g p a none =
    let h = handed_on g p a in
    let f = found h none in
    let e = each _ (each _ (is_acceptable _ _ a.event _ _ (not_refused h none))).0 in
    record {
      tables = canonical_image g.setup.pages p.tables f.tables_long f.canonical;
      saved = saved_image g.setup.contexts p.saved f.saved_long;
      frames = refl;
      store = refl;
      goes = on e.0 e.1.1.1.0
          (saved_eights g.setup.contexts p.saved f.saved_long (limited g.setup e.0).contexts);
    }

-- the tests of a start: with as many words as the setup asks, those of the rules
same_tests : (a f t p : Bool) → (a && (true && (true && (f && (t && true))))) && p ≡ a && (f && (t && (p && true)))
same_tests true true true true = refl
same_tests true true true false = refl
same_tests true true false p = refl
same_tests true false t p = refl
same_tests false f t p = refl

module _ (g : Given) (lent : Memory) where
  abbrev pub taken : Bool
  taken = startable_in g.setup lent.tables lent.saved lent.frames lent.store g.supply

  abbrev rules_take : Bool
  rules_take =
      all_of (setup_in_range g.setup ∷ frames_right g.setup lent.frames ∷ store_right g.setup lent.store
      ∷ supply_right g.setup g.supply ∷ [])

  -- a start that is taken was lent as many words as the setup asks
  module _ (t : taken ≡ true) where
    both : (a b : Bool) → a && b ≡ true → T a
    both true b e = tt
    both false b e = passed false e

    pub taken_right : WordsRight g.setup lent
    unfolding lent_right
    taken_right =
        let e = each _ (both (lent_right g.setup lent.tables lent.saved lent.frames lent.store) _ t) in
        record {
          tables = eqb→eq _ _ e.1.0;
          saved = eqb→eq _ _ e.1.1.0;
          contexts = (limited g.setup e.0).contexts;
        }

  module _ (right : WordsRight g.setup lent) where
    pub rules_take_holds : taken ≡ rules_take
    unfolding lent_right all_of
    rules_take_holds =
        rw (eq-eqb _ _ right.tables, eq-eqb _ _ right.saved)
        (same_tests (setup_in_range g.setup) (frames_right g.setup lent.frames) (store_right g.setup lent.store)
        (supply_right g.setup g.supply))

    pub rules_refuse : start_refusal g lent.frames lent.store ≡ cond taken 0 10
    unfolding start_refusal
    rules_refuse = ap (λ (b : Bool). cond b 0 10) (sym rules_take_holds)

    frames_left : (b : Bool) → taken ≡ b → (started_over g lent).frames ≡ (start g lent.frames lent.store).frames
    unfolding started start
    frames_left true q = rw (rules_refuse, q)
    frames_left false q = rw (rules_refuse, q)

    store_left : (b : Bool) → taken ≡ b → (started_over g lent).store ≡ (start g lent.frames lent.store).store
    unfolding started start
    store_left true q = rw (rules_refuse, q)
    store_left false q = rw (rules_refuse, q)

    start_goes : (b : Bool) → taken ≡ b → Goes g (start g lent.frames lent.store)
    start_goes true q =
        let fresh = sym (start_state g lent.frames lent.store) in
        on (each _ (passed rules_take (sym rules_take_holds ∙ q))).0
        (subst (λ (x : State). T (sound g.setup x)) fresh (fresh_sound g.setup)) (start_eights g lent.frames lent.store)
    start_goes false q =
        let fresh = sym (start_state g lent.frames lent.store) in
        stuck (subst (λ (x : State). Imaged g.setup x) fresh (fresh_imaged g.setup right.contexts))
        (λ a. step_refused g lent.frames lent.store (rules_refuse ∙ ap (λ (b : Bool). cond b 0 10) q) a.event a.new a.buffer)

    pub start_stands : (l : Left) → MayStart g lent l → Stands g l (start g lent.frames lent.store)
    unfolding started
    start_stands l c =
        let e = start_left g lent l c in
        let fresh = sym (start_state g lent.frames lent.store) in
        record {
          tables =
              ap (λ (x : Left). x.tables) e ∙ ap zeros right.tables ∙ fresh_tables_holds g.setup.pages
              ∙ ap (λ (x : State). image_of g.setup.pages x.tables) fresh;
          saved =
              ap (λ (x : Left). x.saved) e ∙ ap zeros right.saved ∙ fresh_saved g.setup.contexts right.contexts
              ∙ ap (λ (x : State). saved_words g.setup.contexts x.saved) fresh;
          frames = ap (λ (x : Left). x.frames) e ∙ frames_left taken refl;
          store = ap (λ (x : Left). x.store) e ∙ store_left taken refl;
          goes = start_goes taken refl;
        }
