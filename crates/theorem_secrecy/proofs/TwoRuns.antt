-- One event, and then a list of them, asked of two machines that are alike: the kernel is told the same, and the machines stay alike.
use mathlib.Core.Path.{◌≡◌, refl, sym, ap, ap₂, ◌∙◌, subst}
use mathlib.Core.List.{List, [], ◌∷◌}
use mathlib.Core.Bool.{Bool, true, false, cond}
use Prim.Native.Nat.{ℕ}
use lib.ListN.{length}
use lib.Dec.{eqb}
use borrow.Author.Tests.{eqb-true}
use Rattle.rules.specs.Records.{Given, Machine}
use Rattle.rules.specs.Sound.{acceptable}
use Rattle.rules.specs.Sealing.{seal_all}
use Rattle.rules.specs.Events.{row, does}
use Rattle.rules.specs.Answers.{Outcome, refusal, refused, performed, perform, outset, step}
use Rattle.rules.specs.Runs.{Ask}
use Rattle.rules.specs.Example.{says}
use Rattle.rules.specs.declared.Setup.{Setup}
use Rattle.rules.specs.declared.Tables.{Tables}
use Rattle.rules.specs.declared.Event.{Event}
use Rattle.rules.specs.declared.Event.TheVariants.{KernelRead}
use Rattle.rules.proofs.Tests.{passes}
use Rattle.rules.proofs.Facts.{Accepted, outset_accepted}
use Rattle.rules.proofs.Granting.{unrefused}
use Rattle.theorem_reached.specs.States.{answered}
use Rattle.theorem_reached.proofs.DoneOrRefused.{step_at, step_accepted}
use Rattle.theorem_secrecy.specs.Secrets.{SameButSecrets, DifferOnlyInSecrets, for_application, told, SameToKernel, SameRuns}
use Rattle.theorem_secrecy.specs.Secrets.{transcript}
use Rattle.theorem_secrecy.proofs.Alike.{Alike}
use Rattle.theorem_secrecy.proofs.ReadAndWriteAlike.{SameEffect}
use Rattle.theorem_secrecy.proofs.EventsAlike.{done_alike}

outset_alike : (s : Setup) (m n : Machine) → Alike s m n → Alike s (outset m) (outset n)
unfolding outset
outset_alike s m n a = record { tables = a.tables; seals = refl; unveils = refl; bare = a.bare }

-- two acceptable machines with the same tables refuse an event by the same check
refusal_alike : (g : Given) (m n : Machine) → Accepted g m → Accepted g n → m.tables ≡ n.tables → (e : Event) (new room : ℕ)
    → refusal g m e new room ≡ refusal g n e new room
unfolding refusal
refusal_alike g m n gm gn same e new room = rw (passes (acceptable g m) gm.ok, passes (acceptable g n) gn.ok, same)

-- two answers to an event asked of machines with tables t
pub record SameAnswer (s : Setup) (t : Tables) (e : Event) (o p : Outcome) : Type 0 where
  pub number : o.number ≡ p.number
  pub seals : o.seals ≡ p.seals
  pub unveils : o.unveils ≡ p.unveils
  pub used : o.used ≡ p.used
  pub bytes : for_application s t e ≡ false → o.bytes ≡ p.bytes

told_same : (s : Setup) (t : Tables) (e : Event) (o p : Outcome) → SameAnswer s t e o p → told s t e o ≡ told s t e p
told_same s t e o p h = λ i. says (h.number i) (h.seals i) (h.unveils i) (h.used i) (bytes (for_application s t e) refl i)
  where
    bytes : (b : Bool) → for_application s t e ≡ b → cond b [] o.bytes ≡ cond b [] p.bytes
    bytes true q = refl
    bytes false q = h.bytes q

-- the same answer, and machines that are alike after it
pub record AlikeAfter (s : Setup) (t : Tables) (e : Event) (o p : Outcome) : Type 0 where
  pub answer : SameAnswer s t e o p
  pub machine : Alike s o.machine p.machine

module _ (g : Given) (e : Event) (x y b c : List ℕ) (m n : Machine) (gm : Accepted g m) (gn : Accepted g n) (a : Alike g.setup m n)
    (data_length_holds : length x ≡ length y) (room : length b ≡ length c) (secrets : SameButSecrets g.setup m.tables e x y) where
  r : ℕ
  r = refusal g (outset m) e (length x) (length b)

  refused_as : refusal g (outset n) e (length y) (length c) ≡ r
  unfolding r
  refused_as =
      sym (refusal_alike g (outset m) (outset n) (outset_accepted g m gm) (outset_accepted g n gn)
      (outset_alike g.setup m n a).tables e (length x) (length b)
      ∙ ap₂ (refusal g (outset n) e) data_length_holds room)

  performed_alike : r ≡ 0
      → SameEffect g.setup (for_application g.setup m.tables e) (perform g e x (outset m)) (perform g e y (outset n))
  unfolding r perform outset
  performed_alike zero_is =
      let o = outset_alike g.setup m n a in
      subst
      (λ (t : Tables). SameEffect g.setup (for_application g.setup m.tables e) (perform g e x (outset m))
      (does g t e y (seal_all g (row g.setup t e).seals (outset n))))
      a.tables
      (done_alike g (outset m) (outset n) (outset_accepted g n gn) o x y (length b) e
      (unrefused g (outset m) e (length x) (length b) zero_is) secrets)

  pub step_alike : AlikeAfter g.setup m.tables e (step g e x b m) (step g e y c n)
  unfolding performed refused r
  step_alike = rw (step_at g e x b m r refl, step_at g e y c n r refused_as) (go (eqb r 0) refl)
    where
      go : (z : Bool) → eqb r 0 ≡ z
          → AlikeAfter g.setup m.tables e (cond z (performed (perform g e x (outset m)) b) (refused r (outset m) b))
          (cond z (performed (perform g e y (outset n)) c) (refused r (outset n) c))
      go true q =
          let h = performed_alike (eqb-true r 0 q) in
          record {
            answer =
                record {
                  number = h.number;
                  seals = h.machine.seals;
                  unveils = h.machine.unveils;
                  used = ap (λ (t : Tables). t.used) h.machine.tables;
                  bytes = h.bytes;
                };
            machine = h.machine;
          }
      go false q =
          let o = outset_alike g.setup m n a in
          record {
            answer =
                record {
                  number = refl;
                  seals = refl;
                  unveils = refl;
                  used = ap (λ (t : Tables). cond (eqb r 10) 0 t.used) o.tables;
                  bytes = λ _. refl;
                };
            machine = o;
          }

-- what the kernel could find out at a point
pub point_alike : (g : Given) (m n : Machine) → Accepted g m → Accepted g n → Alike g.setup m n → SameToKernel g m n
point_alike g m n gm gn a =
    record {
      tables = a.tables;
      frames = a.bare;
      looks =
          λ f p buffer. told_same g.setup m.tables (KernelRead f p) _ _
          (step_alike g (KernelRead f p) [] [] buffer buffer m n gm gn a refl refl refl).answer;
    }

pub runs_alike : (g : Given) (asks others : List Ask) (m n : Machine) → Accepted g m → Accepted g n → Alike g.setup m n
    → DifferOnlyInSecrets g m asks others → SameRuns g m n asks others
runs_alike g [] [] m n gm gn a h = point_alike g m n gm gn a
runs_alike g [] (y ∷ ys) m n gm gn a h = absurd h
runs_alike g (x ∷ xs) [] m n gm gn a h = absurd h
runs_alike g (x ∷ xs) (y ∷ ys) m n gm gn a h =
    let d = h.0 in
    let k : AlikeAfter g.setup m.tables x.event (answered g m x) (answered g n y) =
    subst (λ (e : Event). AlikeAfter g.setup m.tables x.event (answered g m x) (step g e y.new y.buffer n)) d.event
    (step_alike g x.event x.new y.new x.buffer y.buffer m n gm gn a d.data_length d.room d.secrets) in (
      point_alike g m n gm gn a,
      (told_same g.setup m.tables x.event (answered g m x) (answered g n y) k.answer
          ∙ ap₂ (λ (t : Tables) (e : Event). told g.setup t e (answered g n y)) a.tables d.event),
      runs_alike g xs ys _ _ (step_accepted g x.event x.new x.buffer m gm) (step_accepted g y.event y.new y.buffer n gn)
          k.machine h.1,
    )

pub same_told : (g : Given) (asks others : List Ask) (m n : Machine) → SameRuns g m n asks others
    → transcript g m asks ≡ transcript g n others
unfolding transcript
same_told g [] [] m n h = refl
same_told g [] (y ∷ ys) m n h = absurd h
same_told g (x ∷ xs) [] m n h = absurd h
same_told g (x ∷ xs) (y ∷ ys) m n h = ap₂ ◌∷◌ h.1 (same_told g xs ys _ _ h.2)
