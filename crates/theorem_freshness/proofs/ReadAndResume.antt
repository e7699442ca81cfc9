-- A granted read of a private page gives what the page holds, and a granted resume what was saved.
use mathlib.Core.Path.{◌≡◌, refl, sym, ap, ◌∙◌}
use mathlib.Core.List.{List}
use mathlib.Core.Bool.{false, true≢false}
use Prim.Native.Nat.{ℕ, ◌<◌}
use native.Mathlib.Nat.{suc-ne-zero}
use lib.ListN.{length, take, drop}
use lib.Dec.{T}
use Rattle.rules.specs.Bytes.{number, bytes_of}
use Rattle.rules.specs.Records.{Given, Machine, activity_of, place_of, saved_of, domain_of, is_public, is_kept_in}
use Rattle.rules.specs.Sealing.{Effect, done, failed, and_then, bring_in, unveiled, seal_all, sealed_first}
use Rattle.rules.specs.Events.{row, numbers_in, own_place, own_frame, on_records, on_page, touching, span_bytes, resumed, does}
use Rattle.rules.specs.Answers.{performed, refused, perform, outset, step}
use Rattle.rules.specs.declared.Setup.{Setup}
use Rattle.rules.specs.declared.Asid.{Asid}
use Rattle.rules.specs.declared.Gvpn.{Gvpn}
use Rattle.rules.specs.declared.Gppn.{Gppn}
use Rattle.rules.specs.declared.Ctc.{Ctc}
use Rattle.rules.specs.declared.Span.{Span}
use Rattle.rules.specs.declared.TrapKind.{TrapKind}
use Rattle.rules.specs.declared.TrapKind.TheVariants.{Interrupt, Call}
use Rattle.rules.specs.declared.Activity.{Activity}
use Rattle.rules.specs.declared.Activity.TheVariants.{Free, Running, Kept}
use Rattle.rules.specs.declared.Wear.{Wear}
use Rattle.rules.specs.declared.Wear.TheVariants.{Clean}
use Rattle.rules.specs.declared.Event.TheVariants.{Resume, Read}
use Rattle.rules.proofs.Facts.{Accepted}
use Rattle.theorem_reached.proofs.SealFrames.{Enough}
use Rattle.theorem_reached.proofs.FramesAndSlots.{Within}
use Rattle.theorem_reached.proofs.SealPage.{Holds}
use Rattle.theorem_reached.proofs.PageFates.{Quiet, quiet_public}
use Rattle.theorem_reached.proofs.TouchCases.{touch_case}
use Rattle.theorem_reached.proofs.BringIn.{bring_in_either, opened_holds}
use Rattle.theorem_reached.proofs.OwnPages.{read_own}
use Rattle.theorem_reached.proofs.ReadAndWrite.{sealed_first_accepted, sealed_first_quiet, opened_quiet}
use Rattle.theorem_reached.proofs.DoneOrRefused.{step_either, outset_quiet}
use Rattle.theorem_freshness.specs.Past.{OfContext, resumed_by, resumed_with}
use Rattle.theorem_freshness.proofs.PageContents.{contents, contents_clear, quiet_contents}
use Rattle.theorem_freshness.proofs.ToldContexts.{KnownContext}

-- a page brought in and read
module _ (g : Given) (m : Machine) (accepted : Accepted g m) (f : Gppn) (hf : f.0 < g.setup.frames) (d : Asid) (v : Gvpn)
    (hd : Within g.setup d v) (enough : Enough g (sealed_first f (place_of g.setup m.tables d v)) m)
    (private : is_public (place_of g.setup m.tables d v) ≡ false) (x : Span) where
  abbrev s : Setup
  s = g.setup

  abbrev q : Machine
  q = seal_all g (sealed_first f (place_of s m.tables d v)) m

  abbrev given : Effect → Type 0
  given e = e.number ≡ 0 → e.bytes ≡ take x.len (drop x.off (contents s d v m))

  there : (n : Machine) (w : Wear) → Holds s n.tables f d v w → Quiet s d v m n → given (done n (span_bytes s f x n))
  unfolding done span_bytes
  there n w holds quiet _ =
      ap (λ (b : List ℕ). take x.len (drop x.off b))
      (sym (contents_clear s d v f w n holds.place) ∙ quiet_contents s d v m n quiet)

  pub brought_in_read : given (and_then (bring_in g f d v q) (λ n. done n (span_bytes s f x n)))
  unfolding and_then done failed
  brought_in_read =
      let sealed = sealed_first_accepted g m accepted f hf d v hd enough in
      let quiet = sealed_first_quiet g m accepted f hf d v hd enough d v hd in
      bring_in_either g q sealed f hf d v hd (touch_case g m accepted f hf d v hd enough)
      (λ e. given (and_then e (λ n. done n (span_bytes s f x n))))
      (λ place _. absurd (true≢false (sym (ap is_public place) ∙ quiet_public s d v m q quiet ∙ private)))
      (λ w holds. there q w holds quiet)
      (λ k place none _.
      there (unveiled g f d v k q) (Clean k) (opened_holds g q sealed f hf d v hd k place none)
      (opened_quiet g m accepted f hf d v hd enough k place none d v hd))
      (λ _ _ _ _ e. absurd (suc-ne-zero 7 e))

module _ (g : Given) (m : Machine) (new buffer : List ℕ) where
  pub read_gives : (c : Ctc) (v : Gvpn) (x : Span) → (step g (Read c v x) new buffer m).number ≡ 0
      → is_public (place_of g.setup m.tables (domain_of m.tables c) v) ≡ false
      → (step g (Read c v x) new buffer m).bytes ≡ take x.len (drop x.off (contents g.setup (domain_of m.tables c) v m))
  unfolding performed refused perform row touching on_page does numbers_in own_place outset
  read_gives c v x =
      step_either g (Read c v x) new buffer m
      (λ o. o.number ≡ 0 → is_public (place_of g.setup m.tables (domain_of m.tables c) v) ≡ false
      → o.bytes ≡ take x.len (drop x.off (contents g.setup (domain_of m.tables c) v m)))
      (λ p e private.
      let own = read_own g (outset m) c v (length new) (length buffer) x p in
      let t = m.tables in
      let d = domain_of t c in
      brought_in_read g (outset m) p.accepted (own_frame g.setup t c v) (own.frame p.granted.mapped) d v own.within
      p.granted.signatures private x e
      ∙ ap (λ (b : List ℕ). take x.len (drop x.off b))
      (quiet_contents g.setup d v m (outset m) (outset_quiet g (Read c v x) new buffer m d v)))
      (λ n _ ne e. absurd (ne e))

  pub resume_gives : (d : Asid) (c : Ctc) (x : OfContext) → KnownContext m c x → (step g (Resume d c) new buffer m).number ≡ 0
      → (step g (Resume d c) new buffer m).bytes ≡ bytes_of (resumed_with x (number new))
  unfolding performed refused perform row on_records seal_all does done outset resumed
  resume_gives d c x known =
      step_either g (Resume d c) new buffer m (λ o. o.number ≡ 0 → o.bytes ≡ bytes_of (resumed_with x (number new)))
      (λ p _. ap bytes_of (saved (activity_of m.tables c) refl p.granted.condition)) (λ n _ ne e. absurd (ne e))
    where
      saved : (a : Activity) → activity_of m.tables c ≡ a → T (is_kept_in d a)
          → resumed a (number new) (saved_of m c) ≡ resumed_with x (number new)
      saved Free e t = absurd t
      saved (Running e') e t = absurd t
      saved (Kept e' k) e t =
          let r = known.trap e' k e in
          rw (r.0, r.1) (by_kind k)
        where
          by_kind : (k : TrapKind) → resumed (Kept e' k) (number new) x.registers ≡ resumed_by k x.registers (number new)
          by_kind Interrupt = refl
          by_kind Call = refl
