-- The front of the answer buffer that is left holds the answer's bytes.
use Rattle.std.proofs.Common.{◌≡◌, ℕ, ◌+◌, ◌*◌, ◌<◌, ◌≤◌, Bool, true, false, cond, eqb, ◌≢◌, List, [], length, take, drop, sym, refl, ap}
use Rattle.std.proofs.Common.{◌∙◌, true≢false, arith, leb→le, length-drop, length-take-le, ne_eqb, eqb-true}
use borrow.Author.Tests.{eqb-false}
use Rattle.rules.specs.Bytes.{same_bytes, overlay, words_in, bytes_of}
use Rattle.rules.specs.Records.{Given, Machine, place_of, domain_of, with_life, on_tables, frame_bytes}
use Rattle.rules.specs.Sealing.{Effect, done, failed, and_then, signature, unveiled, unveil, bring_in_at, bring_in}
use Rattle.rules.specs.Events.{answer_length, row, on_frame, on_page, touching, span_fits, numbers_in, own_frame, span_bytes, shown, does}
use Rattle.rules.specs.Answers.{refused, performed, perform, outset, step}
use Rattle.rules.specs.declared.Setup.{Setup}
use Rattle.rules.specs.declared.Gppn.{Gppn}
use Rattle.rules.specs.declared.Asid.{Asid}
use Rattle.rules.specs.declared.Ctc.{Ctc}
use Rattle.rules.specs.declared.Gvpn.{Gvpn}
use Rattle.rules.specs.declared.Span.{Span}
use Rattle.rules.specs.declared.TrapKind.{TrapKind}
use Rattle.rules.specs.declared.Life.TheVariants.{Stopped}
use Rattle.rules.specs.declared.Place.{Place}
use Rattle.rules.specs.declared.Place.TheVariants.{Public, Clear, Sealed}
use Rattle.rules.specs.declared.Event.{Event}
use Rattle.rules.specs.declared.Event.TheVariants.{Begin, End, Map, Unmap, KernelRead, KernelWrite, Resume, Spawn, Leave, Cloak}
use Rattle.rules.specs.declared.Event.TheVariants.{Uncloak, Read, Write, Trap}
use Rattle.rules.proofs.Facts.{each}
use Rattle.rules.proofs.Tests.{frame_below}
use Rattle.rules.proofs.Lists.{length_map_from}
use Rattle.rules.proofs.Granting.{Unrefused}
use Rattle.rules.proofs.Parts.{overlay_none, overlay_same}
use Rattle.core_registers.proofs.Laws.{length_bytes_of}
use Rattle.core_answer.specs.Handed.{leaves}
use Rattle.theorem_reached.proofs.FramesAndSlots.{frame_whole}
use Rattle.theorem_reached.proofs.OwnPages.{read_own}
use Rattle.theorem_reached.proofs.EventsPerformed.{performs}
use Rattle.theorem_reached.proofs.DoneOrRefused.{step_either}
use Rattle.theorem_secrecy.specs.Secrets.{for_application}
use Rattle.theorem_code.specs.Told.{answer_bytes}

-- an effect gives as many bytes as the event's answer has, or, answered 8, none
record Fills (e : Event) (x : Effect) : Type 0 where
  as_many : x.number ≡ 0 → length x.bytes ≡ answer_length e
  none : x.number ≢ 0 → x.bytes ≡ []

module _ (g : Given) where
  -- done, with bytes
  fills : (e : Event) (m : Machine) (bytes : List ℕ) → length bytes ≡ answer_length e → Fills e (done m bytes)
  unfolding done
  fills e m bytes long = record { as_many = λ _. long; none = λ ne. absurd (ne refl) }

  -- a page brought in gives none by itself
  bring_none : (f : Gppn) (d : Asid) (v : Gvpn) (m : Machine) → (bring_in g f d v m).bytes ≡ []
  unfolding bring_in bring_in_at unveil done failed
  bring_none f d v m = go (place_of g.setup m.tables d v)
    where
      pick : (b : Bool) (x y : Effect) → x.bytes ≡ [] → y.bytes ≡ [] → (cond b x y).bytes ≡ []
      pick true x y p q = p
      pick false x y p q = q

      go : (p : Place) → (bring_in_at g f d v p m).bytes ≡ []
      go Public = refl
      go (Clear h w) = refl
      go (Sealed k) =
          pick (same_bytes (frame_bytes g.setup f m) (signature g k)) (done (unveiled g f d v k m) [])
          (failed (on_tables (with_life d Stopped) m)) refl refl

  -- a page brought in, and then no bytes, or a span of a frame
  then_none : (e : Event) → answer_length e ≡ 0 → (x : Effect) (next : Machine → Machine) → x.bytes ≡ []
      → Fills e (and_then x (λ n. done (next n) []))
  unfolding and_then
  then_none e short x next silent = go (eqb x.number 0) refl
    where
      go : (b : Bool) → eqb x.number 0 ≡ b → Fills e (cond b (done (next x.machine) []) x)
      go true q = fills e (next x.machine) [] (sym short)
      go false q = record { as_many = λ z. absurd (eqb-false x.number 0 q z); none = λ _. silent }

-- a span of a frame
span_long : (g : Given) (m : Machine) → length m.frames ≡ g.setup.frames * g.setup.size → (f : Gppn) → f.0 < g.setup.frames
    → (x : Span) → x.off + x.len ≤ g.setup.size → length (span_bytes g.setup f x m) ≡ x.len
unfolding span_bytes
span_long g m frames f hf x fits =
    let whole = frame_whole g.setup f m hf frames in
    length-take-le x.len (drop x.off (frame_bytes g.setup f m)) (rw length-drop (omega arith))

-- the registers shown
words_long : (new : List ℕ) → length (words_in 8 new) ≡ 8
unfolding words_in
words_long new = refl

shown_long : (c : Ctc) (k : TrapKind) (mask : ℕ) (new : List ℕ)
    → length (bytes_of (shown k mask (words_in 8 new))) ≡ answer_length (Trap c k mask)
unfolding shown
shown_long c k mask new =
    length_bytes_of _ ∙ ap (λ (n : ℕ). n * 8) (length_map_from _ (words_in 8 new) 0 ∙ words_long new)

-- a span of a frame, once a page is brought in
then_span : (g : Given) (e : Event) (f : Gppn) → f.0 < g.setup.frames → (x : Span) → x.off + x.len ≤ g.setup.size
    → answer_length e ≡ x.len → (brought : Effect) → brought.bytes ≡ []
    → length (and_then brought (λ n. done n (span_bytes g.setup f x n))).machine.frames ≡ g.setup.frames * g.setup.size
    → Fills e (and_then brought (λ n. done n (span_bytes g.setup f x n)))
unfolding and_then done
then_span g e f hf x fits long brought silent = go (eqb brought.number 0) refl
  where
    n : Machine
    n = brought.machine

    go : (b : Bool) → eqb brought.number 0 ≡ b
        → length (cond b (done n (span_bytes g.setup f x n)) brought).machine.frames ≡ g.setup.frames * g.setup.size
        → Fills e (cond b (done n (span_bytes g.setup f x n)) brought)
    go true q whole = fills g e n (span_bytes g.setup f x n) (span_long g n whole f hf x fits ∙ sym long)
    go false q whole = record { as_many = λ z. absurd (eqb-false brought.number 0 q z); none = λ _. silent }

module _ (g : Given) (m : Machine) (new : List ℕ) (space : ℕ) where
  kernel_read_holds : (f : Gppn) (x : Span) → Unrefused g m (KernelRead f x) (length new) space
      → Fills (KernelRead f x) (perform g (KernelRead f x) new m)
  unfolding perform does done numbers_in row on_frame span_fits
  kernel_read_holds f x p =
      let good = (performs g m new space (KernelRead f x) p).accepted.looks in
      fills g (KernelRead f x) _ _
      (span_long g _ good.frames f (frame_below g.setup f p.granted.numbers) x (leb→le _ _ (each _ p.granted.span).1.0))

  read : (c : Ctc) (v : Gvpn) (x : Span) → Unrefused g m (Read c v x) (length new) space
      → Fills (Read c v x) (perform g (Read c v x) new m)
  unfolding perform does row touching on_page span_fits
  read c v x p =
      let own = read_own g m c v (length new) space x p in
      let good = (performs g m new space (Read c v x) p).accepted.looks in
      let f = own_frame g.setup m.tables c v in
      then_span g (Read c v x) f (own.frame p.granted.mapped) x (leb→le _ _ (each _ p.granted.span).1.0) refl _
      (bring_none g f (domain_of m.tables c) v _) good.frames

  -- every event but a resume
  event_fills : (e : Event) → for_application g.setup m.tables e ≡ false → Unrefused g m e (length new) space
      → Fills e (perform g e new m)
  unfolding perform does
  event_fills (Begin d c) seen p = fills g _ _ [] refl
  event_fills (End d) seen p = fills g _ _ [] refl
  event_fills (Map d v f) seen p = fills g _ _ [] refl
  event_fills (Unmap d v) seen p = fills g _ _ [] refl
  event_fills (KernelRead f x) seen p = kernel_read_holds f x p
  event_fills (KernelWrite f x) seen p = fills g _ _ [] refl
  event_fills (Resume d c) seen p = absurd (true≢false seen)
  event_fills (Spawn c u) seen p = fills g _ _ [] refl
  event_fills (Leave c) seen p = fills g _ _ [] refl
  event_fills (Cloak c v) seen p = fills g _ _ [] refl
  event_fills (Uncloak c v) seen p = fills g _ _ [] refl
  event_fills (Read c v x) seen p = read c v x p
  event_fills (Write c v x) seen p =
      then_none g (Write c v x) refl _ _ (bring_none g (own_frame g.setup m.tables c v) (domain_of m.tables c) v _)
  event_fills (Trap c k mask) seen p = fills g _ _ _ (shown_long c k mask new)

-- the front of the buffer left
front : (bytes buffer : List ℕ) (n : ℕ) → length bytes ≡ n → n ≤ length buffer → take n (overlay 0 bytes buffer) ≡ bytes
front bytes buffer n long room = rw (← long) (overlay_same 0 bytes buffer (omega arith))

-- the bytes of an answer, where the event is done, and where it is answered 8
answer_at : (s : Setup) (e : Event) (x : Effect) (buffer : List ℕ) → Fills e x → answer_length e ≤ length buffer
    → answer_bytes e (leaves s (performed x buffer)) ≡ x.bytes
unfolding performed
answer_at s e x buffer h room = go (eqb x.number 0) refl
  where
    go : (b : Bool) → eqb x.number 0 ≡ b → cond b (take (answer_length e) (overlay 0 x.bytes buffer)) [] ≡ x.bytes
    go true q = front x.bytes buffer (answer_length e) (h.as_many (eqb-true x.number 0 q)) room
    go false q = sym (h.none (eqb-false x.number 0 q))

module _ (g : Given) (e : Event) (new buffer : List ℕ) (m : Machine) where
  pub answer_bytes_holds : for_application g.setup m.tables e ≡ false
      → answer_bytes e (leaves g.setup (step g e new buffer m)) ≡ (step g e new buffer m).bytes
  unfolding performed refused outset
  answer_bytes_holds seen =
      step_either g e new buffer m (λ o. answer_bytes e (leaves g.setup o) ≡ o.bytes)
      (λ p.
      answer_at g.setup e (perform g e new (outset m)) buffer (event_fills g (outset m) new (length buffer) e seen p)
      p.granted.gives)
      (λ n _ ne. rw (ne_eqb n 0 ne))

  -- the whole buffer: the answer's bytes laid over its front, none where it is refused
  pub buffer_left : (step g e new buffer m).buffer ≡ overlay 0 (step g e new buffer m).bytes buffer
  unfolding performed refused
  buffer_left =
      step_either g e new buffer m (λ o. o.buffer ≡ overlay 0 o.bytes buffer) (λ p. refl) (λ n _ _. sym (overlay_none 0 buffer))

  pub room : (step g e new buffer m).number ≡ 0 → answer_length e ≤ length buffer
  unfolding performed refused
  room =
      step_either g e new buffer m (λ o. o.number ≡ 0 → answer_length e ≤ length buffer) (λ p _. p.granted.gives)
      (λ n _ ne q. absurd (ne q))

  -- of an event that is done, where the answer is known to be so long
  pub answer_long : (step g e new buffer m).number ≡ 0 → length (step g e new buffer m).bytes ≡ answer_length e
      → answer_bytes e (leaves g.setup (step g e new buffer m)) ≡ (step g e new buffer m).bytes
  answer_long ok long =
      rw (ok, buffer_left) (front (step g e new buffer m).bytes buffer (answer_length e) long (room ok))
