-- A granted read of a private page gives what the past tells of the page's bytes.
use mathlib.Core.Path.{◌≡◌, sym, ap, ◌∙◌}
use mathlib.Core.List.{List}
use mathlib.Core.Bool.{true, false}
use Prim.Native.Nat.{ℕ, ◌+◌, ◌≤◌, ◌<◌}
use native.Mathlib.Omega.{arith}
use lib.ListN.{length, get_or, take, drop, length-drop}
use lib.Seq.{get_or-take, get_or-drop, length-take-le}
use lib.Dec.{leb→le}
use borrow.Author.Tests.{not-true}
use Rattle.rules.specs.Records.{Given, Machine, place_of, domain_of, is_public}
use Rattle.rules.specs.Events.{row, span_fits, on_page, touching}
use Rattle.rules.specs.Answers.{outset, step}
use Rattle.rules.specs.declared.Setup.{Setup}
use Rattle.rules.specs.declared.Asid.{Asid}
use Rattle.rules.specs.declared.Gvpn.{Gvpn}
use Rattle.rules.specs.declared.Ctc.{Ctc}
use Rattle.rules.specs.declared.Span.{Span}
use Rattle.rules.specs.declared.Event.TheVariants.{Read}
use Rattle.rules.proofs.Tests.{each}
use Rattle.rules.proofs.Granting.{Unrefused}
use Rattle.theorem_reached.proofs.DoneOrRefused.{answered_0, outset_quiet}
use Rattle.theorem_reached.proofs.FramesAndSlots.{Within}
use Rattle.theorem_reached.proofs.OwnPages.{read_runs, read_own}
use Rattle.theorem_freshness.specs.Past.{Past, context_by, page_by}
use Rattle.theorem_freshness.proofs.PageContents.{contents, quiet_contents}
use Rattle.theorem_freshness.proofs.ToldContexts.{running_home}
use Rattle.theorem_freshness.proofs.ToldPages.{contents_whole}
use Rattle.theorem_freshness.proofs.PastIsTrue.{Known}
use Rattle.theorem_freshness.proofs.ReadAndResume.{read_gives}

-- a span of whole bytes
module _ (size : ℕ) (bytes : List ℕ) (whole : length bytes ≡ size) (x : Span) (fits : x.off + x.len ≤ size) where
  span_length : length (take x.len (drop x.off bytes)) ≡ x.len
  span_length = length-take-le x.len (drop x.off bytes) (rw length-drop (omega arith))

  span_byte : (i : ℕ) → i < x.len → get_or (take x.len (drop x.off bytes)) i 0 ≡ get_or bytes (x.off + i) 0
  span_byte i h = get_or-take x.len (drop x.off bytes) i 0 h ∙ get_or-drop x.off bytes i 0

module _ (g : Given) (m : Machine) (h : List Past) (known : Known g m h) (c : Ctc) (v : Gvpn) (x : Span) (new buffer : List ℕ)
    (ok : (step g (Read c v x) new buffer m).number ≡ 0) where
  abbrev s : Setup
  s = g.setup

  abbrev d : Asid
  d = domain_of m.tables c

  p : Unrefused g (outset m) (Read c v x) (length new) (length buffer)
  p = answered_0 g (Read c v x) new buffer m ok

  read_home : (context_by h c).home ≡ domain_of m.tables c
  unfolding outset
  read_home = running_home m c (context_by h c) (known.contexts c) (read_runs g (outset m) c v (length new) (length buffer) x p)

  read_within : Within s d v
  unfolding outset
  read_within = (read_own g (outset m) c v (length new) (length buffer) x p).within

  read_fits : x.off + x.len ≤ s.size
  unfolding outset row touching on_page span_fits
  read_fits = leb→le _ _ (each _ p.granted.span).1.0

  -- the page, by its context's domain in the tables
  module _ (private : (page_by h d v).private ≡ true) where
    is_private : is_public (place_of s m.tables d v) ≡ false
    is_private = not-true _ (sym (known.pages d v read_within).private ∙ private)

    whole : length (contents s d v m) ≡ s.size
    unfolding outset
    whole =
        sym (ap length (quiet_contents s d v m (outset m) (outset_quiet g (Read c v x) new buffer m d v)))
        ∙ contents_whole g (outset m) p.accepted d v read_within is_private

    here : (length (step g (Read c v x) new buffer m).bytes ≡ x.len)
        × ((i : ℕ) → i < x.len → get_or (step g (Read c v x) new buffer m).bytes i 0 ≡ (page_by h d v).last_written (x.off + i))
    here =
        let gives = read_gives g m new buffer c v x ok is_private in
        let fits = read_fits in (
          ap length gives ∙ span_length s.size (contents s d v m) whole x fits,
          λ i q.
              ap (λ (b : List ℕ). get_or b i 0) gives ∙ span_byte s.size (contents s d v m) whole x fits i q
              ∙ (known.pages d v read_within).bytes private (x.off + i) (omega arith),
        )

  pub read_last : (page_by h (context_by h c).home v).private ≡ true
      → (length (step g (Read c v x) new buffer m).bytes ≡ x.len)
      × ((i : ℕ) → i < x.len → get_or (step g (Read c v x) new buffer m).bytes i 0 ≡ (page_by h (context_by h c).home v).last_written
      (x.off + i))
  read_last = rw read_home here
