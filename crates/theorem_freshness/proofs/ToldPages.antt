-- What the past tells of a page is true: whether it is private, and if so each of its bytes.
use mathlib.Core.Path.{◌≡◌, refl, sym, ap, ◌∙◌, subst}
use mathlib.Core.List.{List, [], ◌∷◌}
use mathlib.Core.Bool.{true, false, not, cond, true≢false}
use Prim.Native.Nat.{ℕ, ◌+◌, ◌-◌, ◌≤◌, ◌<◌}
use native.Mathlib.Decide.{dec_le, dec_lt}
use native.Mathlib.Omega.{arith}
use lib.ListN.{length, get_or, get_or-replicate}
use lib.Dec.{leb, ltb}
use borrow.Author.Tests.{le-leb, lt-leb, lt-ltb, le-ltb}
use Rattle.rules.specs.Bytes.{overlay, zeros, all_of}
use Rattle.rules.specs.Records.{Given, Machine, place_of, is_public}
use Rattle.rules.specs.declared.Setup.{Setup}
use Rattle.rules.specs.declared.Asid.{Asid}
use Rattle.rules.specs.declared.Gvpn.{Gvpn}
use Rattle.rules.specs.declared.Span.{Span}
use Rattle.rules.specs.declared.Wear.TheVariants.{Dirty}
use Rattle.rules.specs.declared.Place.{Place}
use Rattle.rules.specs.declared.Place.TheVariants.{Public, Clear, Sealed}
use Rattle.rules.proofs.Lists.{get_d_sets_in, get_d_sets_before, get_d_sets_past}
use Rattle.rules.proofs.Facts.{Accepted}
use Rattle.theorem_reached.proofs.FramesAndSlots.{Within, frame_whole, slot_whole}
use Rattle.theorem_reached.proofs.PageFates.{Quiet, Act, kept, zeroed, dropped, put, Fate, is_kept, is_zeroed, is_dropped, is_put}
use Rattle.theorem_reached.proofs.PageFates.{quiet_public}
use Rattle.theorem_freshness.specs.Past.{OfPage, covers}
use Rattle.theorem_freshness.proofs.PageContents.{contents, contents_clear, contents_sealed, quiet_contents}

pub record KnownPage (s : Setup) (d : Asid) (v : Gvpn) (m : Machine) (x : OfPage) : Type 0 where
  pub private : x.private ≡ not (is_public (place_of s m.tables d v))
  pub bytes : x.private ≡ true → (i : ℕ) → i < s.size → get_or (contents s d v m) i 0 ≡ x.last_written i

-- what an act upon a page makes of what is told of it
abbrev pub span : ℕ → ℕ → Span
span off len = record { off = off; len = len }

abbrev pub Told : ℕ → Act → OfPage → OfPage → Type 0
Told size kept x y = (y.private ≡ x.private) × (x.private ≡ true → (i : ℕ) → y.last_written i ≡ x.last_written i)
Told size zeroed x y = (y.private ≡ true) × ((i : ℕ) → y.last_written i ≡ 0)
Told size dropped x y = y.private ≡ false
Told size (put at new) x y =
    (at + length new ≤ size) × (y.private ≡ x.private)
    × ((i : ℕ) → y.last_written i ≡ cond (covers (span at (length new)) i) (get_or new (i - at) 0) (x.last_written i))

-- a byte of bytes with others laid over them
get_d_overlay : (at : ℕ) (new old : List ℕ) → at + length new ≤ length old → (i : ℕ)
    → get_or (overlay at new old) i 0 ≡ cond (covers (span at (length new)) i) (get_or new (i - at) 0) (get_or old i 0)
unfolding overlay all_of
get_d_overlay at new old fits i = low (dec_le at i)
  where
    high : at ≤ i → Dec (i < at + length new)
        → get_or (lib.Seq.sets old at new) i 0 ≡ cond (all_of (ltb i (at + length new) ∷ [])) (get_or new (i - at) 0) (get_or old i 0)
    high h (yes q) =
        let k : ℕ = i - at in
        let e : at + k ≡ i = omega arith in
        rw (lt-ltb i (at + length new) q)
        (subst (λ (j : ℕ). get_or (lib.Seq.sets old at new) j 0 ≡ get_or new k 0) e (get_d_sets_in old new at 0 fits k (omega arith)))
    high h (no q) =
        let past : at + length new ≤ i = omega arith in
        rw (le-ltb i (at + length new) past) (get_d_sets_past old new at 0 fits i past)

    low : Dec (at ≤ i)
        → get_or (lib.Seq.sets old at new) i 0
        ≡ cond (all_of (leb at i ∷ ltb i (at + length new) ∷ [])) (get_or new (i - at) 0) (get_or old i 0)
    low (yes h) = rw (le-leb at i h) (high h (dec_lt i (at + length new)))
    low (no h) =
        let before : i < at = omega arith in
        rw (lt-leb at i before) (get_d_sets_before old new at 0 fits i before)

get_d_zeros : (n i : ℕ) → i < n → get_or (zeros n) i 0 ≡ 0
unfolding zeros
get_d_zeros n i h = get_or-replicate n i 0 0 h

-- a private page's bytes are as many as a page has
pub contents_whole : (g : Given) (m : Machine) → Accepted g m → (d : Asid) (v : Gvpn) → Within g.setup d v
    → is_public (place_of g.setup m.tables d v) ≡ false → length (contents g.setup d v m) ≡ g.setup.size
contents_whole g m accepted d v hd private = at (place_of g.setup m.tables d v) refl private
  where
    at : (p : Place) → place_of g.setup m.tables d v ≡ p → is_public p ≡ false → length (contents g.setup d v m) ≡ g.setup.size
    at Public e q = absurd (true≢false q)
    at (Clear f w) e q =
        ap length (contents_clear g.setup d v f w m e)
        ∙ frame_whole g.setup f m (accepted.looks.agrees.named d v f w hd.domain hd.page e).0 accepted.looks.frames
    at (Sealed k) e q = ap length (contents_sealed g.setup d v k m e) ∙ slot_whole g.setup d v m hd accepted.looks.store

quiet_of : {s : Setup} {d : Asid} {v : Gvpn} {m n : Machine} → Fate s d v m n kept → Quiet s d v m n
quiet_of (is_kept q) = q

module _ (s : Setup) (d : Asid) (v : Gvpn) (m n : Machine) (x y : OfPage) (known : KnownPage s d v m x) where
  -- what is known of a page that is kept stays known
  kept_known : Quiet s d v m n → Told s.size kept x y → KnownPage s d v n y
  kept_known q told =
      record {
        private = told.0 ∙ known.private ∙ ap not (sym (quiet_public s d v m n q));
        bytes =
            λ p i h.
            let was = sym told.0 ∙ p in
            ap (λ (l : List ℕ). get_or l i 0) (quiet_contents s d v m n q) ∙ known.bytes was i h ∙ sym (told.1 was i);
      }

  -- and of one upon which an act was done, what the act tells
  pub fate_known : (is_public (place_of s m.tables d v) ≡ false → length (contents s d v m) ≡ s.size) → (a : Act) → Fate s d v m n a
      → Told s.size a x y → KnownPage s d v n y
  fate_known whole a (is_kept q) told = kept_known q told
  fate_known whole a (is_zeroed f place zero) told =
      record {
        private = told.0 ∙ sym (ap (λ (p : Place). not (is_public p)) place);
        bytes =
            λ _ i h.
            ap (λ (l : List ℕ). get_or l i 0) (contents_clear s d v f Dirty n place ∙ zero) ∙ get_d_zeros s.size i h ∙ sym (told.1 i);
      }
  fate_known whole a (is_dropped place) told =
      record {
        private = told ∙ sym (ap (λ (p : Place). not (is_public p)) place);
        bytes = λ p i h. absurd (true≢false (sym p ∙ told));
      }
  fate_known whole a (is_put o f w at new q was place laid) told =
      let private : is_public (place_of s m.tables d v) ≡ false = sym (quiet_public s d v m o q) ∙ ap is_public was in
      let holds : contents s d v n ≡ overlay at new (contents s d v m) =
      contents_clear s d v f Dirty n place ∙ laid ∙ ap (overlay at new)
      (sym (contents_clear s d v f w o was) ∙ quiet_contents s d v m o q) in
      let is_private = known.private ∙ ap not private in
      record {
        private = told.1 ∙ is_private ∙ sym (ap (λ (p : Place). not (is_public p)) place);
        bytes =
            λ _ i h.
            ap (λ (l : List ℕ). get_or l i 0) holds
            ∙ get_d_overlay at new (contents s d v m) (rw (whole private) told.0) i
            ∙ ap (cond (covers (span at (length new)) i) (get_or new (i - at) 0)) (known.bytes is_private i h)
            ∙ sym (told.2 i);
      }

-- a page whose bytes stay as they are is known as before
pub same_known : (s : Setup) (d : Asid) (v : Gvpn) (m n : Machine) (x : OfPage) → KnownPage s d v m x → Fate s d v m n kept
    → KnownPage s d v n x
same_known s d v m n x known fate = kept_known s d v m n x x known (quiet_of fate) (refl, λ _ i. refl)
