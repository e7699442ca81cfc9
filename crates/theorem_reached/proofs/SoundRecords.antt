-- Changes of a domain's life, a context's activity and its saved registers keep a state sound. First, what the test of one record asks of
-- the other tables: where those agree, the record passes as before.
use Rattle.std.specs.Prelude.{Option, Some, None}
use mathlib.Core.Path.{◌≡◌, refl}
use mathlib.Core.List.{List}
use mathlib.Core.Bool.{Bool, true, false, ◌||◌, not}
use Prim.Native.Nat.{ℕ, ◌≤◌, ◌<◌}
use native.Mathlib.Decide.{ℕ_discrete}
use native.Mathlib.Omega.{arith}
use lib.ListN.{length, set, length-set}
use lib.Seq.{get_or-set_other}
use lib.Dec.{T, eqb_refl, ltb→lt, lt→ltb}
use Rattle.rules.specs.Records.{zero_registers, life_of, activity_of, page_of, place_of, names_of, is_empty, is_clear_in, names_page}
use Rattle.rules.specs.Records.{with_life}
use Rattle.rules.specs.Records.{with_activity}
use Rattle.rules.specs.Sound.{begun, activity_sound, wear_sound, place_sound, untouched, owned_sound, names_sound}
use Rattle.rules.specs.Asked.{Limited}
use Rattle.rules.specs.declared.Setup.{Setup}
use Rattle.rules.specs.declared.State.{State}
use Rattle.rules.specs.declared.Tables.{Tables}
use Rattle.rules.specs.declared.Asid.{Asid}
use Rattle.rules.specs.declared.Gvpn.{Gvpn}
use Rattle.rules.specs.declared.Gppn.{Gppn}
use Rattle.rules.specs.declared.Ctc.{Ctc}
use Rattle.rules.specs.declared.PageRecord.{PageRecord}
use Rattle.rules.specs.declared.Life.{Life}
use Rattle.rules.specs.declared.Activity.{Activity}
use Rattle.rules.specs.declared.Activity.TheVariants.{Free, Running, Kept}
use Rattle.rules.specs.declared.Wear.{Wear}
use Rattle.rules.specs.declared.Wear.TheVariants.{Dirty, Clean}
use Rattle.rules.specs.declared.Place.{Place}
use Rattle.rules.specs.declared.Place.TheVariants.{Public, Clear, Sealed}
use Rattle.rules.proofs.PageNumbers.{same_context_holds, same_domain}
use Rattle.rules.proofs.Changes.{life_same, life_other, activity_same, activity_other}
use Rattle.rules.proofs.Tests.{each, all, second_or}
use Rattle.rules.proofs.Soundness.{names_it, Sound}

-- one record's test, with other tables around it
pub names_self : (d : Asid) (v : Gvpn) → T (names_page d v (Some (d, v)))
names_self d v = all _ (eqb_refl d.0, (eqb_refl v.0, tt))

module _ (s : Setup) (t u : Tables) where
  begun_kept : (d : Asid) → (T (not (is_empty (life_of t d))) → T (not (is_empty (life_of u d)))) → T (begun s t d) → T (begun s u d)
  unfolding begun
  begun_kept d lives h = let e = each _ h in all _ (e.0, (lives e.1.0, tt))

  pub activity_kept : ((d : Asid) → T (not (is_empty (life_of t d))) → T (not (is_empty (life_of u d)))) → (a : Activity)
      → T (activity_sound s t a) → T (activity_sound s u a)
  unfolding activity_sound
  activity_kept lives Free h = h
  activity_kept lives (Running d) h = begun_kept d (lives d) h
  activity_kept lives (Kept d k) h = begun_kept d (lives d) h

  wear_kept : t.used ≤ u.used → (w : Wear) → T (wear_sound t w) → T (wear_sound u w)
  unfolding wear_sound
  wear_kept more Dirty h = tt
  wear_kept more (Clean k) h = lt→ltb k u.used (omega (arith, ltb→lt k t.used h))

  pub place_sound_kept : t.used ≤ u.used → (d : Asid) (v : Gvpn) (p : Place)
      → ((f : Gppn) (w : Wear) → p ≡ Clear f w → names_of t f ≡ Some (d, v) → names_of u f ≡ Some (d, v)) → T (place_sound s t d v p)
      → T (place_sound s u d v p)
  unfolding place_sound
  place_sound_kept more d v Public names h = tt
  place_sound_kept more d v (Clear f w) names h =
      let e = each _ h in
      let n : names_of u f ≡ Some (d, v) = names f w refl (names_it d v (names_of t f) e.1.0) in
      all _ (e.0, (rw n (names_self d v), (wear_kept more w e.1.1.0, tt)))
  place_sound_kept more d v (Sealed k) names h = lt→ltb k u.used (omega (arith, ltb→lt k t.used h))

  -- a page's record stands as before where its domain lives, its frame names it, and no signature is unused again
  pub owned_kept : t.used ≤ u.used → (d : Asid) (v : Gvpn) (r : PageRecord)
      → (T (not (is_empty (life_of t d))) → T (not (is_empty (life_of u d))))
      → ((f : Gppn) (w : Wear) → r.place ≡ Clear f w → names_of t f ≡ Some (d, v) → names_of u f ≡ Some (d, v))
      → T (owned_sound s t d v r) → T (owned_sound s u d v r)
  unfolding owned_sound
  owned_kept more d v r lives names h =
      let e = each _ h in
      all _ (
        e.0,
        (
          place_sound_kept more d v r.place names e.1.0,
          (lived (is_empty (life_of t d)) (is_empty (life_of u d)) lives e.1.1.0, tt),
        ),
      )
    where
      lived : (a b : Bool) → (T (not a) → T (not b)) → T (not a || untouched r) → T (not b || untouched r)
      lived true b l h = second_or (not b) (untouched r) h
      lived false true l h = absurd (l tt)
      lived false false l h = tt

  -- a frame's record stands as before where the page that it names is Clear there still
  pub names_kept : (f : Gppn) (n : Option (Asid × Gvpn))
      → ((d : Asid) (v : Gvpn) → n ≡ Some (d, v) → T (is_clear_in f (place_of s t d v)) → T (is_clear_in f (place_of s u d v)))
      → T (names_sound s t f n) → T (names_sound s u f n)
  unfolding names_sound
  names_kept f None places h = tt
  names_kept f (Some (d, v)) places h = let e = each _ h in all _ (e.0, (e.1.0, (places d v refl e.1.1.0, tt)))

module _ (s : Setup) (x : State) (sizes : Limited s) (h : Sound s x) where
  -- a domain's life, where it is not Empty afterwards
  pub life_sound : (d : Asid) → d.0 < s.domains → (life : Life) → T (not (is_empty life))
      → Sound s (record { tables = with_life d life x.tables; saved = x.saved })
  life_sound d hd life lives =
      let o = h.shape in
      record {
        shape =
            record { domains = rw length-set o.domains; contexts = o.contexts; saved = o.saved; pages = o.pages; frames = o.frames };
        used = h.used;
        domain_past = λ e past. rw (life_other t d life e (omega arith)) (h.domain_past e past);
        context = λ c hc. activity_kept s t u lived (activity_of t c) (h.context c hc);
        context_past = h.context_past;
        saved_past = h.saved_past;
        page = λ e v he hv. owned_kept s t u (omega arith) e v (page_of s t e v) (lived e) (λ f w _ n. n) (h.page e v he hv);
        page_past = h.page_past;
        frame = λ f hf. names_kept s t u f (names_of t f) (λ e v _ c. c) (h.frame f hf);
        frame_past = h.frame_past;
      }
    where
      t : Tables
      t = x.tables

      u : Tables
      u = with_life d life t

      within : d.0 < length t.domains
      within = omega (arith, h.shape.domains, sizes.domains)

      lived : (e : Asid) → T (not (is_empty (life_of t e))) → T (not (is_empty (life_of u e)))
      lived e l = go (ℕ_discrete e.0 d.0)
        where
          go : Dec (e.0 ≡ d.0) → T (not (is_empty (life_of u e)))
          go (yes q) = rw (same_domain e d q, life_same t d life within) lives
          go (no ne) = rw (life_other t d life e ne) l

  -- a context's activity, where it is in a domain that is begun
  pub activity_changed : (c : Ctc) → c.0 < s.contexts → (a : Activity) → T (activity_sound s x.tables a)
      → Sound s (record { tables = with_activity c a x.tables; saved = x.saved })
  activity_changed c hc a ok =
      let o = h.shape in
      record {
        shape =
            record { domains = o.domains; contexts = rw length-set o.contexts; saved = o.saved; pages = o.pages; frames = o.frames };
        used = h.used;
        domain_past = h.domain_past;
        context = λ e he. activity_kept s t u (λ d l. l) (activity_of u e) (now e he (ℕ_discrete e.0 c.0));
        context_past = λ e past. rw (activity_other t c a e (omega arith)) (h.context_past e past);
        saved_past = h.saved_past;
        page = λ d v hd hv. owned_kept s t u (omega arith) d v (page_of s t d v) (λ l. l) (λ f w _ n. n) (h.page d v hd hv);
        page_past = h.page_past;
        frame = λ f hf. names_kept s t u f (names_of t f) (λ e v _ c. c) (h.frame f hf);
        frame_past = h.frame_past;
      }
    where
      t : Tables
      t = x.tables

      u : Tables
      u = with_activity c a t

      within : c.0 < length t.contexts
      within = omega (arith, h.shape.contexts, sizes.contexts)

      now : (e : Ctc) → e.0 < s.contexts → Dec (e.0 ≡ c.0) → T (activity_sound s t (activity_of u e))
      now e he (yes q) = rw (same_context_holds e c q, activity_same t c a within) ok
      now e he (no ne) = rw (activity_other t c a e ne) (h.context e he)

  -- a context's saved registers
  pub saved_sound_holds : (c : Ctc) → c.0 < s.contexts → (words : List ℕ)
      → Sound s (record { tables = x.tables; saved = set x.saved c.0 (record { words = words }) })
  saved_sound_holds c hc words =
      let o = h.shape in
      record {
        shape =
            record { domains = o.domains; contexts = o.contexts; saved = rw length-set o.saved; pages = o.pages; frames = o.frames };
        used = h.used;
        domain_past = h.domain_past;
        context = h.context;
        context_past = h.context_past;
        saved_past =
            λ i past.
            rw (get_or-set_other x.saved c.0 i (record { words = words }) zero_registers (omega arith)) (h.saved_past i past);
        page = h.page;
        page_past = h.page_past;
        frame = h.frame;
        frame_past = h.frame_past;
      }
