-- Soundness, which specs/Sound.antt tests as a Bool, as a record of facts, and back; and what functions ask of sound tables, that their
-- records agree.
use Rattle.std.specs.Prelude.{Option, Some, None}
use mathlib.Core.Path.{◌≡◌, ap₂, subst}
use mathlib.Core.List.{List, [], ◌∷◌}
use mathlib.Core.Bool.{Bool, true, ◌||◌, not}
use Prim.Native.Nat.{ℕ, ◌*◌, ◌/◌, ◌%◌, ◌≤◌, ◌<◌}
use native.Mathlib.Nat.{div-add-mod', mod-lt, div-lt_iff_lt-mul}
use native.Mathlib.Decide.{dec_lt}
use native.Mathlib.Omega.{arith}
use lib.ListN.{length, get_or, get_or-eq_default}
use lib.Dec.{T, ltb, le→leb, leb→le, ltb→lt, eqb→eq}
use borrow.Author.Tests.{lt-ltb, le-ltb, eq-eqb}
use Rattle.rules.specs.Bytes.{all_from, all_of, same_bytes, zeros}
use Rattle.rules.specs.Sizes.{domain_in, page_in, frame_in, page_number, max_domains, max_pages, max_contexts, max_frames}
use Rattle.rules.specs.Asked.{Agreed}
use Rattle.rules.specs.Records.{empty_domain, free_context, public_page, open_frame, zero_registers, life_of, activity_of}
use Rattle.rules.specs.Records.{page_of, place_of}
use Rattle.rules.specs.Records.{mapping_of, names_of, is_empty, is_free, is_clear_in, names_none, names_page}
use Rattle.rules.specs.Sound.{domain_sound, begun, activity_sound, context_sound, saved_sound, mapping_sound, wear_sound, place_sound}
use Rattle.rules.specs.Sound.{untouched, owned_sound, page_sound, names_sound, frame_sound, whole, sound}
use Rattle.rules.specs.declared.Setup.{Setup}
use Rattle.rules.specs.declared.State.{State}
use Rattle.rules.specs.declared.Tables.{Tables}
use Rattle.rules.specs.declared.Asid.{Asid}
use Rattle.rules.specs.declared.Gvpn.{Gvpn}
use Rattle.rules.specs.declared.Gppn.{Gppn}
use Rattle.rules.specs.declared.Ctc.{Ctc}
use Rattle.rules.specs.declared.Wear.{Wear}
use Rattle.rules.specs.declared.Wear.TheVariants.{Clean}
use Rattle.rules.specs.declared.Place.TheVariants.{Clear, Sealed}
use Rattle.rules.proofs.PageNumbers.{same_domain, same_page_holds, number_domain, number_page, number_in}
use Rattle.rules.proofs.Tests.{Each, each, all, all_at, all_of_holds, passed, second_or, implied}

-- the tables' lengths
pub record Shaped (x : State) : Type 0 where
  pub domains : length x.tables.domains ≡ max_domains
  pub contexts : length x.tables.contexts ≡ max_contexts
  pub saved : length x.saved ≡ max_contexts
  pub pages : length x.tables.pages ≡ max_domains * max_pages
  pub frames : length x.tables.frames ≡ max_frames

pub shaped : (x : State) → T (whole x) → Shaped x
unfolding whole
shaped x w = let e = each _ w in omega (arith, eqb→eq)

pub names_it : (d : Asid) (v : Gvpn) (n : Option (Asid × Gvpn)) → T (names_page d v n) → n ≡ Some (d, v)
names_it d v None t = absurd t
names_it d v (Some (e, w)) t =
    let r = each _ t in
    ap₂ (λ (a : Asid) (b : Gvpn). Some (a, b)) (same_domain e d (eqb→eq e.0 d.0 r.0)) (same_page_holds w v (eqb→eq w.0 v.0 r.1.0))

pub record Sound (s : Setup) (x : State) : Type 0 where
  pub shape : Shaped x
  pub used : x.tables.used ≤ s.signatures
  pub domain_past : (d : Asid) → s.domains ≤ d.0 → T (is_empty (life_of x.tables d))
  pub context : (c : Ctc) → c.0 < s.contexts → T (activity_sound s x.tables (activity_of x.tables c))
  pub context_past : (c : Ctc) → s.contexts ≤ c.0 → T (is_free (activity_of x.tables c))
  pub saved_past : (i : ℕ) → s.contexts ≤ i → T (same_bytes (get_or x.saved i zero_registers).words (zeros 8))
  pub page : (d : Asid) (v : Gvpn) → d.0 < s.domains → v.0 < s.pages
      → T (owned_sound s x.tables d v (page_of s x.tables d v))
  pub page_past : (i : ℕ) → s.domains * s.pages ≤ i → T (untouched (get_or x.tables.pages i public_page))
  pub frame : (f : Gppn) → f.0 < s.frames → T (names_sound s x.tables f (names_of x.tables f))
  pub frame_past : (f : Gppn) → s.frames ≤ f.0 → T (names_none (names_of x.tables f))

-- a test that holds of each element of a list and of the default holds of what stands at a place, in or past the list
everywhere : {A : Type 0} (test : ℕ → A → Bool) (z : A) (l : List A) → T (all_from test 0 l) → (i : ℕ) (now : A → Bool)
    → ((r : A) → test i r ≡ now r) → T (now z) → T (now (get_or l i z))
everywhere test z l t i now same h = go (dec_lt i (length l))
  where
    go : Dec (i < length l) → T (now (get_or l i z))
    go (yes q) = rw (same (get_or l i z)) at (all_at test z l t i q)
    go (no q) = let long : length l ≤ i = omega arith in rw (get_or-eq_default l z long) h

pub untouched_public : T (untouched public_page)
unfolding untouched all_of
untouched_public = tt

pub owned_public : (s : Setup) (t : Tables) (d : Asid) (v : Gvpn) → T (owned_sound s t d v public_page)
unfolding owned_sound mapping_sound place_sound untouched all_of
owned_public s t d v =
    let b = not (is_empty (life_of t d)) in
    all (true ∷ true ∷ (b || true) ∷ []) (tt, (tt, (second_or b true tt, tt)))

-- from the tests
module _ (s : Setup) (x : State) (ok : T (sound s x)) where
  pub sound_facts : Sound s x
  unfolding sound domain_sound context_sound saved_sound page_sound frame_sound activity_sound untouched owned_sound names_sound
      same_bytes zeros
  sound_facts =
      let e = each _ ok in
      let t = x.tables in
      let tables = e.1.1 in
      let contexts = tables.1.0 in
      let saved = tables.1.1.0 in
      let pages = tables.1.1.1.0 in
      let frames = tables.1.1.1.1.0 in
      record {
        shape = shaped x e.0;
        used = leb→le _ _ e.1.0;
        domain_past =
            λ d h.
            let w = le-ltb d.0 s.domains h in
            everywhere (domain_sound s) empty_domain t.domains tables.0 d.0 (λ r. is_empty r.life) (λ r. rw w) tt;
        context =
            λ c h.
            let w = lt-ltb c.0 s.contexts h in
            everywhere (context_sound s t) free_context t.contexts contexts c.0 (λ r. activity_sound s t r.activity) (λ r. rw w) tt;
        context_past =
            λ c h.
            let w = le-ltb c.0 s.contexts h in
            everywhere (context_sound s t) free_context t.contexts contexts c.0 (λ r. is_free r.activity) (λ r. rw w) tt;
        saved_past =
            λ i h.
            let w = le-ltb i s.contexts h in
            everywhere (saved_sound s) zero_registers x.saved saved i (λ r. same_bytes r.words (zeros 8)) (λ r. rw w) tt;
        page =
            λ d v hd hv.
            let w = lt-ltb (page_number s d v) (s.domains * s.pages) (number_in s d v hv hd) in
            everywhere (page_sound s t) public_page t.pages pages (page_number s d v) (owned_sound s t d v)
            (λ r. rw (w, number_domain s d v hv, number_page s d v hv)) (owned_public s t d v);
        page_past =
            λ i h.
            let w = le-ltb i (s.domains * s.pages) h in
            everywhere (page_sound s t) public_page t.pages pages i untouched (λ r. rw w) untouched_public;
        frame =
            λ f h.
            let w = lt-ltb f.0 s.frames h in
            everywhere (frame_sound s t) open_frame t.frames frames f.0 (λ r. names_sound s t f r.names) (λ r. rw w) tt;
        frame_past =
            λ f h.
            let w = le-ltb f.0 s.frames h in
            everywhere (frame_sound s t) open_frame t.frames frames f.0 (λ r. names_none r.names) (λ r. rw w) tt;
      }

-- and back to them
whole_of : (x : State) → Shaped x → T (whole x)
unfolding whole
whole_of x h =
    let domains = passed _ (eq-eqb _ _ h.domains) in
    let contexts = passed _ (eq-eqb _ _ h.contexts) in
    let saved = passed _ (eq-eqb _ _ h.saved) in
    let pages = passed _ (eq-eqb _ _ h.pages) in
    let frames = passed _ (eq-eqb _ _ h.frames) in
    all _ (domains, (contexts, (saved, (pages, (frames, tt)))))

module _ (s : Setup) (x : State) (some : 1 ≤ s.pages) (h : Sound s x) where
  domains_of : (i : ℕ) → Dec (i < s.domains) → T (domain_sound s i (get_or x.tables.domains i empty_domain))
  unfolding domain_sound
  domains_of i (yes q) = rw (lt-ltb i s.domains q) tt
  domains_of i (no q) = second_or (ltb i s.domains) _ (h.domain_past (record { 0 = i }) (omega arith))

  contexts_of : (i : ℕ) → Dec (i < s.contexts) → T (context_sound s x.tables i (get_or x.tables.contexts i free_context))
  unfolding context_sound
  contexts_of i (yes q) = rw (lt-ltb i s.contexts q) (h.context (record { 0 = i }) q)
  contexts_of i (no q) =
      let past : s.contexts ≤ i = omega arith in
      rw (le-ltb i s.contexts past) (h.context_past (record { 0 = i }) past)

  saved_of_holds : (i : ℕ) → Dec (i < s.contexts) → T (saved_sound s i (get_or x.saved i zero_registers))
  unfolding saved_sound
  saved_of_holds i (yes q) = rw (lt-ltb i s.contexts q) tt
  saved_of_holds i (no q) = second_or (ltb i s.contexts) _ (h.saved_past i (omega arith))

  pages_of : (i : ℕ) → Dec (i < s.domains * s.pages) → T (page_sound s x.tables i (get_or x.tables.pages i public_page))
  unfolding page_sound
  pages_of i (yes q) =
      let d : Asid = record { 0 = i / s.pages } in
      let v : Gvpn = record { 0 = i % s.pages } in
      let e : page_number s d v ≡ i = div-add-mod' i s.pages in
      rw (lt-ltb i (s.domains * s.pages) q)
      (subst (λ (j : ℕ). T (owned_sound s x.tables d v (get_or x.tables.pages j public_page))) e
      (h.page d v ((div-lt_iff_lt-mul some).1 q) (mod-lt i some)))
  pages_of i (no q) =
      let past : s.domains * s.pages ≤ i = omega arith in
      rw (le-ltb i (s.domains * s.pages) past) (h.page_past i past)

  frames_of_holds : (i : ℕ) → Dec (i < s.frames) → T (frame_sound s x.tables i (get_or x.tables.frames i open_frame))
  unfolding frame_sound
  frames_of_holds i (yes q) = rw (lt-ltb i s.frames q) (h.frame (record { 0 = i }) q)
  frames_of_holds i (no q) =
      let past : s.frames ≤ i = omega arith in
      rw (le-ltb i s.frames past) (h.frame_past (record { 0 = i }) past)

  pub sound_of : T (sound s x)
  unfolding sound
  sound_of =
      all _ (
        whole_of x h.shape,
        (
          le→leb _ _ h.used,
          (
            all_of_holds _ empty_domain _ (λ i _. domains_of i (dec_lt i s.domains)),
            (
              all_of_holds _ free_context _ (λ i _. contexts_of i (dec_lt i s.contexts)),
              (
                all_of_holds _ zero_registers _ (λ i _. saved_of_holds i (dec_lt i s.contexts)),
                (
                  all_of_holds _ public_page _ (λ i _. pages_of i (dec_lt i (s.domains * s.pages))),
                  (
                    all_of_holds _ open_frame _ (λ i _. frames_of_holds i (dec_lt i s.frames)),
                    tt,
                  ),
                ),
              ),
            ),
          ),
        ),
      )

-- sound records agree with each other
module _ (s : Setup) (x : State) (h : Sound s x) where
  clear_of : (f : Gppn) (d : Asid) (v : Gvpn) → T (names_sound s x.tables f (Some (d, v)))
      → (d.0 < s.domains) × (v.0 < s.pages) × T (is_clear_in f (place_of s x.tables d v))
  unfolding names_sound domain_in page_in
  clear_of f d v n =
      let r = each _ n in
      (ltb→lt d.0 s.domains r.0, ltb→lt v.0 s.pages r.1.0, r.1.1.0)

  named_of : (d : Asid) (v : Gvpn) (f : Gppn) (w : Wear) → T (place_sound s x.tables d v (Clear f w))
      → (f.0 < s.frames) × (names_of x.tables f ≡ Some (d, v)) × T (wear_sound x.tables w)
  unfolding place_sound frame_in
  named_of d v f w n =
      let r = each _ n in
      (ltb→lt f.0 s.frames r.0, names_it d v (names_of x.tables f) r.1.0, r.1.1.0)

  sealed_of : (d : Asid) (v : Gvpn) (k : ℕ) → T (place_sound s x.tables d v (Sealed k)) → k < x.tables.used
  unfolding place_sound
  sealed_of d v k n = ltb→lt k x.tables.used n

  worn_of : (k : ℕ) → T (wear_sound x.tables (Clean k)) → k < x.tables.used
  unfolding wear_sound
  worn_of k n = ltb→lt k x.tables.used n

  mapped_of : (f : Gppn) → T (mapping_sound s (Some f)) → f.0 < s.frames
  unfolding mapping_sound frame_in
  mapped_of f n = ltb→lt f.0 s.frames n

  begun_of : (d : Asid) → T (begun s x.tables d) → (d.0 < s.domains) × T (not (is_empty (life_of x.tables d)))
  unfolding begun domain_in
  begun_of d n = let r = each _ n in (ltb→lt d.0 s.domains r.0, r.1.0)

  owned : (d : Asid) (v : Gvpn) → d.0 < s.domains → v.0 < s.pages
      → Each (mapping_sound s (mapping_of s x.tables d v) ∷ place_sound s x.tables d v (place_of s x.tables d v)
      ∷ (not (is_empty (life_of x.tables d)) || untouched (page_of s x.tables d v)) ∷ [])
  unfolding owned_sound
  owned d v hd hv = each _ (h.page d v hd hv)

  pub agreed : Agreed s x.tables
  unfolding activity_sound
  agreed =
      record {
        used = h.used;
        clear = λ f d v hf e. clear_of f d v (rw e at (h.frame f hf));
        named =
            λ d v f w hd hv e.
            let r = named_of d v f w (rw e at (owned d v hd hv).1.0) in
            (r.0, r.1);
        unnamed = λ f past _. h.frame_past f past;
        worn = λ d v f k hd hv e. worn_of k (named_of d v f (Clean k) (rw e at (owned d v hd hv).1.0)).2;
        sealed = λ d v k hd hv e. sealed_of d v k (rw e at (owned d v hd hv).1.0);
        mapped = λ d v f hd hv e. mapped_of f (rw e at (owned d v hd hv).0);
        inhabited = λ c d hc e. begun_of d (rw e at (h.context c hc));
        kept = λ c d k hc e. begun_of d (rw e at (h.context c hc));
        empty = λ d v hd hv e. implied (is_empty (life_of x.tables d)) _ (owned d v hd hv).1.1.0 e;
      }
