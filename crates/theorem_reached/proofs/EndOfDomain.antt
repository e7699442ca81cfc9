-- The end of a domain: what then stands in each table, in each frame and in each slot, and that the machine stays acceptable.
use Rattle.std.specs.Prelude.{Option, Some, None}
use mathlib.Core.Path.{◌≡◌, refl, sym, ap, ◌∙◌}
use mathlib.Core.Logic.{◌≢◌}
use mathlib.Core.Bool.{Bool, true, false, not, cond, true≢false}
use Prim.Native.Nat.{ℕ, suc, ◌+◌, ◌*◌, ◌≤◌, ◌<◌}
use native.Mathlib.Nat.{mul-le-mul_right, mul-le-mul, zero-add}
use native.Mathlib.Decide.{ℕ_discrete, dec_lt}
use native.Mathlib.Omega.{arith}
use lib.ListN.{length, get_or, replicate, length-set, length-map, length-replicate, get_or-replicate, get_or-map}
use lib.Seq.{length-sets, get_or-set_other}
use lib.Dec.{T, eqb}
use borrow.Author.Tests.{eq-eqb, ne_eqb}
use Rattle.rules.specs.Bytes.{zeros, same_bytes}
use Rattle.rules.specs.Sizes.{page_number}
use Rattle.rules.specs.Records.{Given, Machine, state_of, empty_domain, free_context, public_page, open_frame, zero_registers, life_of}
use Rattle.rules.specs.Records.{activity_of}
use Rattle.rules.specs.Records.{page_of, place_of, names_of, is_empty, is_in, is_free, names_in, names_none, frame_bytes, slot_bytes}
use Rattle.rules.specs.Sound.{begun, activity_sound, owned_sound, names_sound}
use Rattle.rules.specs.Events.{ended_tables, ended}
use Rattle.rules.specs.declared.Setup.{Setup}
use Rattle.rules.specs.declared.Tables.{Tables}
use Rattle.rules.specs.declared.Asid.{Asid}
use Rattle.rules.specs.declared.Gvpn.{Gvpn}
use Rattle.rules.specs.declared.Gppn.{Gppn}
use Rattle.rules.specs.declared.Ctc.{Ctc}
use Rattle.rules.specs.declared.ContextRecord.{ContextRecord}
use Rattle.rules.specs.declared.FrameRecord.{FrameRecord}
use Rattle.rules.specs.declared.PageRecord.{PageRecord}
use Rattle.rules.specs.declared.Registers.{Registers}
use Rattle.rules.specs.declared.Activity.{Activity}
use Rattle.rules.specs.declared.Activity.TheVariants.{Free, Running, Kept}
use Rattle.rules.specs.declared.Place.TheVariants.{Public}
use Rattle.rules.proofs.Tests.{cond_map, cond_same, each, all}
use Rattle.rules.proofs.Parts.{length_zeros, length_with_part, part_outside}
use Rattle.rules.proofs.Lists.{get_d_map_from, length_map_from, get_d_sets_in, get_d_sets_before, get_d_sets_past}
use Rattle.rules.proofs.Soundness.{Sound, owned_public}
use Rattle.rules.proofs.Facts.{Accepted, accepted_kept}
use Rattle.theorem_reached.proofs.FramesAndSlots.{Within, NamesWithin, length_zero_named, end_keeps}
use Rattle.theorem_reached.proofs.SoundRecords.{owned_kept, names_kept}
use Rattle.theorem_reached.proofs.SoundPages.{named_within}
use Rattle.theorem_reached.proofs.SealPage.{Stays}

-- the records
pub ended_life : (s : Setup) (d : Asid) (t : Tables) (e : Asid) → e.0 ≢ d.0 → life_of (ended_tables s d t) e ≡ life_of t e
unfolding ended_tables
ended_life s d t e ne = ap (λ r. r.life) (get_or-set_other t.domains d.0 e.0 empty_domain empty_domain ne)

pub ended_activity : (s : Setup) (d : Asid) (t : Tables) (c : Ctc)
    → activity_of (ended_tables s d t) c ≡ cond (is_in d (activity_of t c)) Free (activity_of t c)
unfolding ended_tables
ended_activity s d t c =
    ap (λ r. r.activity) (get_or-map (λ r. cond (is_in d r.activity) free_context r) t.contexts c.0 free_context)
    ∙ cond_map (λ (r : ContextRecord). r.activity) (is_in d (activity_of t c)) free_context _

pub ended_names : (s : Setup) (d : Asid) (t : Tables) (f : Gppn)
    → names_of (ended_tables s d t) f ≡ cond (names_in d (names_of t f)) None (names_of t f)
unfolding ended_tables
ended_names s d t f =
    ap (λ r. r.names) (get_or-map (λ r. cond (names_in d r.names) open_frame r) t.frames f.0 open_frame)
    ∙ cond_map (λ (r : FrameRecord). r.names) (names_in d (names_of t f)) open_frame _

pub ended_saved : (s : Setup) (d : Asid) (m : Machine) (i : ℕ) → get_or (ended s d m).saved i zero_registers
    ≡ cond (is_in d (activity_of m.tables (record { 0 = i }))) zero_registers (get_or m.saved i zero_registers)
unfolding ended
ended_saved s d m i =
    get_d_map_from (λ k r. cond (is_in d (activity_of m.tables (record { 0 = k }))) zero_registers r) zero_registers
    (λ k. cond_same (is_in d (activity_of m.tables (record { 0 = k }))) zero_registers) m.saved i

module _ (s : Setup) (d : Asid) (t : Tables) (hd : d.0 < s.domains) (long : s.domains * s.pages ≤ length t.pages) where
  fits : d.0 * s.pages + length (replicate s.pages public_page) ≤ length t.pages
  fits = rw length-replicate (omega (arith, mul-le-mul_right s.pages hd))

  pub ended_own : (e : Asid) (w : Gvpn) → e.0 ≡ d.0 → w.0 < s.pages → page_of s (ended_tables s d t) e w ≡ public_page
  unfolding ended_tables
  ended_own e w q hw =
      rw q
      (get_d_sets_in t.pages (replicate s.pages public_page) (d.0 * s.pages) public_page fits w.0 (rw length-replicate hw)
      ∙ get_or-replicate s.pages w.0 public_page public_page hw)

  pub ended_other : (e : Asid) (w : Gvpn) → e.0 ≢ d.0 → w.0 < s.pages → page_of s (ended_tables s d t) e w ≡ page_of s t e w
  unfolding ended_tables
  ended_other e w ne hw = go (dec_lt e.0 d.0)
    where
      go : Dec (e.0 < d.0) → page_of s (ended_tables s d t) e w ≡ page_of s t e w
      go (yes h) =
          get_d_sets_before t.pages (replicate s.pages public_page) (d.0 * s.pages) public_page fits (page_number s e w)
          (omega (arith, mul-le-mul_right s.pages h))
      go (no h) =
          let after : suc d.0 ≤ e.0 = omega arith in
          get_d_sets_past t.pages (replicate s.pages public_page) (d.0 * s.pages) public_page fits (page_number s e w)
          (rw length-replicate (omega (arith, mul-le-mul_right s.pages after)))

  pub ended_past : (i : ℕ) → s.domains * s.pages ≤ i → get_or (ended_tables s d t).pages i public_page ≡ get_or t.pages i public_page
  unfolding ended_tables
  ended_past i h =
      get_d_sets_past t.pages (replicate s.pages public_page) (d.0 * s.pages) public_page fits i
      (rw length-replicate (omega (arith, mul-le-mul_right s.pages hd)))

module _ (g : Given) (m : Machine) (accepted : Accepted g m) (d : Asid) (hd : d.0 < g.setup.domains) where
  abbrev s : Setup
  s = g.setup

  abbrev u : Tables
  u = ended_tables s d m.tables

  long : s.domains * s.pages ≤ length m.tables.pages
  long = omega (arith, accepted.looks.shapes.pages, mul-le-mul accepted.looks.sizes.domains accepted.looks.sizes.pages)

  pub names_within : NamesWithin s d m.tables.frames 0
  names_within i t = rw zero-add (go (dec_lt i s.frames))
    where
      go : Dec (i < s.frames) → i < s.frames
      go (yes h) = h
      go (no h) =
          absurd (none (names_of m.tables (record { 0 = i })) (accepted.looks.sound.frame_past (record { 0 = i }) (omega arith)) t)
        where
          none : (n : Option (Asid × Gvpn)) → T (names_none n) → T (names_in d n) → ⊥
          none None a b = b
          none (Some (e, v)) a b = a

  -- the frames that name no page of the domain stay
  pub ended_frame : (f : Gppn) → names_in d (names_of m.tables f) ≡ false → frame_bytes s f (ended s d m) ≡ frame_bytes s f m
  ended_frame f = end_keeps s d m accepted.looks.frames names_within f

  -- the slots of other domains' pages stay
  pub ended_slot : (e : Asid) (w : Gvpn) → e.0 ≢ d.0 → w.0 < s.pages → slot_bytes s e w (ended s d m) ≡ slot_bytes s e w m
  unfolding ended
  ended_slot e w ne hw =
      part_outside s.size s.pages d.0 e.0 w.0 s.domains (zeros (s.pages * s.size)) m.store (length_zeros _)
      accepted.looks.store hd hw ne

  not_in : (n : Option (Asid × Gvpn)) (e : Asid) (w : Gvpn) → e.0 ≢ d.0 → n ≡ Some (e, w) → names_in d n ≡ false
  not_in n e w ne q = rw q (ne_eqb e.0 d.0 ne)

  ended_used : m.tables.used ≤ (ended s d m).tables.used
  unfolding ended ended_tables
  ended_used = omega arith

  pub ended_stays : (e : Asid) (w : Gvpn) → Within s e w → e.0 ≢ d.0 → Stays s e w m (ended s d m)
  unfolding ended
  ended_stays e w he ne =
      record {
        place = ap (λ (r : PageRecord). r.place) (ended_other s d m.tables hd long e w ne he.page);
        frame =
            λ f y c.
            let n = (accepted.looks.agrees.named e w f y he.domain he.page c).1 in
            ended_frame f (not_in (names_of m.tables f) e w ne n);
        slot = ended_slot e w ne he.page;
        used = ended_used;
      }

  pub ended_public : (e : Asid) (w : Gvpn) → Within s e w → e.0 ≡ d.0 → place_of s (ended s d m).tables e w ≡ Public
  unfolding ended
  ended_public e w he q = ap (λ (r : PageRecord). r.place) (ended_own s d m.tables hd long e w q he.page)

  lived : (e : Asid) → e.0 ≢ d.0 → T (not (is_empty (life_of m.tables e))) → T (not (is_empty (life_of u e)))
  lived e ne l = rw (ended_life s d m.tables e ne) l

  still_begun : (e : Asid) → eqb e.0 d.0 ≡ false → T (begun s m.tables e) → T (begun s u e)
  unfolding begun
  still_begun e q t = let h = each _ t in all _ (h.0, (lived e (λ p. true≢false (sym (eq-eqb e.0 d.0 p) ∙ q)) h.1.0, tt))

  context_sound_holds : (a : Activity) (b : Bool) → is_in d a ≡ b → T (activity_sound s m.tables a) → T (activity_sound s u (cond b Free a))
  unfolding activity_sound
  context_sound_holds a true q t = tt
  context_sound_holds Free false q t = tt
  context_sound_holds (Running e) false q t = still_begun e q t
  context_sound_holds (Kept e k) false q t = still_begun e q t

  context_free : (a : Activity) (b : Bool) → T (is_free a) → T (is_free (cond b Free a))
  context_free a true t = tt
  context_free a false t = t

  page_sound_holds : (e : Asid) (w : Gvpn) → Within s e w → Dec (e.0 ≡ d.0) → T (owned_sound s u e w (page_of s u e w))
  unfolding ended_tables
  page_sound_holds e w he (yes q) = rw (ended_own s d m.tables hd long e w q he.page) (owned_public s u e w)
  page_sound_holds e w he (no ne) =
      rw (ended_other s d m.tables hd long e w ne he.page)
      (owned_kept s m.tables u (omega arith) e w (page_of s m.tables e w) (lived e ne)
      (λ f y c n. ended_names s d m.tables f ∙ rw (not_in (names_of m.tables f) e w ne n) n)
      (accepted.looks.sound.page e w he.domain he.page))

  frame_sound_holds : (f : Gppn) (n : Option (Asid × Gvpn)) (b : Bool) → names_in d n ≡ b → T (names_sound s m.tables f n)
      → T (names_sound s u f (cond b None n))
  unfolding names_sound
  frame_sound_holds f n true q t = tt
  frame_sound_holds f n false q t =
      names_kept s m.tables u f n
      (λ e w p c.
      let apart : e.0 ≢ d.0 = λ k. true≢false (sym (rw p (eq-eqb e.0 d.0 k)) ∙ q) in
      let inside = named_within s m.tables f e w (rw p at t) in
      rw (ap (λ (r : PageRecord). r.place) (ended_other s d m.tables hd long e w apart inside.1)) c)
      t

  frame_none : (n : Option (Asid × Gvpn)) (b : Bool) → T (names_none n) → T (names_none (cond b None n))
  frame_none n true t = tt
  frame_none n false t = t

  zero_still : (r : Registers) (b : Bool) → T (same_bytes r.words (zeros 8)) → T (same_bytes (cond b zero_registers r).words (zeros 8))
  unfolding same_bytes zeros
  zero_still r true t = tt
  zero_still r false t = t

  ended_sound : Sound s (state_of (ended s d m))
  unfolding ended ended_tables
  ended_sound =
      let h = accepted.looks.sound in
      let o = h.shape in
      record {
        shape =
            record {
              domains = rw length-set o.domains;
              contexts = length-map m.tables.contexts _ ∙ o.contexts;
              saved = length_map_from _ m.saved 0 ∙ o.saved;
              pages = rw length-sets o.pages;
              frames = length-map m.tables.frames _ ∙ o.frames;
            };
        used = h.used;
        domain_past = λ e past. rw (ended_life s d m.tables e (omega arith)) (h.domain_past e past);
        context = λ c hc. rw (ended_activity s d m.tables c) (context_sound_holds (activity_of m.tables c) _ refl (h.context c hc));
        context_past =
            λ c past. rw (ended_activity s d m.tables c)
            (context_free (activity_of m.tables c) (is_in d (activity_of m.tables c)) (h.context_past c past));
        saved_past =
            λ i past. rw (ended_saved s d m i) (zero_still _ (is_in d (activity_of m.tables (record { 0 = i }))) (h.saved_past i past));
        page = λ e w he hw. page_sound_holds e w (record { domain = he; page = hw }) (ℕ_discrete e.0 d.0);
        page_past = λ i past. rw (ended_past s d m.tables hd long i past) (h.page_past i past);
        frame = λ f hf. rw (ended_names s d m.tables f) (frame_sound_holds f (names_of m.tables f) _ refl (h.frame f hf));
        frame_past =
            λ f past. rw (ended_names s d m.tables f)
            (frame_none (names_of m.tables f) (names_in d (names_of m.tables f)) (h.frame_past f past));
      }

  pub ended_accepted : Accepted g (ended s d m)
  unfolding ended
  ended_accepted =
      accepted_kept g m (ended s d m) accepted (length_zero_named s d m.tables.frames 0 m.frames)
      (length_with_part (s.pages * s.size) d.0 (zeros (s.pages * s.size)) m.store) ended_sound
