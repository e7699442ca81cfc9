-- Tables whose numbers fit their words have an image that holds them again, and so have saved registers of eight words each: with
-- Images.antt, a state has one image.
use Rattle.std.specs.Prelude.{Option, Some, None}
use mathlib.Core.Path.{◌≡◌, refl, sym, ap, ◌∙◌}
use mathlib.Core.List.{List, [], ◌∷◌, ◌++◌, map}
use Prim.Native.Nat.{ℕ, zero, suc, ◌+◌, ◌-◌, ◌*◌, ◌≤◌, ◌<◌}
use native.Mathlib.Nat.{zero-add, add-zero, add_comm}
use native.Mathlib.Decide.{dec_lt}
use native.Mathlib.Omega.{arith}
use lib.ListN.{length, get_or, take, drop, replicate, length-append, length-map, length-drop, length-replicate, get_or-replicate}
use lib.ListN.{take-append-drop, get_or-eq_default}
use lib.Seq.{length-take-le, drop_at, take_at, get_or-drop, drop-drop, ext_get_or}
use Rattle.rules.specs.Sizes.{max_domains, max_contexts, max_frames}
use Rattle.rules.specs.Records.{empty_domain, free_context, open_frame, public_page, zero_registers, domain_where, frame_where, tables}
use Rattle.rules.specs.declared.Gppn.{Gppn}
use Rattle.rules.specs.declared.Tables.{Tables}
use Rattle.rules.specs.declared.Asid.{Asid}
use Rattle.rules.specs.declared.Gvpn.{Gvpn}
use Rattle.rules.specs.declared.Registers.{Registers}
use Rattle.rules.specs.declared.DomainRecord.{DomainRecord}
use Rattle.rules.specs.declared.ContextRecord.{ContextRecord}
use Rattle.rules.specs.declared.FrameRecord.{FrameRecord}
use Rattle.rules.specs.declared.PageRecord.{PageRecord}
use Rattle.rules.specs.declared.Life.{Life}
use Rattle.rules.specs.declared.Life.TheVariants.{Empty, Live, Stopped}
use Rattle.rules.specs.declared.TrapKind.TheVariants.{Interrupt, Call}
use Rattle.rules.specs.declared.Activity.{Activity}
use Rattle.rules.specs.declared.Activity.TheVariants.{Free, Running, Kept}
use Rattle.core_tables.specs.Words.{life_in, life_word, activity_in, activity_word, names_in, names_word, mapping_in, mapping_word}
use Rattle.core_tables.specs.Words.{home_word, sign_word, Housed}
use Rattle.core_tables.specs.Image.{image_words, domains_at, contexts_at, frames_at, mapped_at, home_at, sign_at, used_at, max_entries}
use Rattle.core_tables.specs.Image.{word_at, table, domain_at, context_at, frame_at, page_at, tables_in, image_of, registers_in}
use Rattle.core_tables.specs.Image.{saved_in, saved_words, Canonical}
use Rattle.core_tables.proofs.Codes.{empty_code, live_code, stopped_code, free_code, running_code, interrupt_code, call_code}
use Rattle.core_tables.proofs.Codes.{nothing_code, named_code, unmapped_code, mapped_code, place_code}
use Rattle.core_tables.proofs.Images.{image_canonical}
use Rattle.core_tables.proofs.Registers.{length_saved, saved_there, saved_past}

-- the word of a record whose numbers fit, and back
life_back : (r : Life) → life_in (life_word r) ≡ r
unfolding life_word
life_back Empty = empty_code.back
life_back Live = live_code.back
life_back Stopped = stopped_code.back

activity_back : (r : Activity) → (domain_where r).0 < 256 → activity_in (activity_word r) ≡ r
unfolding activity_word
activity_back Free h = free_code.back
activity_back (Running d) h = (running_code d h).back
activity_back (Kept d Interrupt) h = (interrupt_code d h).back
activity_back (Kept d Call) h = (call_code d h).back

-- the page that a frame names is one of v, of a domain that is a byte
pub record NamedFits (v : ℕ) (d : Asid) (p : Gvpn) : Type 0 where
  pub domain : d.0 < 256
  pub page : p.0 < v

names_back : (v : ℕ) (r : Option (Asid × Gvpn)) → ((d : Asid) (p : Gvpn) → r ≡ Some (d, p) → NamedFits v d p)
    → names_in v (names_word v r) ≡ r
unfolding names_word
names_back v None h = (nothing_code v).back
names_back v (Some (d, p)) h = (named_code v d p (h d p refl).domain (h d p refl).page).back

mapping_back : (r : Option Gppn) → (frame_where r).0 < 256 → mapping_in (mapping_word r) ≡ r
unfolding mapping_word
mapping_back None h = unmapped_code.back
mapping_back (Some f) h = (mapped_code f h).back

-- tables as long as their type says, whose numbers fit their words
pub record Fits (v : ℕ) (t : Tables) : Type 0 where
  pub domains : length t.domains ≡ max_domains
  pub contexts : length t.contexts ≡ max_contexts
  pub pages : length t.pages ≡ max_entries
  pub frames : length t.frames ≡ max_frames
  pub activities : (i : ℕ) → i < max_contexts → (domain_where (get_or t.contexts i free_context).activity).0 < 256
  pub names : (i : ℕ) → i < max_frames → (d : Asid) (p : Gvpn) → (get_or t.frames i open_frame).names ≡ Some (d, p) → NamedFits v d p
  pub mappings : (i : ℕ) → i < max_entries → (frame_where (get_or t.pages i public_page).mapping).0 < 256
  pub places : (i : ℕ) → i < max_entries → Housed (get_or t.pages i public_page).place

-- a table of what each number gives is the list that has it there
pub table_list : {A : Type 0} (z : A) (f : ℕ → A) (l : List A) (k n : ℕ) → length l ≡ n
    → ((i : ℕ) → i < n → f (k + i) ≡ get_or l i z) → table f k n ≡ l
unfolding table
table_list z f [] k zero long e = refl
table_list z f [] k (suc n) long e = absurd (omega arith)
table_list z f (a ∷ l) k zero long e = absurd (omega arith)
table_list z f (a ∷ l) k (suc n) long e =
    let head : f k ≡ a = ap f (sym (add-zero k)) ∙ e 0 (omega arith) in
    let next : (i : ℕ) → suc k + i ≡ k + suc i = λ i. omega arith in
    rw (head, table_list z f l (suc k) n (omega arith) (λ i h. ap f (next i) ∙ e (suc i) (omega arith)))

-- the words of a list of records where they stand in x from at on, and what comes after them
module _ {A : Type 0} (code : A → ℕ) (z : A) where
  word_of : (l : List A) (rest : List ℕ) (i : ℕ) → i < length l → get_or (map code l ++ rest) i 0 ≡ code (get_or l i z)
  word_of [] rest i h = absurd (omega arith)
  word_of (a ∷ l) rest zero h = refl
  word_of (a ∷ l) rest (suc i) h = word_of l rest i (omega arith)

  word_there : (x : List ℕ) (at : ℕ) (l : List A) (rest : List ℕ) → drop at x ≡ map code l ++ rest → (i : ℕ) → i < length l
      → get_or x (at + i) 0 ≡ code (get_or l i z)
  word_there x at l rest e i h =
      sym (get_or-drop at x i 0) ∙ ap (λ (y : List ℕ). get_or y i 0) e ∙ word_of l rest i h

  after_these : (x : List ℕ) (at n : ℕ) (l : List A) (rest : List ℕ) → length l ≡ n → drop at x ≡ map code l ++ rest
      → drop (at + n) x ≡ rest
  after_these x at n l rest long e =
      sym (drop-drop n at x) ∙ ap (drop n) e ∙ drop_at (map code l) rest n (length-map l code ∙ long)

module _ (v : ℕ) (t : Tables) (fits : Fits v t) where
  abbrev x : List ℕ
  x = image_of v t

  pub length_image : length (image_of v t) ≡ image_words
  unfolding image_of
  length_image = simp (length-append, length-map) (omega (arith, fits))

  -- each section's words stand behind those of the one before
  after_domains : drop contexts_at x
      ≡ map (λ (r : ContextRecord). activity_word r.activity) t.contexts
      ++ (map (λ (r : FrameRecord). names_word v r.names) t.frames
      ++ (map (λ (r : PageRecord). mapping_word r.mapping) t.pages
      ++ (map (λ (r : PageRecord). home_word r.place) t.pages
      ++ (map (λ (r : PageRecord). sign_word r.place) t.pages ++ (t.used ∷ [])))))
  unfolding image_of
  after_domains =
      after_these (λ (r : DomainRecord). life_word r.life) empty_domain x domains_at max_domains t.domains _ fits.domains refl

  after_contexts : drop frames_at x
      ≡ map (λ (r : FrameRecord). names_word v r.names) t.frames
      ++ (map (λ (r : PageRecord). mapping_word r.mapping) t.pages
      ++ (map (λ (r : PageRecord). home_word r.place) t.pages
      ++ (map (λ (r : PageRecord). sign_word r.place) t.pages ++ (t.used ∷ []))))
  after_contexts =
      after_these (λ (r : ContextRecord). activity_word r.activity) free_context x contexts_at max_contexts t.contexts _
      fits.contexts after_domains

  after_frames : drop mapped_at x
      ≡ map (λ (r : PageRecord). mapping_word r.mapping) t.pages
      ++ (map (λ (r : PageRecord). home_word r.place) t.pages
      ++ (map (λ (r : PageRecord). sign_word r.place) t.pages ++ (t.used ∷ [])))
  after_frames =
      after_these (λ (r : FrameRecord). names_word v r.names) open_frame x frames_at max_frames t.frames _ fits.frames
      after_contexts

  after_mapped : drop home_at x
      ≡ map (λ (r : PageRecord). home_word r.place) t.pages
      ++ (map (λ (r : PageRecord). sign_word r.place) t.pages ++ (t.used ∷ []))
  after_mapped =
      after_these (λ (r : PageRecord). mapping_word r.mapping) public_page x mapped_at max_entries t.pages _ fits.pages after_frames

  after_home : drop sign_at x ≡ map (λ (r : PageRecord). sign_word r.place) t.pages ++ (t.used ∷ [])
  after_home =
      after_these (λ (r : PageRecord). home_word r.place) public_page x home_at max_entries t.pages _ fits.pages after_mapped

  after_sign : drop used_at x ≡ t.used ∷ []
  after_sign =
      after_these (λ (r : PageRecord). sign_word r.place) public_page x sign_at max_entries t.pages _ fits.pages after_home

  -- the record that each number gives
  domain_back : (i : ℕ) → i < max_domains → domain_at x (0 + i) ≡ get_or t.domains i empty_domain
  unfolding image_of
  domain_back i h =
      let w = word_there (λ (r : DomainRecord). life_word r.life) empty_domain x domains_at t.domains _ refl
      i (omega (arith, fits.domains)) in
      rw (zero-add i, w, life_back _)

  context_back : (i : ℕ) → i < max_contexts → context_at x (0 + i) ≡ get_or t.contexts i free_context
  context_back i h =
      let w = word_there (λ (r : ContextRecord). activity_word r.activity) free_context x contexts_at t.contexts _ after_domains
      i (omega (arith, fits.contexts)) in
      rw (zero-add i, w, activity_back _ (fits.activities i h))

  frame_back : (i : ℕ) → i < max_frames → frame_at v x (0 + i) ≡ get_or t.frames i open_frame
  frame_back i h =
      let w = word_there (λ (r : FrameRecord). names_word v r.names) open_frame x frames_at t.frames _ after_contexts
      i (omega (arith, fits.frames)) in
      rw (zero-add i, w, names_back v _ (fits.names i h))

  page_back : (i : ℕ) → i < max_entries → page_at x (0 + i) ≡ get_or t.pages i public_page
  page_back i h =
      let m = word_there (λ (r : PageRecord). mapping_word r.mapping) public_page x mapped_at t.pages _ after_frames
      i (omega (arith, fits.pages)) in
      let p = word_there (λ (r : PageRecord). home_word r.place) public_page x home_at t.pages _ after_mapped
      i (omega (arith, fits.pages)) in
      let k = word_there (λ (r : PageRecord). sign_word r.place) public_page x sign_at t.pages _ after_home
      i (omega (arith, fits.pages)) in
      rw (zero-add i, m, p, k, mapping_back _ (fits.mappings i h), (place_code _ (fits.places i h)).back)

  used_back : word_at x used_at ≡ t.used
  used_back =
      ap (λ (n : ℕ). get_or x n 0) (sym (add-zero used_at)) ∙ sym (get_or-drop used_at x 0 0)
      ∙ ap (λ (y : List ℕ). get_or y 0 0) after_sign

  -- the image holds the tables that it is of
  pub image_back : tables_in v (image_of v t) ≡ t
  unfolding tables_in
  image_back =
      let d = table_list empty_domain (domain_at x) t.domains 0 max_domains fits.domains domain_back in
      let c = table_list free_context (context_at x) t.contexts 0 max_contexts fits.contexts context_back in
      let p = table_list public_page (page_at x) t.pages 0 max_entries fits.pages page_back in
      let f = table_list open_frame (frame_at v x) t.frames 0 max_frames fits.frames frame_back in
      λ i. tables (d i) (c i) (p i) (f i) (used_back i)

  pub is_canonical : Canonical v (image_of v t)
  is_canonical = image_canonical v x length_image (ap (image_of v) (sym image_back))

-- saved registers, each of eight words
abbrev pub Eights : List Registers → Type 0
Eights saved = (i : ℕ) → length (get_or saved i zero_registers).words ≡ 8

less : (r : Registers) (saved : List Registers) → Eights (r ∷ saved) → Eights saved
less r saved eights i = eights (suc i)

pub length_saved_words : (n : ℕ) (saved : List Registers) → Eights saved → n ≤ length saved → length (saved_words n saved) ≡ 8 * n
unfolding saved_words
length_saved_words zero saved eights h = refl
length_saved_words (suc n) [] eights h = absurd (omega arith)
length_saved_words (suc n) (r ∷ saved) eights h =
    rw length-append (omega (arith, eights 0, length_saved_words n saved (less r saved eights) (omega arith)))

registers_back : (k n : ℕ) (y : List ℕ) (saved : List Registers) → Eights saved → n ≤ length saved → drop k y ≡ saved_words n saved
    → registers_in k n y ≡ take n saved
unfolding registers_in saved_words
registers_back k zero y saved eights h e = refl
registers_back k (suc n) y [] eights h e = absurd (omega arith)
registers_back k (suc n) y (r ∷ saved) eights h e =
    let first : take 8 (drop k y) ≡ r.words = ap (take 8) e ∙ take_at r.words (saved_words n saved) 8 (eights 0) in
    let next : drop (8 + k) y ≡ saved_words n saved =
    ap (λ (j : ℕ). drop j y) (add_comm 8 k) ∙ sym (drop-drop 8 k y) ∙ ap (drop 8) e
    ∙ drop_at r.words (saved_words n saved) 8 (eights 0) in
    rw (first, registers_back (8 + k) n y saved (less r saved eights) (omega arith) next)

-- the words of the first n hold all of them, where the others are zero
pub saved_back : (n : ℕ) (saved : List Registers) → Eights saved → length saved ≡ max_contexts → n ≤ max_contexts
    → ((i : ℕ) → n ≤ i → i < max_contexts → get_or saved i zero_registers ≡ zero_registers)
    → saved_in n (saved_words n saved) ≡ saved
unfolding saved_in
saved_back n saved eights long few past =
    let rest : replicate (max_contexts - n) zero_registers ≡ drop n saved =
    sym
    (ext_get_or zero_registers (drop n saved) (replicate (max_contexts - n) zero_registers)
    (length-drop n saved ∙ ap (λ (m : ℕ). m - n) long ∙ sym (length-replicate (max_contexts - n) zero_registers))
    (λ i h.
    let inside : i < max_contexts - n = rw (length-drop n saved, long) at h in
    get_or-drop n saved i zero_registers ∙ past (n + i) (omega arith) (omega arith)
    ∙ sym (get_or-replicate (max_contexts - n) i zero_registers zero_registers inside))) in
    rw (registers_back 0 n (saved_words n saved) saved eights (omega arith) refl, rest) (take-append-drop n saved)

-- lent words, eight a context, are saved registers of eight words each
pub saved_eights : (n : ℕ) (y : List ℕ) → length y ≡ 8 * n → n ≤ max_contexts → Eights (saved_in n y)
saved_eights n y long few i = by (dec_lt i n) (dec_lt i max_contexts)
  where
    by : Dec (i < n) → Dec (i < max_contexts) → length (get_or (saved_in n y) i zero_registers).words ≡ 8
    by (yes h) p = rw (saved_there n i y h) (length-take-le 8 (drop (8 * i) y) (rw length-drop (omega arith)))
    by (no h) (yes p) = ap (λ (r : Registers). length r.words) (saved_past n i y (omega arith) p)
    by (no h) (no p) =
        ap (λ (r : Registers). length r.words)
        (get_or-eq_default (saved_in n y) zero_registers {n = i} (rw (length_saved n y few) (omega arith)))
