-- An image of which one record's words changed holds the tables with that record changed.
use Rattle.std.specs.Prelude.{Option}
use mathlib.Core.Path.{◌≡◌, refl, ap, ◌∙◌}
use mathlib.Core.List.{List}
use Prim.Native.Nat.{ℕ, ◌+◌, ◌<◌}
use native.Mathlib.Omega.{arith}
use lib.ListN.{length, get_or, set, length-set}
use lib.Seq.{get_or-set_same, get_or-set_other, set-set}
use Rattle.rules.specs.Sizes.{max_domains, max_contexts, max_frames}
use Rattle.rules.specs.Records.{public_page}
use Rattle.rules.specs.declared.Gppn.{Gppn}
use Rattle.rules.specs.declared.Gvpn.{Gvpn}
use Rattle.rules.specs.declared.Asid.{Asid}
use Rattle.rules.specs.declared.Tables.{Tables}
use Rattle.rules.specs.declared.DomainRecord.{DomainRecord}
use Rattle.rules.specs.declared.ContextRecord.{ContextRecord}
use Rattle.rules.specs.declared.FrameRecord.{FrameRecord}
use Rattle.rules.specs.declared.PageRecord.{PageRecord}
use Rattle.rules.specs.declared.Place.{Place}
use Rattle.rules.specs.declared.Life.{Life}
use Rattle.rules.specs.declared.Activity.{Activity}
use Rattle.core_tables.specs.Words.{LifeCode, ActivityCode, NamesCode, MappingCode, PlaceCode, frame_in, names_in, names_word}
use Rattle.core_tables.specs.Words.{domain_in, life_in, life_word, context_in, activity_in, activity_word, mapping_in, mapping_word}
use Rattle.core_tables.specs.Image.{image_words, domains_at, contexts_at, frames_at, mapped_at, home_at, sign_at, used_at}
use Rattle.core_tables.specs.Image.{max_entries, tables_in}
use Rattle.core_tables.specs.Put.{Put, set_page, set_names, set_life, set_activity, set_used}
use Rattle.core_tables.proofs.Ranges.{sign_kept}
use Rattle.core_tables.proofs.Reading.{long}
use Rattle.core_tables.proofs.Written.{Else, same, other, kept, changed, coded, still, pages_kept, home_still}
use Rattle.core_tables.proofs.Written.{page_mapping, page_place, home_coded}

module _ (v : ℕ) (x : List ℕ) (long : length x ≡ image_words) where
  pub put_life : (i w : ℕ) (r : Life) → i < max_domains → LifeCode r w
      → Put v x (set x (domains_at + i) w) (set_life i r (tables_in v x))
  unfolding tables_in
  put_life i w r h code =
      let j : ℕ = domains_at + i in
      let y : List ℕ = set x j w in
      let new : get_or y (domains_at + i) 0 ≡ w = get_or-set_same x j w 0 (omega arith) in
      let rest = same x j w in
      record {
        tables =
            rw (
              changed domain_in x y domains_at max_domains i w _ h (other x j w domains_at max_domains i refl) new
                  (ap {B = DomainRecord} (λ (l : Life). record { life = l }) code.back),
              kept context_in x y contexts_at max_contexts (rest _ _ (λ k b e. omega arith)),
              pages_kept x y (rest _ _ (λ k b e. omega arith)) (rest _ _ (λ k b e. omega arith)) (rest _ _ (λ k b e. omega arith)),
              kept (frame_in v) x y frames_at max_frames (rest _ _ (λ k b e. omega arith)),
              get_or-set_other x j used_at w 0 (λ e. omega arith),
            );
        canonical =
            λ c. record {
              domains = coded life_in x y domains_at max_domains life_word i w (other x j w domains_at max_domains i refl) new
                  (rw code.back code.word) c.domains;
              contexts = still activity_in x y contexts_at max_contexts activity_word (rest _ _ (λ k b e. omega arith)) c.contexts;
              frames = still (names_in v) x y frames_at max_frames (names_word v) (rest _ _ (λ k b e. omega arith)) c.frames;
              mapped = still mapping_in x y mapped_at max_entries mapping_word (rest _ _ (λ k b e. omega arith)) c.mapped;
              home = home_still x y (rest _ _ (λ k b e. omega arith)) (rest _ _ (λ k b e. omega arith)) c.home;
              sign = λ k b. sign_kept _ _;
            };
      }

  pub put_activity : (i w : ℕ) (r : Activity) → i < max_contexts → ActivityCode r w
      → Put v x (set x (contexts_at + i) w) (set_activity i r (tables_in v x))
  unfolding tables_in
  put_activity i w r h code =
      let j : ℕ = contexts_at + i in
      let y : List ℕ = set x j w in
      let new : get_or y (contexts_at + i) 0 ≡ w = get_or-set_same x j w 0 (omega arith) in
      let rest = same x j w in
      record {
        tables =
            rw (
              kept domain_in x y domains_at max_domains (rest _ _ (λ k b e. omega arith)),
              changed context_in x y contexts_at max_contexts i w _ h (other x j w contexts_at max_contexts i refl) new
                  (ap {B = ContextRecord} (λ (l : Activity). record { activity = l }) code.back),
              pages_kept x y (rest _ _ (λ k b e. omega arith)) (rest _ _ (λ k b e. omega arith)) (rest _ _ (λ k b e. omega arith)),
              kept (frame_in v) x y frames_at max_frames (rest _ _ (λ k b e. omega arith)),
              get_or-set_other x j used_at w 0 (λ e. omega arith),
            );
        canonical =
            λ c. record {
              domains = still life_in x y domains_at max_domains life_word (rest _ _ (λ k b e. omega arith)) c.domains;
              contexts = coded activity_in x y contexts_at max_contexts activity_word i w (other x j w contexts_at max_contexts i refl) new
                  (rw code.back code.word) c.contexts;
              frames = still (names_in v) x y frames_at max_frames (names_word v) (rest _ _ (λ k b e. omega arith)) c.frames;
              mapped = still mapping_in x y mapped_at max_entries mapping_word (rest _ _ (λ k b e. omega arith)) c.mapped;
              home = home_still x y (rest _ _ (λ k b e. omega arith)) (rest _ _ (λ k b e. omega arith)) c.home;
              sign = λ k b. sign_kept _ _;
            };
      }

  pub put_names : (i w : ℕ) (r : Option (Asid × Gvpn)) → i < max_frames → NamesCode v r w
      → Put v x (set x (frames_at + i) w) (set_names i r (tables_in v x))
  unfolding tables_in
  put_names i w r h code =
      let j : ℕ = frames_at + i in
      let y : List ℕ = set x j w in
      let new : get_or y (frames_at + i) 0 ≡ w = get_or-set_same x j w 0 (omega arith) in
      let rest = same x j w in
      record {
        tables =
            rw (
              kept domain_in x y domains_at max_domains (rest _ _ (λ k b e. omega arith)),
              kept context_in x y contexts_at max_contexts (rest _ _ (λ k b e. omega arith)),
              pages_kept x y (rest _ _ (λ k b e. omega arith)) (rest _ _ (λ k b e. omega arith)) (rest _ _ (λ k b e. omega arith)),
              changed (frame_in v) x y frames_at max_frames i w _ h (other x j w frames_at max_frames i refl) new
                  (ap {B = FrameRecord} (λ (l : Option (Asid × Gvpn)). record { names = l }) code.back),
              get_or-set_other x j used_at w 0 (λ e. omega arith),
            );
        canonical =
            λ c. record {
              domains = still life_in x y domains_at max_domains life_word (rest _ _ (λ k b e. omega arith)) c.domains;
              contexts = still activity_in x y contexts_at max_contexts activity_word (rest _ _ (λ k b e. omega arith)) c.contexts;
              frames = coded (names_in v) x y frames_at max_frames (names_word v) i w (other x j w frames_at max_frames i refl) new
                  (rw code.back code.word) c.frames;
              mapped = still mapping_in x y mapped_at max_entries mapping_word (rest _ _ (λ k b e. omega arith)) c.mapped;
              home = home_still x y (rest _ _ (λ k b e. omega arith)) (rest _ _ (λ k b e. omega arith)) c.home;
              sign = λ k b. sign_kept _ _;
            };
      }

  pub put_mapping : (i w : ℕ) (r : Option Gppn) → i < max_entries → MappingCode r w
      → Put v x (set x (mapped_at + i) w)
      (set_page i (record { mapping = r; place = (get_or (tables_in v x).pages i public_page).place }) (tables_in v x))
  unfolding tables_in
  put_mapping i w r h code =
      let j : ℕ = mapped_at + i in
      let y : List ℕ = set x j w in
      let new : get_or y (mapped_at + i) 0 ≡ w = get_or-set_same x j w 0 (omega arith) in
      let rest = same x j w in
      record {
        tables =
            rw (
              kept domain_in x y domains_at max_domains (rest _ _ (λ k b e. omega arith)),
              kept context_in x y contexts_at max_contexts (rest _ _ (λ k b e. omega arith)),
              page_mapping x y i w r h (other x j w mapped_at max_entries i refl) new code.back (rest _ _ (λ k b e. omega arith))
                  (rest _ _ (λ k b e. omega arith)),
              kept (frame_in v) x y frames_at max_frames (rest _ _ (λ k b e. omega arith)),
              get_or-set_other x j used_at w 0 (λ e. omega arith),
            );
        canonical =
            λ c. record {
              domains = still life_in x y domains_at max_domains life_word (rest _ _ (λ k b e. omega arith)) c.domains;
              contexts = still activity_in x y contexts_at max_contexts activity_word (rest _ _ (λ k b e. omega arith)) c.contexts;
              frames = still (names_in v) x y frames_at max_frames (names_word v) (rest _ _ (λ k b e. omega arith)) c.frames;
              mapped = coded mapping_in x y mapped_at max_entries mapping_word i w (other x j w mapped_at max_entries i refl) new
                  (rw code.back code.word) c.mapped;
              home = home_still x y (rest _ _ (λ k b e. omega arith)) (rest _ _ (λ k b e. omega arith)) c.home;
              sign = λ k b. sign_kept _ _;
            };
      }

  pub put_used : (w : ℕ)
      → Put v x (set x (used_at) w) (set_used w (tables_in v x))
  unfolding tables_in
  put_used w =
      let j : ℕ = used_at in
      let y : List ℕ = set x j w in
      let new : get_or y (used_at) 0 ≡ w = get_or-set_same x j w 0 (omega arith) in
      let rest = same x j w in
      record {
        tables =
            rw (
              kept domain_in x y domains_at max_domains (rest _ _ (λ k b e. omega arith)),
              kept context_in x y contexts_at max_contexts (rest _ _ (λ k b e. omega arith)),
              pages_kept x y (rest _ _ (λ k b e. omega arith)) (rest _ _ (λ k b e. omega arith)) (rest _ _ (λ k b e. omega arith)),
              kept (frame_in v) x y frames_at max_frames (rest _ _ (λ k b e. omega arith)),
              new,
            );
        canonical =
            λ c. record {
              domains = still life_in x y domains_at max_domains life_word (rest _ _ (λ k b e. omega arith)) c.domains;
              contexts = still activity_in x y contexts_at max_contexts activity_word (rest _ _ (λ k b e. omega arith)) c.contexts;
              frames = still (names_in v) x y frames_at max_frames (names_word v) (rest _ _ (λ k b e. omega arith)) c.frames;
              mapped = still mapping_in x y mapped_at max_entries mapping_word (rest _ _ (λ k b e. omega arith)) c.mapped;
              home = home_still x y (rest _ _ (λ k b e. omega arith)) (rest _ _ (λ k b e. omega arith)) c.home;
              sign = λ k b. sign_kept _ _;
            };
      }

  pub put_place : (i w z : ℕ) (r : Place) → i < max_entries → PlaceCode r w z
      → Put v x (set (set x (home_at + i) w) (sign_at + i) z)
      (set_page i (record { mapping = (get_or (tables_in v x).pages i public_page).mapping; place = r }) (tables_in v x))
  unfolding tables_in
  put_place i w z r within code =
      let x2 : List ℕ = set x (home_at + i) w in
      let y : List ℕ = set x2 (sign_at + i) z in
      let rest = same x (home_at + i) w in
      let rest2 = same x2 (sign_at + i) z in
      let newh : get_or y (home_at + i) 0 ≡ w =
      get_or-set_other x2 (sign_at + i) (home_at + i) z 0 (λ e. omega arith) ∙ get_or-set_same x (home_at + i) w 0 (omega arith) in
      let news : get_or y (sign_at + i) 0 ≡ z = get_or-set_same x2 (sign_at + i) z 0 (rw length-set (omega arith)) in
      let elseh : Else x y home_at max_entries i =
      λ k b ne. rest2 home_at max_entries (λ k b e. omega arith) k b ∙ other x (home_at + i) w home_at max_entries i refl k b ne in
      let elses : Else x y sign_at max_entries i =
      λ k b ne. other x2 (sign_at + i) z sign_at max_entries i refl k b ne ∙ rest sign_at max_entries (λ k b e. omega arith) k b in
      record {
        tables =
            rw (
              kept domain_in x y domains_at max_domains (λ k b. rest2 _ _ (λ k b e. omega arith) k b ∙ rest _ _ (λ k b e. omega arith) k b),
              kept context_in x y contexts_at max_contexts
                  (λ k b. rest2 _ _ (λ k b e. omega arith) k b ∙ rest _ _ (λ k b e. omega arith) k b),
              page_place x y i w z r within elseh elses newh news code.back
                  (λ k b. rest2 _ _ (λ k b e. omega arith) k b ∙ rest _ _ (λ k b e. omega arith) k b),
              kept (frame_in v) x y frames_at max_frames
                  (λ k b. rest2 _ _ (λ k b e. omega arith) k b ∙ rest _ _ (λ k b e. omega arith) k b),
              get_or-set_other x2 (sign_at + i) used_at z 0 (λ e. omega arith),
              get_or-set_other x (home_at + i) used_at w 0 (λ e. omega arith),
            );
        canonical =
            λ c. record {
              domains = still life_in x y domains_at max_domains life_word
                  (λ k b. rest2 _ _ (λ k b e. omega arith) k b ∙ rest _ _ (λ k b e. omega arith) k b) c.domains;
              contexts = still activity_in x y contexts_at max_contexts activity_word
                  (λ k b. rest2 _ _ (λ k b e. omega arith) k b ∙ rest _ _ (λ k b e. omega arith) k b) c.contexts;
              frames = still (names_in v) x y frames_at max_frames (names_word v)
                  (λ k b. rest2 _ _ (λ k b e. omega arith) k b ∙ rest _ _ (λ k b e. omega arith) k b) c.frames;
              mapped = still mapping_in x y mapped_at max_entries mapping_word
                  (λ k b. rest2 _ _ (λ k b e. omega arith) k b ∙ rest _ _ (λ k b e. omega arith) k b) c.mapped;
              home = home_coded x y i w z elseh elses newh news (rw code.back code.home) c.home;
              sign = λ k b. sign_kept _ _;
            };
      }

-- one change after another
pub then : {v : ℕ} {x y z : List ℕ} {t : Tables} (change : Tables → Tables) → Put v x y t → Put v y z (change (tables_in v y))
    → Put v x z (change t)
then change p q = record { tables = q.tables ∙ ap change p.tables; canonical = λ c. q.canonical (p.canonical c) }

-- a page's mapping, and then its place
pub then_place : (v i : ℕ) {x y z : List ℕ} (r : PageRecord) → i < max_entries
    → Put v x y (set_page i (record { mapping = r.mapping; place = (get_or (tables_in v x).pages i public_page).place }) (tables_in v x))
    → Put v y z (set_page i (record { mapping = (get_or (tables_in v y).pages i public_page).mapping; place = r.place }) (tables_in v y))
    → Put v x z (set_page i r (tables_in v x))
then_place v i {x} {y} {z} r h p q =
    let old : PageRecord = record { mapping = r.mapping; place = (get_or (tables_in v x).pages i public_page).place } in
    let l = (long v x).pages in
    record {
      tables =
          q.tables
          ∙ rw (p.tables, get_or-set_same (tables_in v x).pages i old public_page (omega arith), set-set (tables_in v x).pages i old r);
      canonical = λ c. q.canonical (p.canonical c);
    }
