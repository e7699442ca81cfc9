-- The image of the tables: where each word stands, the tables that words hold, the words of given tables, and when words are
-- the one image of the tables that they hold. The saved registers stand apart, eight words a context.
use Rattle.std.specs.Prelude.{◌≡◌, Bool, List, [], ◌∷◌, ◌++◌, map, ℕ, zero, suc, ◌+◌, ◌*◌, ◌-◌, ◌<◌, get_or, take, drop, replicate}
use Rattle.rules.specs.Bytes.{same_bytes}
use Rattle.rules.specs.Sizes.{max_domains, max_pages, max_contexts, max_frames}
use Rattle.rules.specs.Records.{Machine, tables, underway, zero_registers}
use Rattle.rules.specs.declared.Setup.{Setup}
use Rattle.rules.specs.declared.State.{State}
use Rattle.rules.specs.declared.Tables.{Tables}
use Rattle.rules.specs.declared.DomainRecord.{DomainRecord}
use Rattle.rules.specs.declared.ContextRecord.{ContextRecord}
use Rattle.rules.specs.declared.FrameRecord.{FrameRecord}
use Rattle.rules.specs.declared.PageRecord.{PageRecord}
use Rattle.rules.specs.declared.Registers.{Registers}
use Rattle.core_tables.specs.Words.{domain_in, life_in, life_word, context_in, activity_in, activity_word, frame_in, names_in}
use Rattle.core_tables.specs.Words.{names_word, page_in, mapping_in, mapping_word, place_in, home_word, sign_word}

-- where each table starts, and how many words there are
abbrev pub max_entries : ℕ
max_entries = max_domains * max_pages

abbrev pub domains_at : ℕ
domains_at = 0

abbrev pub contexts_at : ℕ
contexts_at = domains_at + max_domains

abbrev pub frames_at : ℕ
frames_at = contexts_at + max_contexts

abbrev pub mapped_at : ℕ
mapped_at = frames_at + max_frames

abbrev pub home_at : ℕ
home_at = mapped_at + max_entries

abbrev pub sign_at : ℕ
sign_at = home_at + max_entries

abbrev pub used_at : ℕ
used_at = sign_at + max_entries

abbrev pub image_words : ℕ
image_words = used_at + 1

-- the word at a place
abbrev pub word_at : List ℕ → ℕ → ℕ
word_at x i = get_or x i 0

-- n records, by their numbers, from k on
unfoldable pub table : {A : Type 0} → (ℕ → A) → ℕ → ℕ → List A
table record-at k zero = []
table record-at k (suc n) = record-at k ∷ table record-at (suc k) n

-- the records that words hold, by their numbers; v pages are each domain's
abbrev pub domain_at : List ℕ → ℕ → DomainRecord
domain_at x i = domain_in (word_at x (domains_at + i))

abbrev pub context_at : List ℕ → ℕ → ContextRecord
context_at x i = context_in (word_at x (contexts_at + i))

abbrev pub frame_at : ℕ → List ℕ → ℕ → FrameRecord
frame_at v x i = frame_in v (word_at x (frames_at + i))

abbrev pub page_at : List ℕ → ℕ → PageRecord
page_at x i = page_in (word_at x (mapped_at + i)) (word_at x (home_at + i)) (word_at x (sign_at + i))

unfoldable pub tables_in : ℕ → List ℕ → Tables
tables_in v x =
    tables (table (domain_at x) 0 max_domains) (table (context_at x) 0 max_contexts) (table (page_at x) 0 max_entries)
    (table (frame_at v x) 0 max_frames)
    (word_at x used_at)

-- eight saved registers for each of n contexts; those of the contexts past n are zero
unfoldable pub registers_in : ℕ → ℕ → List ℕ → List Registers
registers_in k zero y = []
registers_in k (suc n) y = record { words = take 8 (drop k y) } ∷ registers_in (8 + k) n y

unfoldable pub saved_in : ℕ → List ℕ → List Registers
saved_in n y = registers_in 0 n y ++ replicate (max_contexts - n) zero_registers

abbrev pub state_in : Setup → List ℕ → List ℕ → State
state_in s x y = record { tables = tables_in s.pages x; saved = saved_in s.contexts y }

-- the machine under way
abbrev pub machine_in : Setup → List ℕ → List ℕ → List ℕ → List ℕ → ℕ → ℕ → Machine
machine_in s x y frames store seals unveils =
    underway (tables_in s.pages x) (saved_in s.contexts y) frames store seals unveils

-- the words of tables
unfoldable pub image_of : ℕ → Tables → List ℕ
image_of v t =
    map (λ (r : DomainRecord). life_word r.life) t.domains
    ++ (map (λ (r : ContextRecord). activity_word r.activity) t.contexts
    ++ (map (λ (r : FrameRecord). names_word v r.names) t.frames
    ++ (map (λ (r : PageRecord). mapping_word r.mapping) t.pages
    ++ (map (λ (r : PageRecord). home_word r.place) t.pages
    ++ (map (λ (r : PageRecord). sign_word r.place) t.pages ++ (t.used ∷ []))))))

-- the words of the saved registers of n contexts
unfoldable pub saved_words : ℕ → List Registers → List ℕ
saved_words zero saved = []
saved_words (suc n) [] = []
saved_words (suc n) (r ∷ saved) = r.words ++ saved_words n saved

-- the words are the image of the tables that they hold, as a test
unfoldable pub canonical : ℕ → List ℕ → Bool
canonical v x = same_bytes x (image_of v (tables_in v x))

-- and word by word
pub record Canonical (v : ℕ) (x : List ℕ) : Type 0 where
  pub domains : (i : ℕ) → i < max_domains → life_word (life_in (word_at x (domains_at + i))) ≡ word_at x (domains_at + i)
  pub contexts : (i : ℕ) → i < max_contexts → activity_word (activity_in (word_at x (contexts_at + i))) ≡ word_at x (contexts_at + i)
  pub frames : (i : ℕ) → i < max_frames → names_word v (names_in v (word_at x (frames_at + i))) ≡ word_at x (frames_at + i)
  pub mapped : (i : ℕ) → i < max_entries → mapping_word (mapping_in (word_at x (mapped_at + i))) ≡ word_at x (mapped_at + i)
  pub home : (i : ℕ) → i < max_entries → home_word (place_in (word_at x (home_at + i)) (word_at x (sign_at + i))) ≡ word_at x (home_at + i)
  pub sign : (i : ℕ) → i < max_entries → sign_word (place_in (word_at x (home_at + i)) (word_at x (sign_at + i))) ≡ word_at x (sign_at + i)
