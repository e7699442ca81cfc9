-- The image of all zeros is that of fresh tables, and is canonical.
use mathlib.Core.Path.{◌≡◌, refl}
use mathlib.Core.List.{List}
use Prim.Native.Nat.{ℕ, zero, suc, ◌+◌}
use lib.ListN.{get_or}
use Rattle.rules.specs.Bytes.{zeros}
use Rattle.rules.specs.Sizes.{max_domains, max_contexts, max_frames}
use Rattle.rules.specs.Records.{fresh_tables, empty_domain, free_context, open_frame, public_page}
use Rattle.core_tables.specs.Words.{life_in, life_word, activity_in, activity_word, names_in, names_word, mapping_in, mapping_word}
use Rattle.core_tables.specs.Words.{hidden_in, place_in, home_word, sign_word}
use Rattle.core_tables.specs.Image.{image_words, domains_at, contexts_at, frames_at, mapped_at, home_at, sign_at, used_at}
use Rattle.core_tables.specs.Image.{max_entries, domain_at, context_at, frame_at, page_at, tables_in, Canonical}
use Rattle.core_tables.proofs.Sections.{table_one}

pub get_d_zeros : (m k : ℕ) → get_or (zeros m) k 0 ≡ 0
unfolding zeros
get_d_zeros zero k = refl
get_d_zeros (suc m) zero = refl
get_d_zeros (suc m) (suc k) = get_d_zeros m k

-- words that are zero wherever one looks, however many they are
pub zero_tables : (v : ℕ) (x : List ℕ) → ((k : ℕ) → get_or x k 0 ≡ 0) → tables_in v x ≡ fresh_tables
unfolding tables_in life_in activity_in names_in mapping_in hidden_in place_in
zero_tables v x all =
    rw (
      table_one (domain_at x) empty_domain 0 max_domains (λ i a b. rw (all (domains_at + i))),
      table_one (context_at x) free_context 0 max_contexts (λ i a b. rw (all (contexts_at + i))),
      table_one (page_at x) public_page 0 max_entries (λ i a b. rw (all (mapped_at + i), all (home_at + i), all (sign_at + i))),
      table_one (frame_at v x) open_frame 0 max_frames (λ i a b. rw (all (frames_at + i))),
      all used_at,
    )

module _ (v : ℕ) (x : List ℕ) (e : x ≡ zeros image_words) where
  all : (k : ℕ) → get_or x k 0 ≡ 0
  all k = rw e (get_d_zeros image_words k)

  pub fresh_image : tables_in v x ≡ fresh_tables
  fresh_image = zero_tables v x all

  pub fresh_canonical : Canonical v x
  unfolding life_in life_word activity_in activity_word names_in names_word mapping_in mapping_word hidden_in place_in home_word sign_word
  fresh_canonical =
      record {
        domains = λ i h. rw (all (domains_at + i));
        contexts = λ i h. rw (all (contexts_at + i));
        frames = λ i h. rw (all (frames_at + i));
        mapped = λ i h. rw (all (mapped_at + i));
        home = λ i h. rw (all (home_at + i), all (sign_at + i));
        sign = λ i h. rw (all (home_at + i), all (sign_at + i));
      }
