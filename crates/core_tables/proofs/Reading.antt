-- What stands in the tables of an image at each number, and how long the tables are.
use mathlib.Core.Path.{◌≡◌, refl, ap, ◌∙◌}
use mathlib.Core.List.{List}
use Prim.Native.Nat.{ℕ, ◌<◌}
use native.Mathlib.Nat.{zero-add}
use lib.ListN.{length, get_or}
use Rattle.rules.specs.Sizes.{max_domains, max_contexts, max_frames}
use Rattle.rules.specs.Records.{empty_domain, free_context, open_frame, public_page}
use Rattle.core_tables.specs.Image.{used_at, max_entries, word_at, domain_at, context_at, frame_at, page_at, tables_in}
use Rattle.core_tables.proofs.Sections.{length_table, get_d_table}

module _ (v : ℕ) (x : List ℕ) (i : ℕ) where
  pub domain_there : i < max_domains → get_or (tables_in v x).domains i empty_domain ≡ domain_at x i
  unfolding tables_in
  domain_there h = get_d_table (domain_at x) 0 max_domains i empty_domain h ∙ ap (domain_at x) (zero-add i)

  pub context_there : i < max_contexts → get_or (tables_in v x).contexts i free_context ≡ context_at x i
  unfolding tables_in
  context_there h = get_d_table (context_at x) 0 max_contexts i free_context h ∙ ap (context_at x) (zero-add i)

  pub frame_there : i < max_frames → get_or (tables_in v x).frames i open_frame ≡ frame_at v x i
  unfolding tables_in
  frame_there h = get_d_table (frame_at v x) 0 max_frames i open_frame h ∙ ap (frame_at v x) (zero-add i)

  pub page_there : i < max_entries → get_or (tables_in v x).pages i public_page ≡ page_at x i
  unfolding tables_in
  page_there h = get_d_table (page_at x) 0 max_entries i public_page h ∙ ap (page_at x) (zero-add i)

pub used_there : (v : ℕ) (x : List ℕ) → (tables_in v x).used ≡ word_at x used_at
unfolding tables_in
used_there v x = refl

-- the tables are as long as their type says, whatever the words
pub record Long (v : ℕ) (x : List ℕ) : Type 0 where
  pub domains : length (tables_in v x).domains ≡ max_domains
  pub contexts : length (tables_in v x).contexts ≡ max_contexts
  pub pages : length (tables_in v x).pages ≡ max_entries
  pub frames : length (tables_in v x).frames ≡ max_frames

pub long : (v : ℕ) (x : List ℕ) → Long v x
unfolding tables_in
long v x =
    record {
      domains = length_table (domain_at x) 0 max_domains;
      contexts = length_table (context_at x) 0 max_contexts;
      pages = length_table (page_at x) 0 max_entries;
      frames = length_table (frame_at v x) 0 max_frames;
    }
