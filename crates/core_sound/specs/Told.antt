-- What the loops over the words tell: a number is 0 where, and only where, each word passed is right.
use Rattle.std.specs.Prelude.{◌≡◌, List, ℕ, ◌+◌, ◌*◌, ◌≤◌, ◌<◌, get_or}
use Rattle.rules.specs.declared.Setup.{Setup}
use Rattle.rules.specs.Sizes.{max_domains, max_contexts, max_frames}
use Rattle.core_tables.specs.Image.{domains_at, contexts_at, frames_at, mapped_at, home_at, sign_at, used_at, max_entries, word_at}

-- r is 0 where P, and only there
pub record Tells (P : Type 0) (r : ℕ) : Type 0 where
  pub holds : r ≡ 0 → P
  pub zero : P → r ≡ 0

-- each number from a to e is right
abbrev pub Each : (ℕ → Type 0) → ℕ → ℕ → Type 0
Each P a e = (k : ℕ) → a ≤ k → k < e → P k

-- a table: so many words that are at most top, and zeros to the end of its room
pub record Section (x : List ℕ) (start count room top : ℕ) : Type 0 where
  pub below : (i : ℕ) → i < count → word_at x (start + i) ≤ top
  pub past : (i : ℕ) → count ≤ i → i < room → word_at x (start + i) ≡ 0

-- frame f names no page, or one that is Clear in it
abbrev pub NamesHome : List ℕ → ℕ → Type 0
NamesHome x f = (k : ℕ) → word_at x (frames_at + f) ≡ 1 + k → word_at x (home_at + k) ≡ 1 + f

-- page i is Clear in no frame, or in one of n that names it
abbrev pub HomeNames : ℕ → List ℕ → ℕ → Type 0
HomeNames n x i = (f : ℕ) → word_at x (home_at + i) ≡ 1 + f → (f < n) × (word_at x (frames_at + f) ≡ 1 + i)

-- held has for each page, counted from 1, one more than a frame of the first n that names it, or 0 where there is none
pub record Holds (x : List ℕ) (n : ℕ) (held : List ℕ) : Type 0 where
  pub named : (j f : ℕ) → get_or held j 0 ≡ 1 + f → (f < n) × (word_at x (frames_at + f) ≡ j)
  pub found : (f : ℕ) → f < n → get_or held (word_at x (frames_at + f)) 0 ≡ 0 → ⊥

pub record BothWays (x : List ℕ) (frames pages : ℕ) : Type 0 where
  pub names : (f : ℕ) → f < frames → NamesHome x f
  pub homes : (i : ℕ) → i < pages → HomeNames frames x i

-- no context is in domain d, and its v pages are as freshly started
pub record Bare (v : ℕ) (x : List ℕ) (d : ℕ) : Type 0 where
  pub contexts : (i : ℕ) → i < max_contexts → 3 * d < word_at x (contexts_at + i) → word_at x (contexts_at + i) ≤ 3 * d + 3 → ⊥
  pub mapped : (i : ℕ) → i < v → word_at x (mapped_at + (d * v + i)) ≡ 0
  pub home : (i : ℕ) → i < v → word_at x (home_at + (d * v + i)) ≡ 0
  pub sign : (i : ℕ) → i < v → word_at x (sign_at + (d * v + i)) ≡ 0

-- page i is as freshly started
pub record Untouched (x : List ℕ) (i : ℕ) : Type 0 where
  pub mapped : word_at x (mapped_at + i) ≡ 0
  pub home : word_at x (home_at + i) ≡ 0
  pub sign : word_at x (sign_at + i) ≡ 0

-- what is tested before a word is used as an index: the other tables' words, and the pages past the sizes
pub record Early (s : Setup) (x : List ℕ) : Type 0 where
  pub domains : Section x domains_at s.domains max_domains 2
  pub contexts : Section x contexts_at s.contexts max_contexts (3 * s.domains)
  pub frames : Section x frames_at s.frames max_frames (s.domains * s.pages)
  pub past : Each (Untouched x) (s.domains * s.pages) max_entries
  pub used : word_at x used_at ≤ s.signatures

-- page i's words are at most so many frames and signatures, and its home is held's
pub record Kept (x held : List ℕ) (frames i : ℕ) : Type 0 where
  pub mapped : word_at x (mapped_at + i) ≤ frames
  pub home : word_at x (home_at + i) ≡ get_or held (1 + i) 0
  pub sign : word_at x (sign_at + i) ≤ word_at x used_at

-- the pages and the frames: the pages' words in range, and both ways
pub record Late (x : List ℕ) (frames pages : ℕ) : Type 0 where
  pub ways : BothWays x frames pages
  pub mapped : (i : ℕ) → i < pages → word_at x (mapped_at + i) ≤ frames
  pub sign : (i : ℕ) → i < pages → word_at x (sign_at + i) ≤ word_at x used_at

pub record Ranged (s : Setup) (x : List ℕ) : Type 0 where
  pub domains : Section x domains_at s.domains max_domains 2
  pub contexts : Section x contexts_at s.contexts max_contexts (3 * s.domains)
  pub frames : Section x frames_at s.frames max_frames (s.domains * s.pages)
  pub mapped : Section x mapped_at (s.domains * s.pages) max_entries s.frames
  pub home : (i : ℕ) → s.domains * s.pages ≤ i → i < max_entries → word_at x (home_at + i) ≡ 0
  pub sign : Section x sign_at (s.domains * s.pages) max_entries (word_at x used_at)
  pub used : word_at x used_at ≤ s.signatures

pub record Right (s : Setup) (x : List ℕ) : Type 0 where
  pub ranged : Ranged s x
  pub ways : BothWays x s.frames (s.domains * s.pages)
  pub empty : (d : ℕ) → d < s.domains → word_at x (domains_at + d) ≡ 0 → Bare s.pages x d
