-- The sizes of a setup in range, as facts, with the number of pages.
use mathlib.Core.Path.{◌≡◌}
use mathlib.Core.Bool.{true}
use Prim.Native.Nat.{◌*◌, ◌≤◌}
use native.Mathlib.Nat.{mul-le-mul}
use Rattle.rules.specs.Sizes.{setup_in_range, max_domains, max_pages, max_contexts, max_frames, max_signatures}
use Rattle.rules.specs.declared.Setup.{Setup}
use Rattle.rules.proofs.Facts.{limited, passed}
use Rattle.core_tables.specs.Image.{max_entries}

pub record Room (s : Setup) : Type 0 where
  pub domains : s.domains ≤ max_domains
  pub some_pages : 1 ≤ s.pages
  pub pages : s.pages ≤ max_pages
  pub contexts : s.contexts ≤ max_contexts
  pub frames : s.frames ≤ max_frames
  pub signatures : s.signatures ≤ max_signatures
  pub all : s.domains * s.pages ≤ max_entries

pub room : (s : Setup) → setup_in_range s ≡ true → Room s
room s e =
    let z = limited s (passed _ e) in
    record {
      domains = z.domains;
      some_pages = z.some_pages;
      pages = z.pages;
      contexts = z.contexts;
      frames = z.frames;
      signatures = z.signatures;
      all = mul-le-mul z.domains z.pages;
    }
