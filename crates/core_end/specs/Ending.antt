-- What end does to one record, by name: the rules have these as functions of the record in place.
use Rattle.std.specs.Prelude.{List, cond, ◌≡◌, ℕ, ◌+◌, ◌*◌, ◌≤◌, ◌<◌, T, get_or}
use Rattle.rules.specs.Sizes.{max_frames}
use Rattle.rules.specs.Records.{tables, free_context, open_frame, zero_registers, is_in, names_in}
use Rattle.rules.specs.declared.Setup.{Setup}
use Rattle.rules.specs.declared.Tables.{Tables}
use Rattle.rules.specs.declared.Asid.{Asid}
use Rattle.rules.specs.declared.ContextRecord.{ContextRecord}
use Rattle.rules.specs.declared.PageRecord.{PageRecord}
use Rattle.rules.specs.declared.FrameRecord.{FrameRecord}
use Rattle.rules.specs.declared.Registers.{Registers}
use Rattle.core_tables.specs.Tested.{Tested}

abbrev pub freed_of : Asid → ContextRecord → ContextRecord
freed_of d r = cond (is_in d r.activity) free_context r

abbrev pub opened_of : Asid → FrameRecord → FrameRecord
opened_of d r = cond (names_in d r.names) open_frame r

abbrev pub cleared_of : Asid → List ContextRecord → ℕ → Registers → Registers
cleared_of d contexts i r = cond (is_in d (get_or contexts i free_context).activity) zero_registers r

-- the tables with one table changed
abbrev pub with_contexts : List ContextRecord → Tables → Tables
with_contexts l t = tables t.domains l t.pages t.frames t.used

abbrev pub with_pages : List PageRecord → Tables → Tables
with_pages l t = tables t.domains t.contexts l t.frames t.used

abbrev pub with_frames : List FrameRecord → Tables → Tables
with_frames l t = tables t.domains t.contexts t.pages l t.used

-- a frame that names a page of domain d lies within the lent frames, n bytes
pub record NamedFit (s : Setup) (d : Asid) (named : List FrameRecord) (n : ℕ) : Type 0 where
  pub fits : (k : ℕ) → k < max_frames → T (names_in d (get_or named k open_frame).names) → k * s.size + s.size ≤ n

-- what end asks: tested tables, a domain of the setup, and lent memory of the lengths that the setup gives
pub record Endable (s : Setup) (d : Asid) (words : List ℕ) (saved frames store : ℕ) : Type 0 where
  pub tested : Tested s words
  pub domain : d.0 < s.domains
  pub saved_long : saved ≡ 8 * s.contexts
  pub frames_long : frames ≡ s.frames * s.size
  pub store_long : store ≡ s.domains * s.pages * s.size
