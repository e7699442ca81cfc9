-- What a function that writes the words leaves: the tables that they hold are changed so, and a canonical image stays
-- canonical.
use Rattle.std.specs.Prelude.{◌≡◌, List, ℕ, set, Option}
use Rattle.rules.specs.Records.{tables}
use Rattle.rules.specs.declared.Gvpn.{Gvpn}
use Rattle.rules.specs.declared.Asid.{Asid}
use Rattle.rules.specs.declared.Tables.{Tables}
use Rattle.rules.specs.declared.PageRecord.{PageRecord}
use Rattle.rules.specs.declared.Life.{Life}
use Rattle.rules.specs.declared.Activity.{Activity}
use Rattle.core_tables.specs.Image.{tables_in, Canonical}

-- one record changed, by its number
abbrev pub set_page : ℕ → PageRecord → Tables → Tables
set_page i r t = tables t.domains t.contexts (set t.pages i r) t.frames t.used

abbrev pub set_names : ℕ → Option (Asid × Gvpn) → Tables → Tables
set_names i r t = tables t.domains t.contexts t.pages (set t.frames i (record { names = r })) t.used

abbrev pub set_life : ℕ → Life → Tables → Tables
set_life i r t = tables (set t.domains i (record { life = r })) t.contexts t.pages t.frames t.used

abbrev pub set_activity : ℕ → Activity → Tables → Tables
set_activity i r t =
    tables t.domains (set t.contexts i (record { activity = r })) t.pages t.frames t.used

abbrev pub set_used : ℕ → Tables → Tables
set_used n t = tables t.domains t.contexts t.pages t.frames n

-- words y hold these tables; x is what they were
pub record Put (v : ℕ) (x y : List ℕ) (t : Tables) : Type 0 where
  pub tables : tables_in v y ≡ t
  pub canonical : Canonical v x → Canonical v y
