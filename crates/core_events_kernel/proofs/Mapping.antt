-- Kinds 2 and 3, map and unmap, where they are granted: what the code asks is given, and what the rules leave.
use Rattle.std.specs.Prelude.{Option, Some, None}
use mathlib.Core.Path.{◌≡◌, sym, ◌∙◌}
use mathlib.Core.List.{List}
use Prim.Native.Nat.{ℕ, ◌<◌}
use lib.ListN.{get_or}
use lib.Dec.{T, ltb→lt}
use Rattle.rules.specs.Bytes.{overlay}
use Rattle.rules.specs.Sizes.{domain_in, page_in}
use Rattle.rules.specs.Records.{public_page}
use Rattle.rules.specs.Sealing.{seal_all, done}
use Rattle.rules.specs.Events.{numbers_in, row, on_records, does}
use Rattle.rules.specs.Answers.{perform, performed}
use Rattle.rules.specs.Asked.{Limited, Numbered}
use Rattle.rules.proofs.Facts.{each}
use Rattle.rules.specs.declared.Tables.{Tables}
use Rattle.rules.specs.declared.Asid.{Asid}
use Rattle.rules.specs.declared.Gvpn.{Gvpn}
use Rattle.rules.specs.declared.Gppn.{Gppn}
use Rattle.rules.specs.declared.Event.{Event}
use Rattle.rules.specs.declared.Event.TheVariants.{Map, Unmap}
use Rattle.rules.specs.declared.Answer.{Answer}
use Rattle.core_tables.specs.Image.{tables_in}
use Rattle.core_tables.specs.Put.{Put, set_page}
use Rattle.core_answer.specs.declared.lent.Given.{Given}
use Rattle.core_answer.specs.Handed.{Handed, left, refuses, stepped}
use Rattle.core_answer.specs.Lending.{handed_with}
use Rattle.core_answer.specs.Promises.{Tells}
use Rattle.core_answer.proofs.Laws.{found, was_accepted, was_granted, granted_leaves}

-- page record n with another mapping
abbrev remapped : ℕ → Option Gppn → Tables → Tables
remapped n x t = set_page n (record { mapping = x; place = (get_or t.pages n public_page).place }) t

module _ (g : Given) (words saved frames store buffer : List ℕ) (d : Asid) (v : Gvpn) where
  abbrev with_event : Event → Handed
  with_event e = handed_with g words saved frames store buffer e

  page_numbered : (e : Event) → refuses (with_event e) ≡ 0 → T (domain_in g.setup d) → T (page_in g.setup v)
      → (Limited g.setup) × (d.0 < g.setup.domains) × (v.0 < g.setup.pages)
  unfolding domain_in page_in
  page_numbered e none hd hv =
      ((was_accepted _ none).looks.sizes, ltb→lt d.0 g.setup.domains hd, ltb→lt v.0 g.setup.pages hv)

  -- 2, map
  module _ (f : Gppn) (none : refuses (with_event (Map d v f)) ≡ 0) where
    pub map_numbered : (Limited g.setup) × (d.0 < g.setup.domains) × (v.0 < g.setup.pages)
    unfolding numbers_in
    map_numbered = let n = each _ (was_granted _ none).numbers in page_numbered (Map d v f) none n.0 n.1.0

    pub map_steps : {r : Answer} {n : ℕ} (after : List ℕ) → Numbered g.setup d v n
        → ((k : ℕ) → Put k words after (remapped n (Some f) (tables_in k words))) → Tells after 0 0 0 r
        → left r after saved frames store buffer ≡ stepped (with_event (Map d v f))
    unfolding perform performed row on_records seal_all does done overlay
    map_steps after n put tells =
        let was = found _ none in
        let p = put g.setup.pages in
        tells g.setup saved frames store buffer (p.canonical was.canonical) was.saved_long
        ∙ rw (p.tables, n.is) (sym (granted_leaves (with_event (Map d v f)) none))

  -- 3, unmap
  module _ (none : refuses (with_event (Unmap d v)) ≡ 0) where
    pub unmap_numbered : (Limited g.setup) × (d.0 < g.setup.domains) × (v.0 < g.setup.pages)
    unfolding numbers_in
    unmap_numbered = let n = each _ (was_granted _ none).numbers in page_numbered (Unmap d v) none n.0 n.1.0

    pub unmap_steps : {r : Answer} {n : ℕ} (after : List ℕ) → Numbered g.setup d v n
        → ((k : ℕ) → Put k words after (remapped n None (tables_in k words))) → Tells after 0 0 0 r
        → left r after saved frames store buffer ≡ stepped (with_event (Unmap d v))
    unfolding perform performed row on_records seal_all does done overlay
    unmap_steps after n put tells =
        let was = found _ none in
        let p = put g.setup.pages in
        tells g.setup saved frames store buffer (p.canonical was.canonical) was.saved_long
        ∙ rw (p.tables, n.is) (sym (granted_leaves (with_event (Unmap d v)) none))
