-- A context's own page, where an event on it is granted: its domain, its number and the frame that it is mapped to are within the
-- setup, and so within the tables and the lent bytes.
use mathlib.Core.Path.{◌≡◌}
use mathlib.Core.List.{[], ◌∷◌}
use Prim.Native.Nat.{ℕ, ◌+◌, ◌*◌, ◌≤◌, ◌<◌}
use native.Mathlib.Omega.{arith}
use lib.ListN.{length}
use lib.Dec.{ltb→lt}
use Rattle.rules.specs.Bytes.{all_of}
use Rattle.rules.specs.Sizes.{max_frames, context_in, page_in}
use Rattle.rules.specs.Asked.{Numbered}
use Rattle.rules.specs.Events.{numbers_in, row, own_frame, own_mapped}
use Rattle.rules.proofs.Facts.{each, passes}
use Rattle.rules.proofs.PageNumbers.{numbered}
use Rattle.rules.proofs.Parts.{part_fits}
use Rattle.rules.specs.declared.Tables.{Tables}
use Rattle.rules.specs.declared.Gvpn.{Gvpn}
use Rattle.rules.specs.declared.Ctc.{Ctc}
use Rattle.core_tables.specs.Image.{tables_in}
use Rattle.core_tables.proofs.Homes.{home, own_frame_holds}
use Rattle.core_seal.specs.declared.Work.{Work}
use Rattle.core_answer.specs.Handed.{Handed, refuses}
use Rattle.core_answer.proofs.Laws.{was_accepted, was_granted, was_tested}
use Rattle.core_events_application.specs.OwnPages.{Owned, own_of}
use Rattle.core_events_application.specs.declared.pages.Own.{Own}

-- the work at the outset: nothing is sealed or unveiled yet
abbrev pub outset : Work
outset = record { seals = 0; unveils = 0 }

abbrev pub tables_of : Handed → Tables
tables_of h = tables_in h.setup.pages h.tables

-- an event of context c's on its page v, whatever it asks besides
module _ (h : Handed) (c : Ctc) (v : Gvpn)
    (numbers : numbers_in h.setup h.event ≡ all_of (context_in h.setup c ∷ page_in h.setup v ∷ []))
    (none : refuses h ≡ 0) where
  pub owned : Owned h.setup h.tables c v
  unfolding context_in page_in
  owned =
      let within = each _ (rw numbers at (was_granted h none).numbers) in
      record {
        tested = was_tested h none;
        context = ltb→lt c.0 h.setup.contexts within.0;
        page = ltb→lt v.0 h.setup.pages within.1.0;
      }

  -- what was read of it
  module _ (o : Own) (is : o ≡ own_of h.setup (tables_of h) c v) where
    pub domain_in_holds : o.domain.0 < h.setup.domains
    domain_in_holds = let t = owned.tested in rw is (home _ _ t.limited t.agreed c owned.context)

    pub own_number : Numbered h.setup o.domain v o.number
    own_number = rw is (numbered _ _ v owned.tested.limited (rw is at domain_in_holds) owned.page)

    pub slot_fits : {n : ℕ} → n ≡ length h.store → o.number * h.setup.size + h.setup.size ≤ n
    slot_fits e =
        omega (
          arith,
          part_fits h.setup.size o.number (h.setup.domains * h.setup.pages) own_number.slot
              (was_accepted h none).looks.store,
        )

    -- where it needs a mapping
    module _ (mapped : (row h.setup (tables_of h) h.event).mapped ≡ own_mapped h.setup (tables_of h) c v) where
      pub frame_in_holds : o.frame.0 < h.setup.frames
      unfolding own_frame
      frame_in_holds =
          let t = owned.tested in
          rw is
          (own_frame_holds _ _ t.limited t.agreed c v owned.context owned.page
          (passes _ (rw mapped at (was_granted h none).mapped)))

      pub frame_listed : o.frame.0 < max_frames
      frame_listed = omega (arith, frame_in_holds, owned.tested.limited.frames)

      pub frame_fits : {n : ℕ} → n ≡ length h.frames → o.frame.0 * h.setup.size + h.setup.size ≤ n
      frame_fits e =
          omega (
            arith,
            part_fits h.setup.size o.frame.0 h.setup.frames frame_in_holds (was_accepted h none).looks.frames,
          )
