-- Kind 9, cloak, where it is granted: what the code asks is given, and what the rules leave.
use Rattle.std.specs.Prelude.{Some}
use mathlib.Core.Path.{◌≡◌, refl, sym}
use mathlib.Core.List.{List}
use Prim.Native.Nat.{ℕ, ◌+◌, ◌*◌, ◌≤◌, ◌<◌}
use native.Mathlib.Omega.{arith}
use lib.ListN.{length, get_or}
use Rattle.rules.specs.Bytes.{with_part, zeros, overlay}
use Rattle.rules.specs.Sizes.{max_pages, max_frames}
use Rattle.rules.specs.Records.{Machine, underway, public_page}
use Rattle.rules.specs.Sealing.{seal, seal_all, done}
use Rattle.rules.specs.Events.{numbers_in, row, on_page, own_frame, does, cloaked}
use Rattle.rules.specs.Answers.{perform, performed}
use Rattle.rules.specs.declared.Tables.{Tables}
use Rattle.rules.specs.declared.Gvpn.{Gvpn}
use Rattle.rules.specs.declared.Ctc.{Ctc}
use Rattle.rules.specs.declared.Wear.TheVariants.{Dirty}
use Rattle.rules.specs.declared.Place.TheVariants.{Clear}
use Rattle.rules.specs.declared.Event.TheVariants.{Cloak}
use Rattle.core_tables.specs.Words.{PlaceFits, NamesFit, sign_word}
use Rattle.core_tables.specs.Image.{image_words, max_entries, tables_in, saved_in}
use Rattle.core_tables.specs.Put.{set_page, set_names}
use Rattle.core_seal.specs.Asked.{Sealable}
use Rattle.core_seal.proofs.Granted.{sealable}
use Rattle.core_answer.specs.declared.lent.Given.{Given}
use Rattle.core_answer.specs.Handed.{Handed, given_in, machine_in, refuses, stepped, ends}
use Rattle.core_answer.specs.Lending.{handed_with}
use Rattle.core_answer.proofs.Laws.{found, was_accepted, was_granted, granted_leaves}
use Rattle.core_events_application.specs.OwnPages.{Owned, own_of}
use Rattle.core_events_application.specs.declared.pages.Own.{Own}
use Rattle.core_events_application.proofs.OwnPages.{outset, owned, own_number, frame_in_holds, frame_listed, frame_fits}

module _ (g : Given) (words saved frames store buffer : List ℕ) (c : Ctc) (v : Gvpn) where
  abbrev event : Handed
  event = handed_with g words saved frames store buffer (Cloak c v)

  module _ (none : refuses event ≡ 0) where
    pub cloak_owned : Owned g.setup words c v
    unfolding numbers_in
    cloak_owned = owned event c v refl none

    module _ (o : Own) (is : o ≡ own_of g.setup (tables_in g.setup.pages words) c v) where
      pub cloak_seals : Sealable g.setup outset words frames store g.supply.now o.frame
      unfolding numbers_in row on_page own_frame
      cloak_seals =
          let r = found _ none in
          sealable (given_in event) outset (saved_in g.setup.contexts saved) words frames store
          r.tables_long r.canonical _ (was_accepted _ none) (frame_in_holds event c v refl none o is refl)
          (rw is (was_granted _ none).signatures) (omega arith)

      pub cloak_fits : {n : ℕ} → n ≡ length frames → o.frame.0 * g.setup.size + g.setup.size ≤ n
      unfolding numbers_in row on_page
      cloak_fits e = frame_fits event c v refl none o is refl e

      pub cloak_moves : {n : ℕ} → n ≡ length words
          → (n ≡ image_words) × (1 ≤ g.setup.pages) × (g.setup.pages ≤ max_pages) × (o.number < max_entries) × (o.frame.0 < max_frames)
          × PlaceFits (Clear o.frame Dirty) × NamesFit g.setup.pages (Some (o.domain, v))
      unfolding numbers_in row on_page PlaceFits NamesFit sign_word
      cloak_moves e =
          let t = cloak_owned.tested in (
            omega (arith, t.long),
            t.limited.some_pages,
            t.limited.pages,
            (own_number event c v refl none o is).listed,
            frame_listed event c v refl none o is refl,
            omega arith,
            cloak_owned.page,
          )

      pub cloak_leaves : (m : Machine) {bytes : List ℕ} {t : Tables}
          → m ≡ seal (given_in event) o.frame (machine_in event)
          → bytes ≡ with_part g.setup.size o.frame.0 (zeros g.setup.size) m.frames
          → t
          ≡ set_names o.frame.0 (Some (o.domain, v))
          (set_page o.number
          (record { mapping = (get_or m.tables.pages o.number public_page).mapping; place = Clear o.frame Dirty })
          m.tables)
          → ends g.setup 0 (underway t m.saved bytes m.store m.seals m.unveils) buffer ≡ stepped event
      unfolding perform performed row on_page seal_all does done cloaked own_frame overlay
      cloak_leaves m e b q = rw (q, b, e, is) (sym (granted_leaves event none))
