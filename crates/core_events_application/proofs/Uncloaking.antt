-- Kind 10, uncloak, where it is granted: what the code asks is given, and what the rules leave, by the place that the page had.
use Rattle.std.specs.Prelude.{None}
use mathlib.Core.Path.{◌≡◌, refl, sym, ap, ◌∙◌}
use mathlib.Core.List.{List}
use Prim.Native.Nat.{ℕ, ◌+◌, ◌*◌, ◌≤◌, ◌<◌}
use native.Mathlib.Omega.{arith}
use lib.ListN.{length, get_or}
use Rattle.rules.specs.Bytes.{with_part, zeros, overlay}
use Rattle.rules.specs.Records.{Machine, underway, public_page, domain_of, place_of, on_tables, with_place, fill_slot}
use Rattle.rules.specs.Sealing.{seal_all, done}
use Rattle.rules.specs.Events.{numbers_in, row, acting, does, uncloaked, zero_if_clear}
use Rattle.rules.specs.Answers.{perform, performed}
use Rattle.rules.specs.declared.Setup.{Setup}
use Rattle.rules.specs.declared.Tables.{Tables}
use Rattle.rules.specs.declared.Gppn.{Gppn}
use Rattle.rules.specs.declared.Gvpn.{Gvpn}
use Rattle.rules.specs.declared.Ctc.{Ctc}
use Rattle.rules.specs.declared.Wear.{Wear}
use Rattle.rules.specs.declared.Place.{Place}
use Rattle.rules.specs.declared.Place.TheVariants.{Public, Clear, Sealed}
use Rattle.rules.specs.declared.Event.TheVariants.{Uncloak}
use Rattle.core_tables.specs.Words.{PlaceFits, sign_word}
use Rattle.core_tables.specs.Image.{image_words, max_entries, tables_in, saved_in}
use Rattle.core_tables.specs.Put.{Put, set_page, set_names}
use Rattle.core_seal.proofs.Steps.{NotClear}
use Rattle.core_answer.specs.declared.lent.Given.{Given}
use Rattle.core_answer.specs.Handed.{Handed, machine_in, refuses, stepped, ends}
use Rattle.core_answer.specs.Lending.{handed_with}
use Rattle.core_answer.proofs.Laws.{was_accepted, granted_leaves}
use Rattle.core_events_application.specs.OwnPages.{Owned, own_of, Openable, Opened}
use Rattle.core_events_application.specs.declared.pages.Own.{Own}
use Rattle.core_events_application.proofs.OwnPages.{owned, domain_in_holds, own_number, slot_fits}

-- the frame in which a page is Clear, if it is
module _ (s : Setup) (words frames : List ℕ) where
  stays : (p : Place) → NotClear p → (m : Machine) → m ≡ zero_if_clear s p m
  unfolding zero_if_clear
  stays Public o m = refl
  stays (Clear h w) o m = absurd (o h w refl)
  stays (Sealed k) o m = refl

  pub opened_none : (p : Place) → NotClear p → Opened s p words frames words frames
  opened_none p o = record { is = λ z store. stays p o _; canonical = λ h. h }

  pub opened_clear : (p : Place) (f : Gppn) (w : Wear) {y after : List ℕ} → p ≡ Clear f w
      → after ≡ with_part s.size f.0 (zeros s.size) frames
      → Put s.pages words y (set_names f.0 None (tables_in s.pages words)) → Opened s p words frames y after
  unfolding zero_if_clear
  opened_clear p f w clear zeroed named =
      record { is = λ z store. rw (clear, zeroed, named.tables); canonical = named.canonical }

module _ (g : Given) (words saved frames store buffer : List ℕ) (c : Ctc) (v : Gvpn) where
  abbrev event : Handed
  event = handed_with g words saved frames store buffer (Uncloak c v)

  module _ (none : refuses event ≡ 0) where
    pub uncloak_owned : Owned g.setup words c v
    unfolding numbers_in
    uncloak_owned = owned event c v refl none

    module _ (o : Own) (is : o ≡ own_of g.setup (tables_in g.setup.pages words) c v) where
      pub uncloak_listed : o.number < max_entries
      unfolding numbers_in
      uncloak_listed = (own_number event c v refl none o is).listed

      pub uncloak_slot : {n : ℕ} → n ≡ length store → o.number * g.setup.size + g.setup.size ≤ n
      unfolding numbers_in
      uncloak_slot e = slot_fits event c v refl none o is e

      pub uncloak_puts : {n : ℕ} → n ≡ length words → (n ≡ image_words) × (o.number < max_entries) × PlaceFits Public
      unfolding PlaceFits sign_word
      uncloak_puts e = (omega (arith, uncloak_owned.tested.long), uncloak_listed, omega arith)

      -- the page's place, as it was read
      module _ (p : Place) (at : p ≡ (get_or (tables_in g.setup.pages words).pages o.number public_page).place) where
        place_own : p ≡ place_of g.setup (tables_in g.setup.pages words) (domain_of (tables_in g.setup.pages words) c) v
        place_own = rw is at at

        pub uncloak_opens : Openable g.setup words frames p
        unfolding numbers_in
        uncloak_opens =
            let t = uncloak_owned.tested in
            record {
              limited = t.limited;
              words_long = t.long;
              frames_long = (was_accepted event none).looks.frames;
              home =
                  λ f w e.
                  (t.agreed.named _ v f w (rw is at (domain_in_holds event c v refl none o is)) uncloak_owned.page
                  (sym place_own ∙ e)).0;
            }

        pub uncloak_leaves : {y z bytes slots : List ℕ} → Opened g.setup p words frames y bytes
            → slots ≡ with_part g.setup.size o.number (zeros g.setup.size) store
            → Put g.setup.pages y z
            (set_page o.number
            (record { mapping = (get_or (tables_in g.setup.pages y).pages o.number public_page).mapping; place = Public })
            (tables_in g.setup.pages y))
            → ends g.setup 0 (underway (tables_in g.setup.pages z) (saved_in g.setup.contexts saved) bytes slots 0 0) buffer
            ≡ stepped event
        unfolding perform performed row acting seal_all does done uncloaked overlay
        uncloak_leaves opened zeroed put =
            let t : Tables = tables_in g.setup.pages words in
            let own = domain_of t c in
            let public : Machine → Machine =
            λ m. on_tables (with_place g.setup own v Public) (fill_slot g.setup own v (zeros g.setup.size) m) in
            rw (put.tables, zeroed, is)
            (ap (λ (m : Machine). ends g.setup 0 (public m) buffer)
            (opened.is (saved_in g.setup.contexts saved) store
            ∙ ap (λ (q : Place). zero_if_clear g.setup q (machine_in event)) place_own)
            ∙ sym (granted_leaves event none))
