-- By whether the page is Clear: any other place stays as it is.
use native.Mathlib.Omega.{arith}
use Rattle.core_tables.specs.Words.{PlaceFits, sign_word}
use Rattle.core_events_application.proofs.Touching.{dirty_none, dirty_clear}
use Rattle.core_events_application.proofs.pages.mark_dirty.Goals as goal

pub returns-in_default : goal.returns-in_default
returns-in_default c =
    λ v. dirty_none v _ _ _ (c.place_at-place.ensures v) c.in_default.not-Clear

pub put_place-requires : goal.put_place-requires
unfolding PlaceFits sign_word
put_place-requires c =
    let p = c.requires in (p.0, p.1, omega arith)

pub returns : goal.returns
returns c =
    λ v. dirty_clear v _ _ _ (c.place_at-place.ensures v) _ _ c.in-Clear.is (c.put_place.ensures v)
