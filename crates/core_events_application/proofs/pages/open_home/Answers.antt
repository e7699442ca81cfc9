-- By whether the page is Clear: then its frame is one of the setup's.
use native.Mathlib.Omega.{arith}
use Rattle.rules.proofs.Parts.{part_fits}
use Rattle.core_tables.specs.Words.{NamesFit}
use Rattle.core_events_application.proofs.Uncloaking.{opened_none, opened_clear}
use Rattle.core_events_application.proofs.pages.open_home.Goals as goal

pub returns-in_default : goal.returns-in_default
returns-in_default c =
    opened_none _ _ _ _ c.in_default.not-Clear

pub zero_page-requires : goal.zero_page-requires
zero_page-requires c =
    let p = c.requires in
    part_fits _ _ _ (p.home _ _ c.in-Clear.is) p.frames_long

pub put_names-requires : goal.put_names-requires
unfolding NamesFit
put_names-requires c =
    let p = c.requires in (
      p.words_long,
      p.limited.some_pages,
      p.limited.pages,
      omega (arith, p.home _ _ c.in-Clear.is, p.limited.frames),
      tt,
    )

pub returns : goal.returns
returns c =
    opened_clear _ _ _ _ _ _ c.in-Clear.is c.zero_page.ensures c.put_names.ensures
