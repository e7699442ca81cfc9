-- The context's domain is one of the setup's, and so the page's number is within the tables.
use Rattle.core_tables.proofs.Homes.{home}
use Rattle.core_events_application.proofs.pages.own_page.Goals as goal

pub page_number-number-requires : goal.page_number-number-requires
page_number-number-requires c =
    let own = home _ _ c.requires.tested.limited c.requires.tested.agreed c.args.c c.requires.context in
    (c.requires.tested.limited, rw (c.domain-domain.ensures, c.activity_at-activity.ensures c.args.setup.pages) own, c.requires.page)

pub returns : goal.returns
returns c =
    let v = c.args.setup.pages in
    rw (
      c.unwrap_or.ensures,
      c.mapping_at-mapping.ensures v,
      c.page_number-number.ensures.is,
      c.domain-domain.ensures,
      c.activity_at-activity.ensures v,
    )
