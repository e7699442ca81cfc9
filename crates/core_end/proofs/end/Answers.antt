-- `end` meets its contract: bytes and words are each what their own function leaves.
use Rattle.core_end.proofs.Named.{named_fit}
use Rattle.core_end.proofs.Turns.{all_ended}
use Rattle.core_end.proofs.end.Goals as goal

pub zero_frames-requires : goal.zero_frames-requires
zero_frames-requires c =
    let p = c.requires in
    let t = p.tested in
    (t.long, t.limited.some_pages, t.limited.pages, t.canonical, named_fit _ _ _ _ t.agreed p.frames_long)

pub returns : goal.returns
returns c =
    let a = c.args in
    let v = a.setup.pages in
    all_ended a.setup _ _ _ _ a.saved.now _ c.zero_frames.ensures
    c.zero_page.ensures
    (c.clear_saved.ensures v)
    (c.free_contexts.ensures v)
    c.open_frames.ensures
    (c.publish_pages.ensures v)
    (c.put_life.ensures v)
