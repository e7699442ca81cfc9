-- What the setup asks to be lent is within the arrays that are.
use Rattle.std.proofs.Common.{sym, arith, length-take-le}
use Rattle.listing.proofs.Openings.{taken_saved, taken_pages, taken_frames, taken_store}
use Rattle.trace_run.proofs.list_records.Goals as goal

pub overflow_mul-saved_length : goal.overflow_mul-saved_length
overflow_mul-saved_length g c = omega (arith, taken_saved _ c.args.opened c.requires.0)

pub overflow_mul-frames_length : goal.overflow_mul-frames_length
overflow_mul-frames_length g c = omega (arith, taken_frames _ c.args.opened c.requires.0)

pub overflow_mul-store_length : goal.overflow_mul-store_length
overflow_mul-store_length g c = omega (arith, taken_pages _ c.args.opened c.requires.0)

pub overflow_mul-store_length-2 : goal.overflow_mul-store_length-2
overflow_mul-store_length-2 g c = omega (arith, taken_store _ c.args.opened c.requires.0)

pub slice_bounds-saved-end : goal.slice_bounds-saved-end
slice_bounds-saved-end g c = taken_saved _ c.args.opened c.requires.0

pub slice_bounds-lent-end-2 : goal.slice_bounds-lent-end-2
slice_bounds-lent-end-2 g c = sym (length-take-le _ _ (taken_saved _ c.args.opened c.requires.0))

pub slice_bounds-frames-end : goal.slice_bounds-frames-end
slice_bounds-frames-end g c = taken_frames _ c.args.opened c.requires.0

pub slice_bounds-lent-end-3 : goal.slice_bounds-lent-end-3
slice_bounds-lent-end-3 g c = sym (length-take-le _ _ (taken_frames _ c.args.opened c.requires.0))

pub slice_bounds-store-end : goal.slice_bounds-store-end
slice_bounds-store-end g c = taken_store _ c.args.opened c.requires.0

pub slice_bounds-lent-end-4 : goal.slice_bounds-lent-end-4
slice_bounds-lent-end-4 g c = sym (length-take-le _ _ (taken_store _ c.args.opened c.requires.0))
