use Rattle.std.proofs.Common.{◌∙◌}
use Rattle.std.proofs.lemmas.Result.{err_from_is_err_and}
use Rattle.listing.proofs.Openings.{too_long, setup_read, products_fit_holds, products_not, sizes_refused}
use Rattle.listing.proofs.opening.Goals as goal

pub returns-then-trace-gt-LIMIT : goal.returns-then-trace-gt-LIMIT
returns-then-trace-gt-LIMIT c = too_long c.args.trace.now c.if-trace-gt-LIMIT.true

pub returns-in_err-sizes : goal.returns-in_err-sizes
returns-in_err-sizes c =
    let p = err_from_is_err_and c.from_residual.result c.from_residual.ensures.1 in
    rw (p.1, p.2) (sizes_refused c.args.trace.now c.if-trace-gt-LIMIT.false c.read_sizes.ensures c.in_err-sizes.was)

pub products_fit-requires : goal.products_fit-requires
products_fit-requires c =
    setup_read c.args.trace.now c.if-trace-gt-LIMIT.false c.read_sizes.ensures c.in_ok-sizes.was

pub returns-then-not-products_fit : goal.returns-then-not-products_fit
returns-then-not-products_fit c =
    let h = c.in_ok-sizes in
    products_not c.args.trace.now c.if-trace-gt-LIMIT.false c.read_sizes.ensures h.was c.products_fit.ensures
    c.if-not-products_fit.true

pub returns : goal.returns
returns c =
    let h = c.in_ok-sizes in
    c.read_header.ensures
    ∙ products_fit_holds c.args.trace.now c.if-trace-gt-LIMIT.false c.read_sizes.ensures h.was c.products_fit.ensures
    c.if-not-products_fit.false
