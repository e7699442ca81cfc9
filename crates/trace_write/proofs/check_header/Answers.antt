-- `trace_write::check_header` meets its contract: the signatures of a setup within its limits can be counted.
use Rattle.std.proofs.Common.{sym, ◌∙◌, arith}
use Rattle.rules.proofs.Facts.{passed, limited}
use Rattle.trace_form.proofs.Headers.{supply_counts}
use Rattle.trace_write.proofs.check_header.Goals as goal

pub overflow_mul-setup : goal.overflow_mul-setup
overflow_mul-setup c =
    let s = c.args.setup in
    omega (arith, supply_counts s (limited s (passed _ (sym c.in_range.ensures ∙ c.if-not-in_range.false))))
