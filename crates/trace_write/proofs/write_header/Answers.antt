-- `trace_write::write_header` meets its contract: it writes where there is no refusal, and else nothing.
use Rattle.std.proofs.lemmas.Result.{err_from_is_err_and}
use Rattle.trace_write.proofs.Outputs.{header_refused, header_fits, header_written}
use Rattle.trace_write.proofs.write_header.Goals as goal

pub returns-in_err-check_header : goal.returns-in_err-check_header
returns-in_err-check_header c =
    let p = err_from_is_err_and c.from_residual.result c.from_residual.ensures.1 in
    rw (p.1, p.2) (header_refused c.args.setup c.args.supply.now c.args.out.now _ c.in_err-check_header.ensures)

pub packed_setup-requires : goal.packed_setup-requires
packed_setup-requires c = (header_fits c.args.setup c.args.supply.now c.args.out.now c.in_ok-check_header.ensures).0

pub put-requires : goal.put-requires
put-requires c = (header_fits c.args.setup c.args.supply.now c.args.out.now c.in_ok-check_header.ensures).1

pub returns : goal.returns
returns c =
    header_written c.args.setup c.args.supply.now c.args.out.now c.in_ok-check_header.ensures c.packed_setup.result
    c.put.result c.put.new.out c.packed_setup.ensures c.put.ensures.value c.put.ensures.out_after
