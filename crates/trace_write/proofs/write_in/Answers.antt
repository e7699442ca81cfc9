-- `trace_write::write_in` meets its contract: it writes where there is no refusal, and else nothing.
use Rattle.std.proofs.lemmas.Result.{err_from_is_err_and}
use Rattle.trace_form.proofs.Heads.{laid_at}
use Rattle.trace_write.proofs.Outputs.{Prepared, record_refused, record_fits, record_written}
use Rattle.trace_write.proofs.write_in.Goals as goal
use Rattle.trace_write.proofs.write_in.Goals.{After-check_record}

pub check_record-requires : goal.check_record-requires
check_record-requires c = laid_at c.args.form c.kind-kind.result c.head-head.result c.requires c.head-head.ensures

abbrev prepared : (c : goal.After-check_record) → Prepared c.args.form c.args.event c.args.new.now c.args.out.now
prepared c =
    record {
      right = c.requires;
      kind = c.kind-kind.result;
      kind_is = c.kind-kind.ensures;
      head = c.head-head.result;
      head_is = c.head-head.ensures;
      fields = c.of-v.result;
      fields_is = c.of-v.ensures;
      want = c.data_length.result;
      want_is = c.data_length.ensures;
    }

pub returns-in_err-check_record : goal.returns-in_err-check_record
returns-in_err-check_record c =
    let p = err_from_is_err_and c.from_residual.result c.from_residual.ensures.1 in
    rw (p.1, p.2) (record_refused (prepared (goal.at.returns-in_err-check_record c).After-check_record) _ c.in_err-check_record.ensures)

pub packed-requires : goal.packed-requires
packed-requires c = (record_fits (prepared (goal.at.packed-requires c).After-check_record) c.in_ok-check_record.ensures).0

pub put-requires : goal.put-requires
put-requires c = (record_fits (prepared (goal.at.put-requires c).After-check_record) c.in_ok-check_record.ensures).1

pub returns : goal.returns
returns c =
    record_written (prepared (goal.at.returns c).After-check_record) c.in_ok-check_record.ensures c.packed.result
    c.put.result c.put.new.out c.packed.ensures c.put.ensures.value c.put.ensures.out_after
