-- `trace_computing` opens every definition of reading and writing at once: a declaration that says `unfolding trace_computing`
-- works a trace out.
use Rattle.rules.proofs.Computing.{computing}
use Rattle.trace_form.specs.Form.{widths_of, head_of, head_bytes, values_at, event_of}
use Rattle.trace_form.specs.Header.{header_bytes, header_of, header_values}
use Rattle.trace_read.specs.Reading.{sizes_whole, sizes_at, header_at, kind_in, has_event, event_at, data_at, head_whole}
use Rattle.trace_read.specs.Reading.{record_of, read_at}
use Rattle.trace_write.specs.Writing.{written, header_refusal, write_header, record_bytes, numbers_fit, span_fits, refusal_of}
use Rattle.trace_write.specs.Writing.{record_refusal, write_record}
use Rattle.trace_laws.specs.Traces.{read_records, read_trace, write_records, write_trace}

unfoldable form : Unit {0}
unfolding computing widths_of head_of head_bytes values_at event_of header_bytes header_of header_values
form = tt

unfoldable reading : Unit {0}
unfolding sizes_whole sizes_at header_at kind_in has_event event_at data_at head_whole record_of read_at read_records read_trace
reading = tt

unfoldable writing : Unit {0}
unfolding written header_refusal write_header record_bytes numbers_fit span_fits refusal_of record_refusal write_record
writing = tt

unfoldable pub trace_computing : Unit {0}
unfolding form reading writing write_records write_trace
trace_computing = tt
