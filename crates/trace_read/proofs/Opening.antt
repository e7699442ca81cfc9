-- Each opens, at once, the definitions that a function's contract is proved under.
use Rattle.rules.specs.Bytes.{all_of}
use Rattle.trace_form.specs.Header.{header_values}
use Rattle.trace_read.specs.Reading.{sizes_whole, sizes_at, kind_in, has_event, event_at, head_whole, record_of, read_at}
use Rattle.trace_form.specs.Form.{values_at}

unfoldable pub the_sizes : Unit {0}
unfolding sizes_at sizes_whole all_of header_values
the_sizes = tt

unfoldable pub the_record : Unit {0}
unfolding record_of head_whole event_at values_at all_of
the_record = tt

unfoldable pub the_reading : Unit {0}
unfolding read_at has_event kind_in all_of
the_reading = tt
