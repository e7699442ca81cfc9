-- Each opens, at once, the definitions that a function's contract is proved under.
use Rattle.rules.specs.Answers.{check, first_of}
use Rattle.rules.specs.Bytes.{all_of}
use Rattle.rules.specs.Sizes.{supply_right}
use Rattle.trace_write.specs.Writing.{header_refusal, refusal_of}

unfoldable pub the_header_checks : Unit {0}
unfolding header_refusal first_of check all_of supply_right
the_header_checks = tt

unfoldable pub the_record_checks : Unit {0}
unfolding refusal_of first_of check all_of
the_record_checks = tt
