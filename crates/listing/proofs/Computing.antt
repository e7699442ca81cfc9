-- `listing_computing` opens every definition of the core's step over words and of the listing at once: a declaration that says
-- `unfolding listing_computing` works a listing out.
use Rattle.core_tables.specs.Words.{life_in, life_word, activity_as, activity_in, activity_word, names_in, names_word}
use Rattle.core_tables.specs.Words.{mapping_in, mapping_word, wear_in, hidden_in, place_in, home_word, sign_word}
use Rattle.core_tables.specs.Image.{table, tables_in, registers_in, saved_in, image_of, saved_words, canonical}
use Rattle.core_answer.specs.Handed.{readable, refuses, stepped}
use Rattle.core_accept.specs.Acceptable.{lent_right}
use Rattle.core_entry.specs.Started.{started}
use Rattle.trace_laws.proofs.Computing.{trace_computing}
use Rattle.listing_line.specs.Lines.{decimal_in, decimal, hex, counts_then, line, refused_line}
use Rattle.listing.specs.Opening.{products_fit, opening_of, opening_at}
use Rattle.listing.specs.Listing.{is_shown, shown_length, event_line, event_listed, listed_as, listed, listed_in, listed_from}
use Rattle.listing.specs.Listing.{text_of, lines_from, start_point, listing_of, listing}

unfoldable records : Unit {0}
unfolding life_in life_word activity_as activity_in activity_word names_in names_word mapping_in mapping_word
records = tt

unfoldable places : Unit {0}
unfolding wear_in hidden_in place_in home_word sign_word
places = tt

unfoldable words : Unit {0}
unfolding records places table tables_in registers_in saved_in image_of saved_words canonical readable refuses stepped lent_right started
words = tt

unfoldable lines : Unit {0}
unfolding decimal_in decimal hex counts_then line refused_line products_fit opening_of opening_at is_shown shown_length event_line
lines = tt

unfoldable pub listing_computing : Unit {0}
unfolding words lines trace_computing event_listed listed_as listed listed_in listed_from text_of lines_from start_point listing_of listing
listing_computing = tt
