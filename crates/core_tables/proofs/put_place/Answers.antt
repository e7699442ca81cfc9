use Rattle.core_tables.proofs.Codes.{place_code}
use Rattle.core_tables.proofs.Puts.{put_place}
use Rattle.core_tables.proofs.put_place.Goals as goal

pub returns : goal.returns
returns c = λ v.
    rw (c.sign_word.ensures, c.home_word.ensures.0)
    (put_place v _ c.requires.0 _ _ _ _ c.requires.1 (place_code _ c.home_word.ensures.1))
