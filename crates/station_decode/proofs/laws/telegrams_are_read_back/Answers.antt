use Rattle.station_decode.proofs.SaidAgain.{telegram-back, telegrams-apart}
use Rattle.station_decode.proofs.laws.telegrams_are_read_back.Goals as goal

pub returns-clause-read : goal.returns-clause-read
returns-clause-read c =
    telegram-back (record {
      joined = c.joined_words_are_read_again.ensures;
      number = c.a_number_is_read_again.ensures.read;
      number_word = c.a_number_is_read_again.ensures.word;
    })

pub returns-clause-apart : goal.returns-clause-apart
returns-clause-apart c =
    telegrams-apart (record {
      joined = c.joined_words_are_read_again.ensures;
      number = c.a_number_is_read_again.ensures.read;
      number_word = c.a_number_is_read_again.ensures.word;
    })
