use Rattle.run_numbers.proofs.ReadAgain.{number_read, words_are}
use Rattle.run_numbers.proofs.laws.numbers_are_read_again.Goals as goal

pub returns-clause-read : goal.returns-clause-read
returns-clause-read c row value small =
    number_read (record {
      joined = c.joined_words_are_read_again.ensures;
      number = c.a_number_is_read_again.ensures.read;
      number_word = c.a_number_is_read_again.ensures.word;
    }) row value small

pub returns-clause-words : goal.returns-clause-words
returns-clause-words c row value small =
    words_are (record {
      joined = c.joined_words_are_read_again.ensures;
      number = c.a_number_is_read_again.ensures.read;
      number_word = c.a_number_is_read_again.ensures.word;
    }) row value small
