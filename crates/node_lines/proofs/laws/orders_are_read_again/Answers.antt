use Rattle.node_lines.proofs.ReadAgain.{order-read}
use Rattle.node_lines.proofs.laws.orders_are_read_again.Goals as goal

pub returns : goal.returns
returns c line is =
    order-read (record {
      joined = c.joined_words_are_read_again.ensures;
      number = c.a_number_is_read_again.ensures.read;
      number_word = c.a_number_is_read_again.ensures.word;
    }) line is
