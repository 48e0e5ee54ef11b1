use Rattle.closings.proofs.Said.{words_written}
use Rattle.closings.proofs.laws.words_say_what_is_there.Goals as goal

pub returns : goal.returns
returns c = words_written
