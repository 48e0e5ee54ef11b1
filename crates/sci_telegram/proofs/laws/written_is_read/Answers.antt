use Rattle.sci_telegram.proofs.Codec.{read_again, writing_is_item, writing_is_long}
use Rattle.sci_telegram.proofs.laws.written_is_read.Goals as goal

pub returns-clause-item : goal.returns-clause-item
returns-clause-item c = writing_is_item

pub returns-clause-least : goal.returns-clause-least
returns-clause-least c = writing_is_long

pub returns-clause-read : goal.returns-clause-read
returns-clause-read c = read_again
