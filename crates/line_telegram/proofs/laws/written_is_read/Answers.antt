use Rattle.line_telegram.proofs.Reading.{read_again, writing_is_item}
use Rattle.line_telegram.proofs.laws.written_is_read.Goals as goal

pub returns-clause-item : goal.returns-clause-item
returns-clause-item c = writing_is_item

pub returns-clause-read : goal.returns-clause-read
returns-clause-read c = λ sender receiver message s r is. read_again sender receiver message s r
