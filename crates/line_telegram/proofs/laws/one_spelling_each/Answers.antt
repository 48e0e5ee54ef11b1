use Rattle.line_telegram.proofs.Reading.{one_spelling}
use Rattle.line_telegram.proofs.laws.one_spelling_each.Goals as goal

pub returns : goal.returns
returns c = λ sender receiver one other s r one_is other_is same. one_spelling sender receiver one other s r same
