use Rattle.std.proofs.Common.{sym, ◌∙◌}
use Rattle.sci_telegram.proofs.Codec.{one_telegram}
use Rattle.sci_telegram.proofs.laws.one_spelling_each.Goals as goal

pub returns-clause-values : goal.returns-clause-values
returns-clause-values c = one_telegram

pub returns-clause-spellings : goal.returns-clause-spellings
returns-clause-spellings c = λ t bytes others first second. first.1 ∙ sym second.1
