use Rattle.rasta_pdu.proofs.CodecLaws.{one_value, one_spelling}
use Rattle.rasta_pdu.proofs.laws.one_spelling_each.Goals as goal

pub returns-clause-values : goal.returns-clause-values
returns-clause-values c = one_value

pub returns-clause-spellings : goal.returns-clause-spellings
returns-clause-spellings c = one_spelling
