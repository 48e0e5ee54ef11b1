use Rattle.closings.proofs.Said.{words_plain, words_read}
use Rattle.closings.proofs.laws.words_are_read_again.Goals as goal

pub returns-clause-read : goal.returns-clause-read
returns-clause-read c l n once station there = words_read l once station n there

pub returns-clause-plain : goal.returns-clause-plain
returns-clause-plain c l n station there = words_plain l station n there
