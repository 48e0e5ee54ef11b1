use Rattle.layout.proofs.Unknown.{first-unknown, names-kept}
use Rattle.layout.proofs.laws.unknown_name_is_the_first_that_no_entry_has.Goals as goal

pub returns-clause-fault : goal.returns-clause-fault
returns-clause-fault c = first-unknown

pub returns-clause-kept : goal.returns-clause-kept
returns-clause-kept c = names-kept
