use Rattle.layout.proofs.TooMany.{limit_fault, limits_kept}
use Rattle.layout.proofs.laws.limit_is_the_first_entry_too_many.Goals as goal

pub returns-clause-fault : goal.returns-clause-fault
returns-clause-fault c = limit_fault

pub returns-clause-kept : goal.returns-clause-kept
returns-clause-kept c = limits_kept
