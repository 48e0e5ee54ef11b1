use Rattle.sci_telegram.proofs.FaultLaws.{fault_means, fault_told}
use Rattle.sci_telegram.proofs.laws.first_fault_is_read.Goals as goal

pub returns-clause-means : goal.returns-clause-means
returns-clause-means c = fault_means

pub returns-clause-told : goal.returns-clause-told
returns-clause-told c = fault_told
