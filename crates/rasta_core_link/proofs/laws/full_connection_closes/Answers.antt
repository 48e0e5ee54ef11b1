use Rattle.rasta_core_link.proofs.WorkedLimit.{limit}
use Rattle.rasta_core_link.proofs.laws.full_connection_closes.Goals as goal

pub returns : goal.returns
returns c = limit
