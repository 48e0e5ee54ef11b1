use Rattle.rasta_core.proofs.Safety.{beginning, confirmed}
use Rattle.rasta_core.proofs.connection_order.parts_are_safe.Goals as goal

pub returns-clause-beginning : goal.returns-clause-beginning
returns-clause-beginning c = beginning

pub returns-clause-confirmed : goal.returns-clause-confirmed
returns-clause-confirmed c = confirmed
