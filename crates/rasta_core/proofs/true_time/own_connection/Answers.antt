use Rattle.rasta_core.proofs.Conclusions.{own_inside, own_taken}
use Rattle.rasta_core.proofs.true_time.own_connection.Goals as goal

pub returns-clause-inside : goal.returns-clause-inside
returns-clause-inside c = own_inside

pub returns-clause-taken : goal.returns-clause-taken
returns-clause-taken c = own_taken
