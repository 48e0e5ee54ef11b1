use Rattle.rasta_core.proofs.Conclusions.{same_connection, up_connection}
use Rattle.rasta_core.proofs.Joined.{counted_connection, server_connection, some_connection}
use Rattle.rasta_core.proofs.true_time.one_connection.Goals as goal

pub returns-clause-inside : goal.returns-clause-inside
returns-clause-inside c = same_connection

pub returns-clause-up : goal.returns-clause-up
returns-clause-up c = up_connection

pub returns-clause-server : goal.returns-clause-server
returns-clause-server c = server_connection

pub returns-clause-some : goal.returns-clause-some
returns-clause-some c = some_connection

pub returns-clause-counted : goal.returns-clause-counted
returns-clause-counted c = counted_connection
