use Rattle.rasta_core.proofs.Conclusions.{server_is_out, all_dead, client_is_apart}
use Rattle.rasta_core.proofs.true_time.alone_after_quiet.Goals as goal

pub returns-clause-server : goal.returns-clause-server
returns-clause-server c = server_is_out

pub returns-clause-dead : goal.returns-clause-dead
returns-clause-dead c = all_dead

pub returns-clause-client : goal.returns-clause-client
returns-clause-client c = client_is_apart
