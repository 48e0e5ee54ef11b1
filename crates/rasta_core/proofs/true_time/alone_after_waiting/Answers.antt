use Rattle.rasta_core.proofs.Conclusions.{server_is_out_since, all_dead_since}
use Rattle.rasta_core.proofs.true_time.alone_after_waiting.Goals as goal

pub returns-clause-server : goal.returns-clause-server
returns-clause-server c = server_is_out_since

pub returns-clause-dead : goal.returns-clause-dead
returns-clause-dead c = all_dead_since
