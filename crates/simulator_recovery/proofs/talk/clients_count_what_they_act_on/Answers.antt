use Rattle.simulator_recovery.proofs.Lemmas.Talk.ClientCounts.{commanding_counts, hearing_counts, ticking_counts}
use Rattle.simulator_recovery.proofs.talk.clients_count_what_they_act_on.Goals as goal

pub returns-clause-receipt : goal.returns-clause-receipt
returns-clause-receipt c = hearing_counts

pub returns-clause-command : goal.returns-clause-command
returns-clause-command c = commanding_counts

pub returns-clause-tick : goal.returns-clause-tick
returns-clause-tick c = ticking_counts
