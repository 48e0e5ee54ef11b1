use Rattle.simulator_pair.proofs.WorkedRuns.{reopening, restarting, retransmission}
use Rattle.simulator_pair.proofs.worked.worked_runs.Goals as goal

pub returns-clause-retransmission : goal.returns-clause-retransmission
returns-clause-retransmission c = retransmission

pub returns-clause-reopening : goal.returns-clause-reopening
returns-clause-reopening c = reopening

pub returns-clause-restarting : goal.returns-clause-restarting
returns-clause-restarting c = restarting
