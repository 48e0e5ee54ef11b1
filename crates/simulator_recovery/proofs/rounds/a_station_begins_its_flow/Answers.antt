use Rattle.simulator_recovery.proofs.Lemmas.Rounds.FlowsStay.{begins, begins_first}
use Rattle.simulator_recovery.proofs.rounds.a_station_begins_its_flow.Goals as goal

pub returns-clause-first : goal.returns-clause-first
returns-clause-first c = begins_first

pub returns-clause-reached : goal.returns-clause-reached
returns-clause-reached c = begins
