use Rattle.simulator_recovery.proofs.Lemmas.Rounds.FlowsStay.{over_events, over_round, over_rounds}
use Rattle.simulator_recovery.proofs.rounds.flows_stay_flows.Goals as goal

pub returns-clause-round : goal.returns-clause-round
returns-clause-round c = over_round c.laws_below.ensures

pub returns-clause-events : goal.returns-clause-events
returns-clause-events c = over_events c.laws_below.ensures

pub returns-clause-rounds : goal.returns-clause-rounds
returns-clause-rounds c = over_rounds c.laws_below.ensures
