use Rattle.simulator_move_laws.proofs.Links.Calls.{calls_may, may_later}
use Rattle.simulator_move_laws.proofs.lists_of_calls.calls_may_follow_calls.Goals as goal

pub returns-clause-one : goal.returns-clause-one
returns-clause-one c = may_later

pub returns-clause-all : goal.returns-clause-all
returns-clause-all c = calls_may
