use Rattle.simulator.specs.simulator_spec.First.{at_rest}
use Rattle.replay.proofs.Outsets.{all_lie, none_begun}
use Rattle.replay.proofs.laws.stations_lie_as_lines_say.Goals as goal

pub returns-clause-said : goal.returns-clause-said
returns-clause-said c = λ site events lines says. all_lie site lines (c.begun_lines_stand_first.ensures site events lines says)

pub returns-clause-rest : goal.returns-clause-rest
returns-clause-rest c = λ site lines none. none_begun lines (at_rest site) none
