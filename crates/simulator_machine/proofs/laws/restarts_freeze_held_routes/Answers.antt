use Rattle.simulator_machine.proofs.Frames.{held_holding, held_resumed}
use Rattle.simulator_machine.proofs.laws.restarts_freeze_held_routes.Goals as goal

pub returns-clause-outside : goal.returns-clause-outside
returns-clause-outside c = held_resumed

pub returns-clause-again : goal.returns-clause-again
returns-clause-again c = held_holding
