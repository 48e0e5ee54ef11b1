use Rattle.simulator_machine.proofs.Signals.{known_stop_shown, known_stop_dark}
use Rattle.simulator_machine.proofs.laws.known_stop_is_dark.Goals as goal

pub returns-clause-shown : goal.returns-clause-shown
returns-clause-shown c = known_stop_shown

pub returns-clause-live : goal.returns-clause-live
returns-clause-live c = λ signal aspect sound stop live. known_stop_dark aspect signal sound stop live
