use Rattle.embedded_host.proofs.WorkedLoops.{worked}
use Rattle.embedded_host.proofs.laws.loops_are_as_worked_by_hand.Goals as goal

pub returns : goal.returns
returns g c = λ host. worked g.C.Controller.behaviour host
