use Rattle.embedded_ixl.proofs.WorkedLoops.{worked}
use Rattle.embedded_ixl.proofs.laws.loops_are_as_worked_by_hand.Goals as goal

pub returns : goal.returns
returns c = λ state. worked state
