use Rattle.simulator_move_laws.proofs.Interlocking.StepsSeen.{alike_sees}
use Rattle.simulator_move_laws.proofs.interlockings.controllers_change_nothing_seen.Goals as goal

pub returns : goal.returns
returns c = alike_sees
