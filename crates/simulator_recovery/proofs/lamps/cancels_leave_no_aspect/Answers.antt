use Rattle.simulator_recovery.proofs.Lemmas.Lamps.Cancelled.{cancel_leaves_none}
use Rattle.simulator_recovery.proofs.lamps.cancels_leave_no_aspect.Goals as goal

pub returns : goal.returns
returns c = cancel_leaves_none
