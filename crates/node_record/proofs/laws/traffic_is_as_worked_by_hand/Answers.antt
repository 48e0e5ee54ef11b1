use Rattle.node_record.proofs.WorkedTraffic.{worked}
use Rattle.node_record.proofs.laws.traffic_is_as_worked_by_hand.Goals as goal

pub returns : goal.returns
returns c site = worked site
