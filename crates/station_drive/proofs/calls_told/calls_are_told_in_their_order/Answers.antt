use Rattle.station_drive.proofs.InOrder.{in_order}
use Rattle.station_drive.proofs.calls_told.calls_are_told_in_their_order.Goals as goal

pub returns : goal.returns
returns c = in_order
