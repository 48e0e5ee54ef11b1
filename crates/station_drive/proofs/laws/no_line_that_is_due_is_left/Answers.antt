use Rattle.station_drive.proofs.WaitingLines.{none_left}
use Rattle.station_drive.proofs.laws.no_line_that_is_due_is_left.Goals as goal

pub returns : goal.returns
returns c = none_left
