use Rattle.station_node.proofs.CountedOn.{cut_off}
use Rattle.station_node.proofs.command.run_over.Goals as goal

pub returns-in-Err-LinesEnded : goal.returns-in-Err-LinesEnded
returns-in-Err-LinesEnded g c = cut_off c.in-Ok.ensures c.in-Err-LinesEnded.ensures.stopped
