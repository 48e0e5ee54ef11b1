use Rattle.station_drive.proofs.Composed.{stops_none, stopped}
use Rattle.station_drive.proofs.engine.Engine.deliver.Goals as goal

pub returns-in_err-from_slice-clause-stopped : goal.returns-in_err-from_slice-clause-stopped
returns-in_err-from_slice-clause-stopped g c = stopped c.from_residual.result (stops_none _ _)
