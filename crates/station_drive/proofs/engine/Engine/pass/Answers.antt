use Rattle.station_drive.proofs.Composed.{stops_none, stopped}
use Rattle.station_drive.proofs.engine.Engine.pass.Goals as goal

pub returns-in_err-vec-clause-stopped : goal.returns-in_err-vec-clause-stopped
returns-in_err-vec-clause-stopped g c = stopped c.from_residual.result (stops_none _ _)
