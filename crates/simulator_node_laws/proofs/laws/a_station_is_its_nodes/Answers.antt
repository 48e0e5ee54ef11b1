use Rattle.simulator_node_laws.proofs.Runs.{detectors_are, points_are, signals_are, station_is}
use Rattle.simulator_node_laws.proofs.laws.a_station_is_its_nodes.Goals as goal

pub returns : goal.returns
returns c = record { station = station_is; signals = signals_are; points = points_are; detectors = detectors_are }
