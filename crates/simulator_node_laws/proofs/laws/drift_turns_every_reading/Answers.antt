use Rattle.simulator_node_laws.proofs.Clocks.{every_reading_turns, no_drift}
use Rattle.simulator_node_laws.proofs.laws.drift_turns_every_reading.Goals as goal

pub returns : goal.returns
returns c = record { short = no_drift; long = every_reading_turns }
