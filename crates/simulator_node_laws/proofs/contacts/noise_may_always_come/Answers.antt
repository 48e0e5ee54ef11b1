use Rattle.simulator_node_laws.proofs.Events.{detector_told_noise, noise_allowed, noise_moves_nothing, point_told_noise}
use Rattle.simulator_node_laws.proofs.contacts.noise_may_always_come.Goals as goal

pub returns : goal.returns
returns c = record { allowed = noise_allowed; points = point_told_noise; detectors = detector_told_noise; unmoved = noise_moves_nothing }
