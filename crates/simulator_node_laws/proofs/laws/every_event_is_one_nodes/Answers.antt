use Rattle.simulator_node_laws.proofs.Sent.{network_grows}
use Rattle.simulator_node_laws.proofs.Split.{is_split}
use Rattle.simulator_node_laws.proofs.laws.every_event_is_one_nodes.Goals as goal

pub returns : goal.returns
returns c = record { split = is_split; network = network_grows }
