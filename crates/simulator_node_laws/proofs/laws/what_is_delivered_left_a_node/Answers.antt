use Rattle.simulator_node_laws.proofs.Delivered.{left_in_time}
use Rattle.simulator_node_laws.proofs.NoneLost.{comes_again}
use Rattle.simulator_node_laws.proofs.laws.what_is_delivered_left_a_node.Goals as goal

pub returns : goal.returns
returns c = record { left = left_in_time; comes = comes_again }
