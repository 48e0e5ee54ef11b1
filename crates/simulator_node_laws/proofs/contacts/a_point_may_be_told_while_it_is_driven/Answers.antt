use Rattle.simulator_node_laws.proofs.Events.{reach_allowed}
use Rattle.simulator_node_laws.proofs.contacts.a_point_may_be_told_while_it_is_driven.Goals as goal

pub returns : goal.returns
returns c = reach_allowed
