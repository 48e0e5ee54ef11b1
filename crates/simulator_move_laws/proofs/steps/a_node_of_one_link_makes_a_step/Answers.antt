use Rattle.simulator_move_laws.proofs.Links.NodeSteps.{other_ends, other_representations, own_step}
use Rattle.simulator_move_laws.proofs.steps.a_node_of_one_link_makes_a_step.Goals as goal

pub returns-clause-own : goal.returns-clause-own
returns-clause-own c = own_step c.each_link_sees_its_events.ensures.event

pub returns-clause-ends : goal.returns-clause-ends
returns-clause-ends c = other_ends c.each_link_sees_its_events.ensures.event

pub returns-clause-others : goal.returns-clause-others
returns-clause-others c = other_representations c.each_link_sees_its_events.ensures.event
