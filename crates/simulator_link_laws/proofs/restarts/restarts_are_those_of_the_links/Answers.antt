use Rattle.simulator_spec.specs.Happens.{happens, made_anew}
use Rattle.simulator_spec.specs.Nodes.{node_at}
use Rattle.simulator_link_laws.proofs.ByKind.{followed}
use Rattle.simulator_link_laws.proofs.NodesAnew.{restarts_follow}
use Rattle.simulator_link_laws.specs.Events.{restart_events}
use Rattle.simulator_link_laws.proofs.restarts.restarts_are_those_of_the_links.Goals as goal

pub returns : goal.returns
unfolding happens
returns c = λ site table node clock first world before whole timely are. followed site (restart_events site clock first (node_at site node.0)) (made_anew site table (record { clock = clock; first = first }) (node_at site node.0) world) before (restarts_follow (record {
  settles = c.links_are_settled.ensures;
  sees = c.each_link_sees_its_events.ensures.event;
  may = c.each_link_sees_its_events.ensures.may_happen;
  time = c.links_keep_time.ensures.kept;
  run_time = c.links_keep_time.ensures.run;
}) c.a_node_restarts.ensures site table (record { clock = clock; first = first }) world before whole timely are (node_at site node.0))
