use Rattle.rasta_core.proofs.Nodes.{node_restarted}
use Rattle.rasta_core.proofs.many_links.a_node_restarts.Goals as goal

pub returns : goal.returns
returns c = node_restarted
