use Rattle.simulator_node_laws.proofs.Seen.{is_seen, some_seen}
use Rattle.simulator_node_laws.proofs.laws.what_the_nodes_show_is_seen.Goals as goal

pub returns : goal.returns
returns c = record { seen = is_seen; some = some_seen }
