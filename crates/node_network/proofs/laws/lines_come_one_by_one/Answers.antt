use Rattle.node_network.proofs.Cuts.{one_by_one}
use Rattle.node_network.proofs.laws.lines_come_one_by_one.Goals as goal

pub returns : goal.returns
returns c = one_by_one
