use Rattle.node_network.proofs.Cuts.{in_pieces, left_in_pieces}
use Rattle.node_network.proofs.laws.lines_come_in_any_pieces.Goals as goal

pub returns-clause-lines : goal.returns-clause-lines
returns-clause-lines c = in_pieces

pub returns-clause-left : goal.returns-clause-left
returns-clause-left c = left_in_pieces
