use Rattle.datagram_hold.specs.declared.network.Network.TheVariants.{Second}
use Rattle.node_network.proofs.Intakes.{takes_empty, takes_then}
use Rattle.node_network.proofs.node_socket.NodeSocket.note_empty.Goals as goal

pub returns-then-is_none-clause-takes : goal.returns-then-is_none-clause-takes
returns-then-is_none-clause-takes c = takes_then (takes_empty c.args.network c.note_empty.ensures) (takes_empty Second c.note_empty-then-is_none.ensures)

pub returns-else-is_none-clause-takes : goal.returns-else-is_none-clause-takes
returns-else-is_none-clause-takes c = takes_empty c.args.network c.note_empty.ensures
