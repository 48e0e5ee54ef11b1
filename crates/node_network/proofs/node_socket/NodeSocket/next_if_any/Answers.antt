use Rattle.node_network.proofs.Intakes.{any_on}
use Rattle.node_network.proofs.node_socket.NodeSocket.next_if_any.Goals as goal

pub returns-in-None-clause-answers : goal.returns-in-None-clause-answers
returns-in-None-clause-answers c = any_on c.next_brought.new.self.intake c.next_brought.result c.in-None.ensures.answers c.hand_out.ensures.places c.next_brought.ensures.answers
