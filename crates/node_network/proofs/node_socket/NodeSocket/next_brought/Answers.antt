use Rattle.node_network.proofs.Intakes.{any_on}
use Rattle.node_network.proofs.node_socket.NodeSocket.next_brought.Goals as goal

pub returns-in-None-clause-answers : goal.returns-in-None-clause-answers
returns-in-None-clause-answers c = any_on c.hand_out.new.self.intake c.hand_out.result c.in-None.ensures.answers c.ask_all.ensures.places c.hand_out.ensures.answers
