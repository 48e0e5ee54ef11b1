use Rattle.node_network.proofs.Intakes.{answers_on}
use Rattle.node_network.proofs.node_socket.NodeSocket.next_datagram.Goals as goal

pub returns-in-None-clause-answers : goal.returns-in-None-clause-answers
returns-in-None-clause-answers c = answers_on c.in-None.ensures.answers c.next_if_any.ensures.places c.end_round.ensures.answers
