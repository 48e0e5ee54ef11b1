use Rattle.node_network.proofs.Intakes.{takes_forgets, takes_on, takes_then}
use Rattle.node_network.proofs.node_socket.NodeSocket.throw_away.Goals as goal

pub returns-clause-takes : goal.returns-clause-takes
returns-clause-takes c =
    takes_then (takes_forgets c.forget-here.ensures.after) (takes_on c.empty-first.ensures.takes c.empty-first.ensures.places c.empty-second.ensures.takes)
