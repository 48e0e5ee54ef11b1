use Rattle.std.proofs.Common.{subst}
use Rattle.node_network.specs.Intakes.{IsSender, strange}
use Rattle.node_network.specs.Sockets.{places_of}
use Rattle.node_network.proofs.Intakes.{takes_none}
use Rattle.node_network.proofs.node_socket.NodeSocket.take.Goals as goal

pub take_from-requires : goal.take_from-requires
take_from-requires c = (c.requires.1, subst (IsSender (places_of c.args.self.now) c.args.network c.requires.1) c.in-Some.is c.requires.2)

pub returns-in-None-clause-answers : goal.returns-in-None-clause-answers
returns-in-None-clause-answers c = strange c.args.network (takes_none c.args.self.now.intake) c.in-None.is c.requires
