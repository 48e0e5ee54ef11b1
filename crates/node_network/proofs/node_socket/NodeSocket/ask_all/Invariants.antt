use Rattle.std.proofs.Common.{◌≡◌, []}
use Rattle.node_network.specs.Intakes.{Takes}
use Rattle.node_network.specs.Sockets.{places_of}
use Rattle.node_network.proofs.node_socket.NodeSocket.ask_all.Given as goal

-- nothing was handed out yet
abbrev pub invariant-loop : goal.invariant-loop
invariant-loop l = Takes (places_of l.fn.self) l.fn.self.intake l.self.intake [] × (places_of l.self ≡ places_of l.fn.self)
