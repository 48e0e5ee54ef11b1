-- Where a node's socket is.
use Rattle.std.specs.Option.{option_map}
use Rattle.node_network.specs.Intakes.{Places}
use Rattle.node_network.specs.declared.node_socket.NodeSocket.{NodeSocket}

abbrev pub places_of : NodeSocket → Places
places_of node = record { first = node.first.addresses.items; second = option_map (λ one. one.addresses.items) node.second }
