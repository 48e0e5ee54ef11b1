-- From which node a datagram came.
use Rattle.std.proofs.Common.{◌≡◌, ℕ, List, Option, refl, subst, sym}
use Rattle.std.specs.declared.net.socket_addr.SocketAddr.{SocketAddr}
use Rattle.node_drive.specs.declared.outside.Network.{Network}
use Rattle.node_drive.specs.simulator_event.layout.declared.ids.NodeId.{NodeId}
use Rattle.node_drive.specs.Calls.{DatagramHeard, Came}
use Rattle.node_network.specs.Places.{IsFromNode, IsNodeOf}

pub from_node : (addresses : List SocketAddr) (over : Network) (heard : DatagramHeard) (sender : SocketAddr) (node : Option NodeId) (bytes : List ℕ) → IsNodeOf addresses sender node
    → heard ≡ Came (record { from = node; over = over }, bytes) → IsFromNode addresses over heard
from_node addresses over heard sender node bytes is e = subst (IsFromNode addresses over) (sym e) (refl, sender, is)
