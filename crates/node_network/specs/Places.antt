-- Which node has an address.
use Rattle.std.specs.Prelude.{◌≡◌, ◌<◌, ℕ, List, Option, Some, None, slice_get}
use Rattle.std.specs.declared.net.socket_addr.SocketAddr.{SocketAddr}
use Rattle.node_drive.specs.Calls.{DatagramHeard, Came}
use Rattle.node_drive.specs.declared.outside.Network.{Network}
use Rattle.node_drive.specs.simulator_event.layout.declared.ids.NodeId.{NodeId}

-- it is the first whose address it is, or no node's
abbrev pub IsNodeOf : List SocketAddr → SocketAddr → Option NodeId → Type 0
IsNodeOf addresses address (Some node) =
    (slice_get addresses node.0 ≡ Some address)
    × ((before : ℕ) → before < node.0 → ¬ (slice_get addresses before ≡ Some address))
IsNodeOf addresses address None = (place : ℕ) → ¬ (slice_get addresses place ≡ Some address)

-- A datagram came from some address, and is told as that of the node that has it, over this network.
abbrev pub IsFromNode : List SocketAddr → Network → DatagramHeard → Type 0
IsFromNode addresses over (Came arrival) = (arrival.0.over ≡ over) × (sender : SocketAddr) × IsNodeOf addresses sender arrival.0.from
IsFromNode addresses over heard = Unit {0}
