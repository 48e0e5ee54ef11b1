-- The datagrams of a world: which can still be delivered, and which is lost next.
use Rattle.std.specs.Prelude.{ℕ, List, map, Option, Some, None}
use Rattle.ixl_spec.specs.rasta_core.Bag.{newest_copy}
use Rattle.ixl_spec.specs.rasta_core.Ends.{Sent}
use Rattle.ixl_spec.specs.rasta_core.Links.{OnLink}
use Rattle.simulator_spec.specs.State.{WorldState}

abbrev pub datagrams_of : List OnLink → List Sent
datagrams_of sent = map (λ one. one.datagram) sent

-- the copy that a delivery of these bytes delivers: the newest that isn't lost and is at most 2000 ms old
abbrev pub copy_of : List ℕ → WorldState → Option Sent
copy_of bytes world = newest_copy world.time bytes (datagrams_of world.sent)

-- the connection in which it was sent
abbrev pub connection_of : Option Sent → ℕ
connection_of None = 0
connection_of (Some sent) = sent.connection
