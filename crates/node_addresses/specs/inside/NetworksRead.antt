-- Where reading the networks of a document stops.
use Rattle.std.specs.Prelude.{◌≡◌, true, false, List, []}
use Rattle.std.specs.declared.net.socket_addr.SocketAddr.{SocketAddr}
use Rattle.toml.specs.Data.{Members}
use Rattle.control_table.specs.layout.Entries.{Site}
use Rattle.node_addresses.specs.Addresses.{AreIn, StopsIn}
use Rattle.node_addresses.specs.Networks.{has_two}
use Rattle.node_addresses.specs.declared.fault.AddressesFault.{AddressesFault}
use Rattle.node_addresses.specs.declared.network.Network.TheVariants.{Alone, First, Second}

pub data StopsInNetworks (site : Site) (document : Members) : AddressesFault → Type 0 where
  stops_alone : {fault : AddressesFault} → has_two site document ≡ false → StopsIn Alone [] site document fault → StopsInNetworks site document fault
  stops_in_first : {fault : AddressesFault} → has_two site document ≡ true → StopsIn First [] site document fault → StopsInNetworks site document fault
  stops_in_second : {fault : AddressesFault} {first : List SocketAddr} → has_two site document ≡ true → AreIn First [] site document first → StopsIn Second first site document fault
      → StopsInNetworks site document fault
