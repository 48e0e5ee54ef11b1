-- The ends of nodes in captures, by the text of an addresses file.
use Rattle.std.specs.Prelude.{◌≡◌, ◌⊎◌, ℕ, List, [], map, slice_get, Option, Some, None, unwrap_or}
use Rattle.std.specs.Net.Addr.{ipv4_octets}
use Rattle.std.specs.Net.Socket.{v4_ip, v4_port}
use Rattle.std.specs.declared.net.socket_addr.SocketAddr.{SocketAddr}
use Rattle.std.specs.declared.net.socket_addr.SocketAddr.TheVariants.{V4, V6}
use Rattle.capture_file.specs.declared.journey.Endpoint.{Endpoint}
use Rattle.control_table.specs.layout.Entries.{Site}
use Rattle.replay_lines.specs.Names.{node_names}
use Rattle.station_check.specs.Failures.{ExplainsTable}
use Rattle.station_check.specs.Report.{IsSound}
use Rattle.station_check.specs.declared.failure.Failure.{Failure}
use Rattle.station_check.specs.declared.failure.Failure.TheVariants.{Addresses, NoIpv4, OutOfMemory}
use Rattle.station_check.specs.node_addresses.Addresses.{UnlessMemory}
use Rattle.station_check.specs.node_addresses.Networks.{IsFaultIn, IsSoundIn, NetworksState}
use Rattle.node_record.specs.NodeEnds.{Ends}

-- the end of an address, where it is one of IPv4
abbrev pub end_at : SocketAddr → Option Endpoint
end_at (V4 address) = Some (record { address = ipv4_octets (v4_ip address); port = v4_port address })
end_at (V6 address) = None

-- the addresses in the second network: none where there is one network
abbrev pub second_of : NetworksState → List SocketAddr
second_of networks = unwrap_or networks.second []

-- The layout is sound, the text is an addresses file of it, and these are the ends of its addresses, all of IPv4.
pub record AreEnds (layout text : List ℕ) (ends : Ends) : Type 0 where
  pub site : Site
  pub sound : IsSound layout site
  pub networks : NetworksState
  pub are : IsSoundIn site text networks
  pub first_are : map end_at networks.first ≡ map (λ end. Some end) ends.first
  pub second_are : map end_at (second_of networks) ≡ map (λ end. Some end) ends.second

-- the addresses in one of the networks
abbrev pub AreOfOne : NetworksState → List SocketAddr → Type 0
AreOfOne networks addresses = (addresses ≡ networks.first) ⊎ (addresses ≡ second_of networks)

-- an address of the node of this name is none of IPv4
pub record IsNoIpv4 (layout text name : List ℕ) : Type 0 where
  pub site : Site
  pub sound : IsSound layout site
  pub networks : NetworksState
  pub are : IsSoundIn site text networks
  pub addresses : List SocketAddr
  pub of_one : AreOfOne networks addresses
  pub place : ℕ
  pub address : SocketAddr
  pub there : slice_get addresses place ≡ Some address
  pub named : slice_get (node_names site) place ≡ Some name
  pub none : end_at address ≡ None

-- Why there are none: the layout gives no table; the addresses file is faulty; or an address is none of IPv4. Want of memory is told
-- in place of all else.
abbrev pub Explains : List ℕ → List ℕ → Failure → Type 0
Explains layout text (Addresses fault) = (site : Site) × IsSound layout site × UnlessMemory fault (IsFaultIn site text fault)
Explains layout text (NoIpv4 name) = IsNoIpv4 layout text name
Explains layout text OutOfMemory = Unit {0}
Explains layout text why = ExplainsTable layout why
