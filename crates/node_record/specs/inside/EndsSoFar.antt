-- Why there is no end of an address.
use Rattle.std.specs.Prelude.{◌≡◌, ℕ, List, map, slice_get, Some, None}
use Rattle.std.specs.declared.net.socket_addr.SocketAddr.{SocketAddr}
use Rattle.control_table.specs.layout.Entries.{Site}
use Rattle.station_check.specs.node_addresses.Addresses.{UnlessMemory}
use Rattle.station_check.specs.node_addresses.Networks.{IsFaultIn, IsSoundIn, NetworksState}
use Rattle.replay_lines.specs.Names.{node_names}
use Rattle.station_check.specs.declared.failure.Failure.{Failure}
use Rattle.station_check.specs.declared.failure.Failure.TheVariants.{Addresses, NoIpv4, OutOfMemory}
use Rattle.node_record.specs.GivenEnds.{AreOfOne, end_at, second_of}
use Rattle.node_record.specs.NodeEnds.{Ends}

-- the address of the node of this name is none of IPv4
pub record HasNoEnd (site : Site) (addresses : List SocketAddr) (name : List ℕ) : Type 0 where
  pub place : ℕ
  pub address : SocketAddr
  pub there : slice_get addresses place ≡ Some address
  pub named : slice_get (node_names site) place ≡ Some name
  pub none : end_at address ≡ None

-- so it is of the node at a place
abbrev pub IsNoEndOf : Site → SocketAddr → ℕ → Failure → Type 0
IsNoEndOf site address place OutOfMemory = Unit {0}
IsNoEndOf site address place (NoIpv4 name) = (slice_get (node_names site) place ≡ Some name) × (end_at address ≡ None)
IsNoEndOf site address place why = ⊥

-- so it is of one of these addresses
abbrev pub IsNoEnd : Site → List SocketAddr → Failure → Type 0
IsNoEnd site addresses OutOfMemory = Unit {0}
IsNoEnd site addresses (NoIpv4 name) = HasNoEnd site addresses name
IsNoEnd site addresses why = ⊥

-- the text is an addresses file of the layout, and these are the ends of its addresses
pub record HasEnds (site : Site) (text : List ℕ) (ends : Ends) : Type 0 where
  pub networks : NetworksState
  pub are : IsSoundIn site text networks
  pub first_are : map end_at networks.first ≡ map (λ end. Some end) ends.first
  pub second_are : map end_at (second_of networks) ≡ map (λ end. Some end) ends.second

-- the text is one, and an address of the node of this name is none of IPv4
pub record LacksEnd (site : Site) (text name : List ℕ) : Type 0 where
  pub networks : NetworksState
  pub are : IsSoundIn site text networks
  pub addresses : List SocketAddr
  pub of_one : AreOfOne networks addresses
  pub lacks : HasNoEnd site addresses name

-- why there are no ends of a layout
abbrev pub ExplainsOf : Site → List ℕ → Failure → Type 0
ExplainsOf site text OutOfMemory = Unit {0}
ExplainsOf site text (Addresses fault) = UnlessMemory fault (IsFaultIn site text fault)
ExplainsOf site text (NoIpv4 name) = LacksEnd site text name
ExplainsOf site text why = ⊥
