-- Which text gives each node of a station an address in one network, or in each of two, and what is wrong with another.
use Rattle.std.specs.Prelude.{◌≡◌, ℕ, Bool, true, false, List, [], Option, Some, None, slice_get, is_some}
use Rattle.std.specs.declared.net.socket_addr.SocketAddr.{SocketAddr}
use Rattle.std.specs.Option.{option_and_then}
use Rattle.toml.specs.Data.{Data, Items, Members, as_array, get_member}
use Rattle.toml.specs.Parse.{parse_document}
use Rattle.control_table.specs.layout.Entries.{Site}
use Rattle.replay_lines.specs.Names.{node_names}
use Rattle.node_addresses.specs.Addresses.{AreIn, StopsIn, unknown_key}
use Rattle.node_addresses.specs.declared.fault.AddressesFault.{AddressesFault}
use Rattle.node_addresses.specs.declared.fault.AddressesFault.TheVariants.{Toml}
use Rattle.node_addresses.specs.declared.network.Network.TheVariants.{Alone, First, Second}

-- The addresses of all nodes in the first network, or the only one, and those in the second, where there are two; each in the order of
-- the layout's nodes.
pub record NetworksState : Type 0 where
  pub first : List SocketAddr
  pub second : Option (List SocketAddr)

-- an array stands under this key
abbrev pub array_under : Members → Option (List ℕ) → Bool
array_under document None = false
array_under document (Some key) = is_some (option_and_then as_array (get_member key document))

-- there are two networks where an array stands under the name of the first node, which is the station's
abbrev pub has_two : Site → Members → Bool
has_two site document = array_under document (slice_get (node_names site) 0)

-- each node has its address in each network, and no two addresses are the same
pub data AreNetworks (site : Site) (document : Members) : NetworksState → Type 0 where
  one : {addresses : List SocketAddr} → has_two site document ≡ false → AreIn Alone [] site document addresses
      → AreNetworks site document (record { first = addresses; second = None })
  two : {first second : List SocketAddr} → has_two site document ≡ true → AreIn First [] site document first → AreIn Second first site document second
      → AreNetworks site document (record { first = first; second = Some second })

-- A text is an addresses file of one network or of two, and these are its addresses.
pub record IsSoundIn (site : Site) (text : List ℕ) (networks : NetworksState) : Type 0 where
  pub document : Members
  pub is_toml : parse_document text ≡ Some document
  pub of_nodes : AreNetworks site document networks
  pub no_others : unknown_key site document ≡ None

-- Which fault such a text has, where it is none: at the first node that has no address of its own, in the first network before the
-- second, or at the first key that is the name of no node.
pub data IsFaultIn (site : Site) (text : List ℕ) : AddressesFault → Type 0 where
  no_toml : parse_document text ≡ None → IsFaultIn site text Toml
  alone : {document : Members} {fault : AddressesFault} → parse_document text ≡ Some document → has_two site document ≡ false → StopsIn Alone [] site document fault
      → IsFaultIn site text fault
  in_first : {document : Members} {fault : AddressesFault} → parse_document text ≡ Some document → has_two site document ≡ true → StopsIn First [] site document fault
      → IsFaultIn site text fault
  in_second : {document : Members} {fault : AddressesFault} {first : List SocketAddr} → parse_document text ≡ Some document → has_two site document ≡ true
      → AreIn First [] site document first → StopsIn Second first site document fault → IsFaultIn site text fault
  at_key : {document : Members} {fault : AddressesFault} {networks : NetworksState} → parse_document text ≡ Some document → AreNetworks site document networks
      → unknown_key site document ≡ Some fault → IsFaultIn site text fault
