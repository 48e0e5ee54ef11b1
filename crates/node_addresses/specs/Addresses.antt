-- Which text gives each node of a station an address of its own, or one in each of two networks, and what is wrong with another.
use Rattle.std.specs.Prelude.{◌≡◌, ◌≢◌, ℕ, if◌then◌else◌, Bool, true, false, List, [], ◌∷◌, ◌++◌, length, Option, Some, None, slice_get, Result, Ok, Err}
use Rattle.std.specs.List.{Contains}
use Rattle.std.specs.Option.{option_and_then}
use Rattle.std.specs.Net.Grammar.{IsSocketText}
use Rattle.std.specs.Net.Socket.{socket_port}
use Rattle.std.specs.declared.net.socket_addr.SocketAddr.{SocketAddr}
use Rattle.toml.specs.Data.{Data, Items, no_items, item, Members, no_members, member, get_member, as_array, as_str}
use Rattle.toml.specs.Parse.{parse_document}
use Rattle.replay_words.specs.declared.fault.Fault.{Fault}
use Rattle.control_table.specs.layout.Entries.{Site}
use Rattle.control_table.specs.layout.Once.{Distinct}
use Rattle.control_table.specs.layout.declared.ids.NodeId.{NodeId}
use Rattle.replay_lines.specs.Names.{node_named, node_names}
use Rattle.node_addresses.specs.Keys.{is_name}
use Rattle.node_addresses.specs.declared.fault.AddressesFault.{AddressesFault}
use Rattle.node_addresses.specs.declared.network.Network.{Network}
use Rattle.node_addresses.specs.declared.network.Network.TheVariants.{Alone, First, Second}
use Rattle.node_addresses.specs.declared.fault.AddressesFault.TheVariants.{Toml, MissingNode, WrongAddress, DoubleAddress, UnknownNode, WrongName, OutOfMemory}

-- ---- one address

-- a text writes an address: an IP address and a port from 1 on
abbrev pub WritesAddress : List ℕ → SocketAddr → Type 0
WritesAddress text address = IsSocketText text address × (socket_port address ≢ 0)

-- the value of two items that stands in a network
abbrev pub first_of : Items → Option Data
first_of (item one (item other no_items)) = Some one
first_of items = None

abbrev pub second_of : Items → Option Data
second_of (item one (item other no_items)) = Some other
second_of items = None

-- what of a node's value stands for its address in a network: all of it where there is one, or one of two items
abbrev pub part_in : Network → Data → Option Data
part_in Alone value = Some value
part_in First value = option_and_then first_of (as_array value)
part_in Second value = option_and_then second_of (as_array value)

abbrev pub text_in : Network → Data → Option (List ℕ)
text_in network value = option_and_then as_str (part_in network value)

-- a value gives an address in a network by such a text
abbrev pub GivesAddress : Network → Data → SocketAddr → Type 0
GivesAddress network value address = (text : List ℕ) × (text_in network value ≡ Some text) × WritesAddress text address

-- it stands under this key
abbrev pub StandsUnder : Network → Members → List ℕ → SocketAddr → Type 0
StandsUnder network document key address = (value : Data) × (get_member key document ≡ Some value) × GivesAddress network value address

-- ---- all of them

-- each address stands under the name at its place
abbrev pub StandUnder : Network → Members → List (List ℕ) → List SocketAddr → Type 0
StandUnder network document names addresses = (place : ℕ) (address : SocketAddr) → slice_get addresses place ≡ Some address
    → (name : List ℕ) × (slice_get names place ≡ Some name) × StandsUnder network document name address

-- Each node has its address in a network, in the order of the layout's nodes, and no two have the same, nor one of these others.
pub record AreIn (network : Network) (others : List SocketAddr) (site : Site) (document : Members) (addresses : List SocketAddr) : Type 0 where
  pub count : length addresses ≡ length (node_names site)
  pub each : StandUnder network document (node_names site) addresses
  pub once : Distinct (others ++ addresses)

-- in the only network
abbrev pub AreOfNodes : Site → Members → List SocketAddr → Type 0
AreOfNodes = AreIn Alone []

-- a key that hasn't the form of a name isn't told
abbrev pub unknown : List ℕ → AddressesFault
unknown key = if is_name key then UnknownNode key else WrongName

abbrev pub unless_node : Result NodeId Fault → List ℕ → Option AddressesFault → Option AddressesFault
unless_node (Ok node) key behind = behind
unless_node (Err fault) key behind = Some (unknown key)

-- the fault of the first key that names no node
abbrev pub unknown_key : Site → Members → Option AddressesFault
unknown_key site no_members = None
unknown_key site (member key value behind) = unless_node (node_named site key) key (unknown_key site behind)

-- A text is an addresses file, and these are its addresses.
pub record IsSound (site : Site) (text : List ℕ) (addresses : List SocketAddr) : Type 0 where
  pub document : Members
  pub is_toml : parse_document text ≡ Some document
  pub of_nodes : AreOfNodes site document addresses
  pub no_others : unknown_key site document ≡ None

-- ---- faults

-- why a node has no address of its own in a network, where those before it have these, and these others are taken
abbrev pub HasNone : Network → List SocketAddr → Members → List ℕ → List SocketAddr → AddressesFault → Type 0
HasNone network others document name before (MissingNode told) = (told ≡ name) × (get_member name document ≡ None)
HasNone network others document name before (WrongAddress told) =
    (told ≡ name) × (value : Data) × (get_member name document ≡ Some value) × ((address : SocketAddr) → ¬ (GivesAddress network value address))
HasNone network others document name before (DoubleAddress told) =
    (told ≡ name) × (address : SocketAddr) × StandsUnder network document name address × Contains (others ++ before) address
HasNone network others document name before _ = ⊥

-- The first node in the order of the layout that has no address of its own in a network.
pub record StopsIn (network : Network) (others : List SocketAddr) (site : Site) (document : Members) (fault : AddressesFault) : Type 0 where
  pub before : List SocketAddr
  pub each : StandUnder network document (node_names site) before
  pub once : Distinct (others ++ before)
  pub name : List ℕ
  pub is_next : slice_get (node_names site) (length before) ≡ Some name
  pub why : HasNone network others document name before fault

abbrev pub StopsAtNode : Site → Members → AddressesFault → Type 0
StopsAtNode = StopsIn Alone []

-- which fault a text has, where it is no addresses file
pub data IsFault (site : Site) (text : List ℕ) : AddressesFault → Type 0 where
  no_toml : parse_document text ≡ None → IsFault site text Toml
  at_node : {document : Members} {fault : AddressesFault} → parse_document text ≡ Some document → StopsAtNode site document fault → IsFault site text fault
  at_key : {document : Members} {fault : AddressesFault} {addresses : List SocketAddr} → parse_document text ≡ Some document → AreOfNodes site document addresses
      → unknown_key site document ≡ Some fault → IsFault site text fault

-- want of memory is told in place of all else
abbrev pub UnlessMemory : AddressesFault → Type 0 → Type 0
UnlessMemory OutOfMemory said = Unit {0}
UnlessMemory fault said = said
