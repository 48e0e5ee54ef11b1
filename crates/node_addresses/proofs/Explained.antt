-- Which fault a text has, by where reading it stops.
use Rattle.std.proofs.Common.{◌≡◌, ℕ, List, length, None, Some, slice_get, sym, subst}
use Rattle.std.specs.declared.net.socket_addr.SocketAddr.{SocketAddr}
use Rattle.toml.specs.Data.{Members}
use Rattle.toml.specs.Parse.{parse_document}
use Rattle.control_table.specs.layout.Entries.{Site}
use Rattle.replay_lines.specs.Names.{node_names}
use Rattle.node_addresses.specs.declared.fault.AddressesFault.{AddressesFault}
use Rattle.node_addresses.specs.declared.fault.AddressesFault.TheVariants.{Toml, MissingNode, WrongAddress, DoubleAddress, UnknownNode, WrongName, OutOfMemory}
use Rattle.node_addresses.specs.declared.network.Network.{Network}
use Rattle.node_addresses.specs.Addresses.{AreOfNodes, HasNone, IsFault, no_toml, at_node, at_key, IsSound, StopsAtNode, StopsIn, UnlessMemory, unknown_key}
use Rattle.node_addresses.proofs.AddressesSoFar.{AreSoFar}
use Rattle.node_addresses.proofs.Refuted.{refuted}

-- what is told unless memory was refused leads to what follows
pub unless_memory : {P Q : Type 0} (fault : AddressesFault) → (P → Q) → UnlessMemory fault P → UnlessMemory fault Q
unless_memory Toml follows said = follows said
unless_memory (MissingNode name) follows said = follows said
unless_memory (WrongAddress name) follows said = follows said
unless_memory (DoubleAddress name) follows said = follows said
unless_memory (UnknownNode name) follows said = follows said
unless_memory WrongName follows said = follows said
unless_memory OutOfMemory follows said = tt

pub anyway : {P : Type 0} (fault : AddressesFault) → P → UnlessMemory fault P
anyway Toml said = said
anyway (MissingNode name) said = said
anyway (WrongAddress name) said = said
anyway (DoubleAddress name) said = said
anyway (UnknownNode name) said = said
anyway WrongName said = said
anyway OutOfMemory said = tt

-- reading stops at the node that comes next
pub stops_there : (network : Network) (others : List SocketAddr) (site : Site) (document : Members) (before : List SocketAddr) (name : List ℕ) (fault : AddressesFault) → AreSoFar network others document (node_names site) before
    → slice_get (node_names site) (length before) ≡ Some name → HasNone network others document name before fault → UnlessMemory fault (StopsIn network others site document fault)
stops_there network others site document before name fault found next why =
    anyway fault (record { before = before; each = found.0; once = found.1; name = name; is_next = next; why = why })

module _ (site : Site) (text : List ℕ) where
  pub document_fault : (fault : AddressesFault) → UnlessMemory fault ((fault ≡ Toml) × (parse_document text ≡ None)) → UnlessMemory fault (IsFault site text fault)
  document_fault fault said = unless_memory fault (λ is. subst (λ (f : AddressesFault). IsFault site text f) (sym is.0) (no_toml is.1)) said

  pub node_fault : (document : Members) (fault : AddressesFault) → parse_document text ≡ Some document → UnlessMemory fault (StopsAtNode site document fault) → UnlessMemory fault (IsFault site text fault)
  node_fault document fault is said = unless_memory fault (λ stops. at_node is stops) said

  pub key_fault : (document : Members) (addresses : List SocketAddr) (fault : AddressesFault) → parse_document text ≡ Some document → AreOfNodes site document addresses
      → unknown_key site document ≡ Some fault → UnlessMemory fault (IsFault site text fault)
  key_fault document addresses fault is nodes unknown = anyway fault (at_key is nodes unknown)

  pub only_where_none : (fault : AddressesFault) → UnlessMemory fault (IsFault site text fault) → UnlessMemory fault ((addresses : List SocketAddr) → IsSound site text addresses → ⊥)
  only_where_none fault said = unless_memory fault (λ is. refuted site text fault is) said
