-- Which fault a text has that gives no networks, by where reading it stops.
use Rattle.std.proofs.Common.{◌≡◌, ℕ, List, None, Some, sym, subst}
use Rattle.toml.specs.Data.{Members}
use Rattle.toml.specs.Parse.{parse_document}
use Rattle.control_table.specs.layout.Entries.{Site}
use Rattle.node_addresses.specs.declared.fault.AddressesFault.{AddressesFault}
use Rattle.node_addresses.specs.declared.fault.AddressesFault.TheVariants.{Toml}
use Rattle.node_addresses.specs.Addresses.{UnlessMemory, unknown_key}
use Rattle.node_addresses.specs.Networks.{AreNetworks, IsFaultIn, NetworksState, alone, at_key, in_first, in_second, no_toml}
use Rattle.node_addresses.specs.inside.NetworksRead.{StopsInNetworks, stops_alone, stops_in_first, stops_in_second}
use Rattle.node_addresses.proofs.Explained.{anyway, unless_memory}

module _ (site : Site) (text : List ℕ) where
  stops_there : (document : Members) (fault : AddressesFault) → parse_document text ≡ Some document → StopsInNetworks site document fault → IsFaultIn site text fault
  stops_there document fault is (stops_alone one stops) = alone is one stops
  stops_there document fault is (stops_in_first two stops) = in_first is two stops
  stops_there document fault is (stops_in_second two first stops) = in_second is two first stops

  pub document_fault : (fault : AddressesFault) → UnlessMemory fault ((fault ≡ Toml) × (parse_document text ≡ None)) → UnlessMemory fault (IsFaultIn site text fault)
  document_fault fault said = unless_memory fault (λ is. subst (λ (f : AddressesFault). IsFaultIn site text f) (sym is.0) (no_toml is.1)) said

  pub node_fault : (document : Members) (fault : AddressesFault) → parse_document text ≡ Some document → UnlessMemory fault (StopsInNetworks site document fault) → UnlessMemory fault (IsFaultIn site text fault)
  node_fault document fault is said = unless_memory fault (λ stops. stops_there document fault is stops) said

  pub key_fault : (document : Members) (networks : NetworksState) (fault : AddressesFault) → parse_document text ≡ Some document → AreNetworks site document networks
      → unknown_key site document ≡ Some fault → UnlessMemory fault (IsFaultIn site text fault)
  key_fault document networks fault is nodes unknown = anyway fault (at_key is nodes unknown)
