-- In each network there are no more addresses than nodes.
use Rattle.std.proofs.Common.{◌≤◌, ℕ, List, length, arith}
use Rattle.control_table.specs.layout.Entries.{Site}
use Rattle.replay_lines.specs.Names.{node_names}
use Rattle.station_check.specs.node_addresses.Networks.{AreNetworks, IsSoundIn, NetworksState, one, two}
use Rattle.node_record.specs.GivenEnds.{second_of}

first_counted : (site : Site) (text : List ℕ) (networks : NetworksState) (sound : IsSoundIn site text networks) → AreNetworks site sound.document networks → length networks.first ≤ length (node_names site)
first_counted site text networks sound (one has are) = omega (arith, are.count)
first_counted site text networks sound (two has are others) = omega (arith, are.count)

second_counted : (site : Site) (text : List ℕ) (networks : NetworksState) (sound : IsSoundIn site text networks) → AreNetworks site sound.document networks → length (second_of networks) ≤ length (node_names site)
second_counted site text networks sound (one has are) = omega arith
second_counted site text networks sound (two has are others) = omega (arith, others.count)

pub in_first : (site : Site) (text : List ℕ) (networks : NetworksState) → IsSoundIn site text networks → length networks.first ≤ length (node_names site)
in_first site text networks sound = first_counted site text networks sound sound.of_nodes

pub in_second : (site : Site) (text : List ℕ) (networks : NetworksState) → IsSoundIn site text networks → length (second_of networks) ≤ length (node_names site)
in_second site text networks sound = second_counted site text networks sound sound.of_nodes
