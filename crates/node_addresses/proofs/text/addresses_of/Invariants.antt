use Rattle.std.proofs.Common.{◌-◌, length}
use Rattle.toml.specs.View.{table_view}
use Rattle.replay_lines.specs.Names.{node_names}
use Rattle.node_addresses.proofs.AddressesSoFar.{AreSoFar}
use Rattle.node_addresses.proofs.text.addresses_of.Given as goal

-- the nodes so far have their addresses
abbrev pub invariant-loop-name : goal.invariant-loop-name
invariant-loop-name l = AreSoFar l.network l.others (table_view l.document) (node_names l.layout) l.addresses.items

abbrev pub decreases-loop-name : goal.decreases-loop-name
decreases-loop-name l = length (node_names l.layout) - length l.addresses.items
