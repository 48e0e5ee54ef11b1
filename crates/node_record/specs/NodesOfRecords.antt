-- Which node of its station a record is of.
use Rattle.std.specs.Prelude.{ℕ, unwrap_or}
use Rattle.control_table.specs.layout.Entries.{Site}
use Rattle.control_table.specs.layout.Nodes.{Interlocking, Node, node_at}

-- the node of a number; one that is no node's stands for the interlocking
abbrev pub node_of : Site → ℕ → Node
node_of l number = unwrap_or (node_at l number) Interlocking
