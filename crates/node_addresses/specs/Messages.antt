-- What is printed for a fault: its number and name, and the name of the node.
use Rattle.std.specs.Prelude.{ℕ, List, ◌++◌, Option, Some, None, codes}
use Rattle.node_addresses.specs.declared.fault.AddressesFault.{AddressesFault}
use Rattle.node_addresses.specs.declared.fault.AddressesFault.TheVariants.{Toml, MissingNode, WrongAddress, DoubleAddress, UnknownNode, WrongName, OutOfMemory}

abbrev pub title : AddressesFault → List ℕ
title Toml = codes "1 Toml"
title (MissingNode name) = codes "2 MissingNode"
title (WrongAddress name) = codes "3 WrongAddress"
title (DoubleAddress name) = codes "4 DoubleAddress"
title (UnknownNode name) = codes "5 UnknownNode"
title WrongName = codes "6 WrongName"
title OutOfMemory = codes "7 OutOfMemory"

-- the node that a fault names
abbrev pub node_of : AddressesFault → Option (List ℕ)
node_of (MissingNode name) = Some name
node_of (WrongAddress name) = Some name
node_of (DoubleAddress name) = Some name
node_of (UnknownNode name) = Some name
node_of fault = None

abbrev with_node : List ℕ → Option (List ℕ) → List ℕ
with_node text (Some name) = text ++ codes " at " ++ name
with_node text None = text

abbrev pub fault_text : AddressesFault → List ℕ
fault_text fault = with_node (title fault) (node_of fault)
