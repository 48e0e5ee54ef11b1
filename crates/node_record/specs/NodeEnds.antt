-- Where the nodes of a station are found in captures.
use Rattle.std.specs.Prelude.{ℕ, ◌+◌, ◌/◌, ◌%◌, List, [], ◌∷◌, slice_index_or}
use Rattle.capture_file.specs.NodeEnds.{end_of}
use Rattle.capture_file.specs.declared.journey.Endpoint.{Endpoint}
use Rattle.station_check.specs.node_addresses.declared.network.Network.{Network}
use Rattle.station_check.specs.node_addresses.declared.network.Network.TheVariants.{Alone, First, Second}
use Rattle.node_record.specs.declared.node_ends.NodeEnds.{NodeEnds}

-- the ends of the first nodes in the only network or the first, and those in the second
pub record Ends : Type 0 where
  pub first : List Endpoint
  pub second : List Endpoint

abbrev pub ends_of : NodeEnds → Ends
ends_of given = record { first = given.first.now; second = given.second.now }

-- An end in the second network that is made of a node's place. The first network has 10.0 for 10.1.
abbrev pub placed_in_second : ℕ → Endpoint
placed_in_second place = record { address = 10 ∷ 1 ∷ place / 250 % 250 ∷ (place % 250 + 1) ∷ []; port = 40100 }

-- where the node of a place is found in a network
abbrev pub end_in : Ends → Network → ℕ → Endpoint
end_in given Second place = slice_index_or given.second place (placed_in_second place)
end_in given other place = end_of given.first place
