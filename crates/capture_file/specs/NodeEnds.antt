-- Where the nodes of a network are found.
use Rattle.std.specs.Prelude.{ℕ, ◌+◌, ◌/◌, ◌%◌, List, [], ◌∷◌, slice_index_or}
use Rattle.capture_file.specs.declared.journey.Endpoint.{Endpoint}

-- an address that is made of a node's place, and the port of all that have one
abbrev pub placed : ℕ → Endpoint
placed place = record { address = 10 ∷ 0 ∷ place / 250 % 250 ∷ (place % 250 + 1) ∷ []; port = 40100 }

-- Where that is given, the end of each from the first on; otherwise the one that is made of the place.
abbrev pub end_of : List Endpoint → ℕ → Endpoint
end_of given place = slice_index_or given place (placed place)
