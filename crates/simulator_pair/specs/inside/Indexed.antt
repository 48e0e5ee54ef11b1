-- The keys by which the datagrams that were sent are found.
use Rattle.std.specs.Prelude.{ℕ, List, map, if◌then◌else◌}
use Rattle.place_index.specs.Places.{key_of, no_key}
use Rattle.rasta_core.specs.Ends.{Sent}

-- that of its bytes; of a lost datagram there is none
abbrev pub key_of_sent : Sent → ℕ
key_of_sent sent = if sent.is_lost then no_key else key_of sent.bytes

abbrev pub keys_of : List Sent → List ℕ
keys_of sent = map key_of_sent sent
