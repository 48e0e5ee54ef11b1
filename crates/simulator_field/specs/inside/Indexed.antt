-- The keys by which the datagrams of a network are found.
use Rattle.std.specs.Prelude.{ℕ, List, map, if◌then◌else◌}
use Rattle.place_index.specs.Places.{key_of, no_key}
use Rattle.simulator_spec.specs.rasta_core.Ends.{Sent}
use Rattle.simulator_field.specs.Network.{datagrams}
use Rattle.simulator_field.specs.declared.entry.Entry.{Entry}
use Rattle.simulator_field.specs.inside.Entries.{on_links}

-- that of its bytes; of a lost datagram there is none
abbrev pub key_of_sent : Sent → ℕ
key_of_sent sent = if sent.is_lost then no_key else key_of sent.bytes

abbrev pub keys_of : List ℕ → List Entry → List ℕ
keys_of row entries = map key_of_sent (datagrams (on_links row entries))
