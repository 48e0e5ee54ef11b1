-- The calls of an interlocking's client as calls of the client's end of a link.
use Rattle.std.specs.Prelude.{ℕ, List, map}
use Rattle.simulator_link_laws.specs.rasta_core.Ends.{Call}
use Rattle.simulator_link_laws.specs.ixl_client.ClientSoFar.{LinkCall, as_call}

abbrev pub as_calls : ℕ → List LinkCall → List Call
as_calls connection made = map (as_call connection) made
