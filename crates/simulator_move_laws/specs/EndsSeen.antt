-- What the machine of a station sees of the two ends of a link.
use Rattle.std.specs.Prelude.{ℕ, ◌==◌, Bool, true, false, Option, Some, None}
use Rattle.rasta_core.specs.Clock.{state_at}
use Rattle.rasta_core.specs.Ends.{EndState, reading_of}
use Rattle.rasta_core.specs.Run.{Ends}
use Rattle.rasta_core.specs.phase.State.{State}
use Rattle.rasta_core.specs.phase.State.TheVariants as state
use Rattle.simulator_machine.specs.Link.{Client, Quiet, Down, Start, Up, Server, Before, In, Gone, Link}

-- the state of an end at its clock
abbrev pub state_of : EndState → State
state_of end = state_at (reading_of end.clock) end.link

abbrev pub client_in : State → Client
client_in state.Quiet = Quiet
client_in state.Down = Down
client_in state.Start = Start
client_in state.Up = Up
client_in state.RetransmissionRequested = Up
client_in state.RetransmissionRunning = Up

-- in a connection
abbrev pub is_inside : State → Bool
is_inside state.Quiet = false
is_inside state.Down = false
is_inside state.Start = true
is_inside state.Up = true
is_inside state.RetransmissionRequested = true
is_inside state.RetransmissionRunning = true

-- the same connection, or none
abbrev pub is_same_connection : Option ℕ → Option ℕ → Bool
is_same_connection None None = true
is_same_connection (Some one) (Some other) = one == other
is_same_connection _ _ = false

-- A server inside a connection is in the client's last one. A server outside has left it, where it was in that one, and
-- hasn't entered it otherwise. A client that has had no connection is one that its server has left.
abbrev pub server_in : Bool → Bool → Server
server_in true was = In
server_in false true = Gone
server_in false false = Before

abbrev pub client_of : EndState → Client
client_of end = client_in (state_of end)

abbrev pub server_of : Ends → Server
server_of ends = server_in (is_inside (state_of ends.server)) (is_same_connection ends.client.connection ends.server.connection)

-- the link of the machine that two ends are
unfoldable pub represented : Ends → Link
represented ends = record { client = client_of ends.client; server = server_of ends }
