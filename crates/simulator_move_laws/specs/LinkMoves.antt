-- The moves that lead from what the machine sees of a link to what it sees of it next.
use Rattle.std.specs.Prelude.{◌≡◌, Bool, false, not, is_some, ◌&&◌, ◌||◌, List, [], ◌∷◌, ◌++◌, if◌then◌else◌}
use Rattle.rasta_core.specs.Ends.{outcome}
use Rattle.rasta_core.specs.Events.{Calls, Event, happened}
use Rattle.rasta_core.specs.Run.{Ends}
use Rattle.rasta_core.specs.identity.Role.TheVariants as role
use Rattle.simulator_machine.specs.Link.{Client, Quiet, Down, Start, Up, Server, Before, In, Gone, Link, LinkMove, Opens, Enters, ComesUp, Closes, Leaves, QuietEnds}
use Rattle.simulator_machine.specs.Chains.{LinkMayChain, link_chained}
use Rattle.simulator_move_laws.specs.EndsSeen.{represented}

-- those of the server
abbrev pub server_moves : Server → Server → List LinkMove
server_moves Before In = Enters ∷ []
server_moves Before Gone = Enters ∷ Leaves ∷ []
server_moves In Gone = Leaves ∷ []
server_moves _ _ = []

-- those of the client: where it leaves and its quiet time is over at once, in this order
abbrev pub client_moves : Client → Client → List LinkMove
client_moves Quiet Down = QuietEnds ∷ []
client_moves Down Quiet = Closes ∷ []
client_moves Down Start = Opens ∷ []
client_moves Start Up = ComesUp ∷ []
client_moves Start Quiet = Closes ∷ []
client_moves Start Down = Closes ∷ QuietEnds ∷ []
client_moves Up Quiet = Closes ∷ []
client_moves Up Down = Closes ∷ QuietEnds ∷ []
client_moves _ _ = []

-- those of both: the server enters and leaves first
abbrev pub moves_between : Link → Link → List LinkMove
moves_between old new = server_moves old.server new.server ++ client_moves old.client new.client

-- Each of these moves may be made where it comes, and they lead from one link to the other.
pub record LinkGoes (moves : List LinkMove) (old new : Link) : Type 0 where
  pub may : LinkMayChain moves old
  pub leads : link_chained moves old ≡ new

-- the moves of a list of events
abbrev pub moves_of : List Event → Ends → List LinkMove
moves_of [] ends = []
moves_of (event ∷ events) ends = moves_between (represented ends) (represented (happened event ends)) ++ moves_of events (happened event ends)

-- whether the server enters a connection in an event
abbrev pub server_enters : Event → Ends → Bool
server_enters (Calls role.Server call) ends = is_some (outcome call ends.moment ends.server).enters
server_enters _ ends = false

-- the moves of a server, told by whether it enters a connection, whether it was in one, and whether it is in one then
abbrev pub moves_by : (entered was is : Bool) → List LinkMove
moves_by entered was is = (if entered then Enters ∷ [] else []) ++ (if (was || entered) && not is then Leaves ∷ [] else [])
