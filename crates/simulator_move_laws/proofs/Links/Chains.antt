-- Lists of moves of a link, one after another.
use Rattle.std.proofs.Common.{◌≡◌, ◌≢◌, List, [], ◌∷◌, ◌++◌, refl, ap, subst, sym, ◌∙◌}
use Rattle.simulator_machine.specs.Link.{Client, Quiet, Down, Start, Up, Server, Before, In, Gone, Link, LinkMove, link_after}
use Rattle.simulator_machine.specs.Chains.{LinkMayChain, link_chained}
use Rattle.simulator_move_laws.specs.LinkMoves.{LinkGoes, client_moves, moves_between, server_moves}

pub goes_none : (link : Link) → LinkGoes [] link link
goes_none link = record { may = tt; leads = refl }

may_then : (first second : List LinkMove) (link : Link) → LinkMayChain first link → LinkMayChain second (link_chained first link) → LinkMayChain (first ++ second) link
may_then [] second link may later = later
may_then (move ∷ others) second link may later = (may.0, may_then others second (link_after move link) may.1 later)

chained_then : (first second : List LinkMove) (link : Link) → link_chained (first ++ second) link ≡ link_chained second (link_chained first link)
chained_then [] second link = refl
chained_then (move ∷ others) second link = chained_then others second (link_after move link)

pub goes_then : (first second : List LinkMove) (old between new : Link) → LinkGoes first old between → LinkGoes second between new → LinkGoes (first ++ second) old new
goes_then first second old between new one other = record {
  may = may_then first second old one.may (subst (LinkMayChain second) (sym one.leads) other.may);
  leads = chained_then first second old ∙ ap (link_chained second) one.leads ∙ other.leads;
}

abbrev pub link : Client → Server → Link
link client server = record { client = client; server = server }

-- when the server may go from one place to another
abbrev pub ServerMay : Client → Server → Server → Type 0
ServerMay client Before Before = Unit {0}
ServerMay client Before In = client ≢ Down
ServerMay client Before Gone = client ≢ Down
ServerMay client In Before = ⊥
ServerMay client In In = Unit {0}
ServerMay client In Gone = Unit {0}
ServerMay client Gone Before = ⊥
ServerMay client Gone In = ⊥
ServerMay client Gone Gone = Unit {0}

-- when the client may, without opening
abbrev pub ClientMay : Server → Client → Client → Type 0
ClientMay server Quiet Quiet = Unit {0}
ClientMay server Quiet Down = server ≢ In
ClientMay server Quiet Start = ⊥
ClientMay server Quiet Up = ⊥
ClientMay server Down Quiet = Unit {0}
ClientMay server Down Down = Unit {0}
ClientMay server Down Start = ⊥
ClientMay server Down Up = ⊥
ClientMay server Start Quiet = Unit {0}
ClientMay server Start Down = server ≢ In
ClientMay server Start Start = Unit {0}
ClientMay server Start Up = server ≢ Before
ClientMay server Up Quiet = Unit {0}
ClientMay server Up Down = server ≢ In
ClientMay server Up Start = ⊥
ClientMay server Up Up = Unit {0}

server_goes : (client : Client) (old new : Server) → ServerMay client old new → LinkGoes (server_moves old new) (link client old) (link client new)
server_goes client Before Before may = goes_none (link client Before)
server_goes client Before In may = record { may = ((refl, may), tt); leads = refl }
server_goes client Before Gone may = record { may = ((refl, may), (tt, tt)); leads = refl }
server_goes client In Before may = absurd may
server_goes client In In may = goes_none (link client In)
server_goes client In Gone may = record { may = (tt, tt); leads = refl }
server_goes client Gone Before may = absurd may
server_goes client Gone In may = absurd may
server_goes client Gone Gone may = goes_none (link client Gone)

client_goes : (server : Server) (old new : Client) → ClientMay server old new → LinkGoes (client_moves old new) (link old server) (link new server)
client_goes server Quiet Quiet may = goes_none (link Quiet server)
client_goes server Quiet Down may = record { may = (may, tt); leads = refl }
client_goes server Quiet Start may = absurd may
client_goes server Quiet Up may = absurd may
client_goes server Down Quiet may = record { may = (tt, tt); leads = refl }
client_goes server Down Down may = goes_none (link Down server)
client_goes server Down Start may = absurd may
client_goes server Down Up may = absurd may
client_goes server Start Quiet may = record { may = (tt, tt); leads = refl }
client_goes server Start Down may = record { may = (tt, (may, tt)); leads = refl }
client_goes server Start Start may = goes_none (link Start server)
client_goes server Start Up may = record { may = (may, tt); leads = refl }
client_goes server Up Quiet may = record { may = (tt, tt); leads = refl }
client_goes server Up Down may = record { may = (tt, (may, tt)); leads = refl }
client_goes server Up Start may = absurd may
client_goes server Up Up may = goes_none (link Up server)

-- both ends go on: first the server, and then the client
pub both_go : (client later : Client) (server after : Server) → ServerMay client server after → ClientMay after client later
    → LinkGoes (moves_between (link client server) (link later after)) (link client server) (link later after)
both_go client later server after servers clients =
    goes_then (server_moves server after) (client_moves client later) (link client server) (link client after) (link later after)
    (server_goes client server after servers) (client_goes after client later clients)

-- the client opens, and the server is before the connection then
pub opening_goes : (server : Server) → LinkGoes (moves_between (link Down server) (link Start Before)) (link Down server) (link Start Before)
opening_goes Before = record { may = (refl, tt); leads = refl }
opening_goes In = record { may = (refl, tt); leads = refl }
opening_goes Gone = record { may = (refl, tt); leads = refl }
