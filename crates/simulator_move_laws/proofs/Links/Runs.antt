-- Lists of events, and what happens in a world to each of its links.
use Rattle.std.proofs.Common.{◌≡◌, ℕ, ◌<◌, Bool, true, false, List, [], ◌∷◌, ◌++◌, refl, sym, ap, subst, ◌∙◌}
use Rattle.std.specs.Prelude.{◌==◌, if◌then◌else◌}
use Rattle.std.proofs.lemmas.List.{append-nil}
use Rattle.rasta_core.specs.Ends.{Call}
use Rattle.rasta_core.specs.EachLink.{AreTimely}
use Rattle.rasta_core.specs.Events.{Calls, Elsewhere, Event, Loses, May, MayRun, Restarts, happened, run}
use Rattle.rasta_core.specs.Invariant.{Timely}
use Rattle.rasta_core.specs.Links.{AreLinks, CallsOn, Links, LinksEvent, LosesAny, MayHappenTo, MayRunLinks, PassesFor, RestartsOn, events_on, happened_to, is_oldest_on, run_links, run_on, seen}
use Rattle.rasta_core.specs.Names.{AreNames, Names}
use Rattle.rasta_core.specs.Run.{Ends}
use Rattle.rasta_core.specs.Steps.{calls_at}
use Rattle.rasta_core.specs.identity.Role.TheVariants as role
use Rattle.simulator_machine.specs.Link.{Client, Quiet, Down, Start, Up, Server, Before, In, Gone, Link, LinkMove}
use Rattle.simulator_move_laws.specs.LinkMoves.{LinkGoes, client_moves, moves_between, moves_of, server_moves}
use Rattle.simulator_move_laws.specs.EndsSeen.{client_of, represented, server_of}
use Rattle.simulator_move_laws.proofs.Links.Chains.{goes_none, goes_then, link}
use Rattle.simulator_move_laws.proofs.Links.Events.{EventLaws, event_goes}

pub run_goes : EventLaws → (names : Names) (events : List Event) (ends : Ends) → AreNames names → Timely names ends → MayRun names events ends
    → LinkGoes (moves_of events ends) (represented ends) (represented (run events ends))
run_goes laws names [] ends are timely may = goes_none (represented ends)
run_goes laws names (event ∷ events) ends are timely may =
    goes_then (moves_between (represented ends) (represented (happened event ends))) (moves_of events (happened event ends)) (represented ends) (represented (happened event ends)) (represented (run events (happened event ends)))
    (event_goes laws names are ends timely event may.0).goes (run_goes laws names events (happened event ends) are (laws.time names event ends are timely may.0) may.1)

-- ---- worlds

pub client_stays : (client : Client) → client_moves client client ≡ []
client_stays Quiet = refl
client_stays Down = refl
client_stays Start = refl
client_stays Up = refl

server_stays : (server : Server) → server_moves server server ≡ []
server_stays Before = refl
server_stays In = refl
server_stays Gone = refl

stays : (l : Link) → LinkGoes (moves_between l l) l l
stays l = subst (λ moves. LinkGoes moves l l) (sym (ap (λ moves. moves ++ client_moves l.client l.client) (server_stays l.server) ∙ client_stays l.client)) (goes_none l)

-- an event of a world is one event of a link at most
IsOneAtMost : List Event → Type 0
IsOneAtMost [] = Unit {0}
IsOneAtMost (first ∷ []) = Unit {0}
IsOneAtMost (first ∷ second ∷ others) = ⊥

by_test : (P : List Event → Type 0) (test : Bool) (one other : List Event) → P one → P other → P (if test then one else other)
by_test P true one other first second = first
by_test P false one other first second = second

one_at_most : (link : ℕ) (event : LinksEvent) (links : Links) → IsOneAtMost (events_on link event links)
unfolding IsOneAtMost
one_at_most link (CallsOn at who call) links = by_test IsOneAtMost (link == at) (Calls who call ∷ []) (Elsewhere _ ∷ []) tt tt
one_at_most link (PassesFor elapsed of_clients of_servers) links = tt
one_at_most link (LosesAny bytes) links = by_test IsOneAtMost (is_oldest_on link bytes links.sent) (Loses bytes ∷ []) [] tt tt
one_at_most link (RestartsOn at who clock first) links = by_test IsOneAtMost (link == at) (Restarts who clock first ∷ []) [] tt tt

at_most_one_goes : EventLaws → (names : Names) (events : List Event) (ends : Ends) → AreNames names → Timely names ends → MayRun names events ends → IsOneAtMost events
    → LinkGoes (moves_between (represented ends) (represented (run events ends))) (represented ends) (represented (run events ends))
unfolding IsOneAtMost
at_most_one_goes laws names [] ends are timely may one = stays (represented ends)
at_most_one_goes laws names (first ∷ []) ends are timely may one = (event_goes laws names are ends timely first may.0).goes
at_most_one_goes laws names (first ∷ second ∷ others) ends are timely may one = absurd one

abbrev pub Sees : Type 0
Sees = (link : ℕ) (event : LinksEvent) (links : Links) → seen link (happened_to event links) ≡ run (events_on link event links) (seen link links)

abbrev pub SeesRuns : Type 0
SeesRuns = (link : ℕ) (events : List LinksEvent) (links : Links) → seen link (run_links events links) ≡ run (run_on link events links) (seen link links)

abbrev pub MayHappen : Type 0
MayHappen = (count : ℕ) (names : ℕ → Names) (event : LinksEvent) (links : Links) → AreLinks count names → AreTimely count names links
    → MayHappenTo count names event links → (link : ℕ) → link < count → MayRun (names link) (events_on link event links) (seen link links)

abbrev pub MayRuns : Type 0
MayRuns = (count : ℕ) (names : ℕ → Names) (events : List LinksEvent) (links : Links) → AreLinks count names → AreTimely count names links
    → MayRunLinks count names events links → (link : ℕ) → link < count → MayRun (names link) (run_on link events links) (seen link links)

pub world_goes : EventLaws → Sees → MayHappen → (count : ℕ) (names : ℕ → Names) (event : LinksEvent) (links : Links) → AreLinks count names → AreTimely count names links
    → MayHappenTo count names event links → (link : ℕ) → link < count
    → LinkGoes (moves_between (represented (seen link links)) (represented (seen link (happened_to event links)))) (represented (seen link links)) (represented (seen link (happened_to event links)))
world_goes laws sees happens count names event links are timely may place below =
    subst (λ (new : Ends). LinkGoes (moves_between (represented (seen place links)) (represented new)) (represented (seen place links)) (represented new)) (sym (sees place event links))
    (at_most_one_goes laws (names place) (events_on place event links) (seen place links) (are.each place below) (timely.each place below)
    (happens count names event links are timely may place below) (one_at_most place event links))

pub worlds_go : EventLaws → SeesRuns → MayRuns → (count : ℕ) (names : ℕ → Names) (events : List LinksEvent) (links : Links) → AreLinks count names → AreTimely count names links
    → MayRunLinks count names events links → (link : ℕ) → link < count
    → LinkGoes (moves_of (run_on link events links) (seen link links)) (represented (seen link links)) (represented (seen link (run_links events links)))
worlds_go laws sees happens count names events links are timely may place below =
    subst (λ (new : Ends). LinkGoes (moves_of (run_on place events links) (seen place links)) (represented (seen place links)) (represented new)) (sym (sees place events links))
    (run_goes laws (names place) (run_on place events links) (seen place links) (are.each place below) (timely.each place below) (happens count names events links are timely may place below))

-- ---- calls of a server

-- the law of one event
abbrev pub Goes : Type 0
Goes = (names : Names) (event : Event) (ends : Ends) → AreNames names → Timely names ends → May names event ends
    → LinkGoes (moves_between (represented ends) (represented (happened event ends))) (represented ends) (represented (happened event ends))

-- two lists of moves of a server, one after the other
server_then : (client : Client) (old between new : Server) → LinkGoes (server_moves old between) (link client old) (link client between) → LinkGoes (server_moves between new) (link client between) (link client new)
    → LinkGoes (server_moves old new) (link client old) (link client new)
server_then client Before Before new one other = other
server_then client Before In In one other = one
server_then client Before In Gone one other = record { may = (one.may.0, (tt, tt)); leads = refl }
server_then client Before Gone Gone one other = one
server_then client In In new one other = other
server_then client In Gone Gone one other = one
server_then client Gone Gone new one other = other
server_then client In Before new one other = absurd (cc (ap (λ (l : Link). l.server) one.leads))
server_then client Gone Before new one other = absurd (cc (ap (λ (l : Link). l.server) one.leads))
server_then client Gone In new one other = absurd (cc (ap (λ (l : Link). l.server) one.leads))
server_then client Before In Before one other = absurd (cc (ap (λ (l : Link). l.server) other.leads))
server_then client Before Gone Before one other = absurd (cc (ap (λ (l : Link). l.server) other.leads))
server_then client Before Gone In one other = absurd (cc (ap (λ (l : Link). l.server) other.leads))
server_then client In Gone Before one other = absurd (cc (ap (λ (l : Link). l.server) other.leads))
server_then client In Gone In one other = absurd (cc (ap (λ (l : Link). l.server) other.leads))

-- the law of calls at one clock
abbrev pub PartnerStays : Type 0
PartnerStays = (calls : List Call) (ends : Ends) → (run (calls_at role.Server calls) ends).client ≡ ends.client

one_call : (client : Client) (old new : Server) → LinkGoes (server_moves old new ++ client_moves client client) (link client old) (link client new) → LinkGoes (server_moves old new) (link client old) (link client new)
one_call client old new goes = subst (λ moves. LinkGoes moves (link client old) (link client new)) (ap (λ (moves : List LinkMove). server_moves old new ++ moves) (client_stays client) ∙ append-nil (server_moves old new)) goes

pub calls_go : Goes → PartnerStays → ((names : Names) (event : Event) (ends : Ends) → AreNames names → Timely names ends → May names event ends → Timely names (happened event ends))
    → (names : Names) (calls : List Call) (ends : Ends) → AreNames names → Timely names ends → MayRun names (calls_at role.Server calls) ends
    → LinkGoes (server_moves (server_of ends) (server_of (run (calls_at role.Server calls) ends))) (represented ends) (represented (run (calls_at role.Server calls) ends))
unfolding represented
calls_go goes stays time names [] ends are timely may = subst (λ moves. LinkGoes moves (represented ends) (represented ends)) (sym (server_stays (server_of ends))) (goes_none (represented ends))
calls_go goes stays time names (call ∷ calls) ends are timely may =
    let next : Ends = happened (Calls role.Server call) ends
    in let last : Ends = run (calls_at role.Server calls) next
    in let first_same : client_of next.client ≡ client_of ends.client = ap client_of (stays (call ∷ []) ends)
    in let last_same : client_of last.client ≡ client_of ends.client = ap client_of (stays calls next ∙ stays (call ∷ []) ends)
    in let first : LinkGoes (server_moves (server_of ends) (server_of next)) (link (client_of ends.client) (server_of ends)) (link (client_of ends.client) (server_of next))
    = one_call (client_of ends.client) (server_of ends) (server_of next)
    (subst (λ (c : Client). LinkGoes (server_moves (server_of ends) (server_of next) ++ client_moves (client_of ends.client) c) (link (client_of ends.client) (server_of ends)) (link c (server_of next)))
    first_same (goes names (Calls role.Server call) ends are timely may.0))
    in let rest : LinkGoes (server_moves (server_of next) (server_of last)) (link (client_of ends.client) (server_of next)) (link (client_of ends.client) (server_of last))
    = subst (λ (c : Client). LinkGoes (server_moves (server_of next) (server_of last)) (link c (server_of next)) (link (client_of ends.client) (server_of last))) first_same
    (subst (λ (c : Client). LinkGoes (server_moves (server_of next) (server_of last)) (link (client_of next.client) (server_of next)) (link c (server_of last))) last_same
    (calls_go goes stays time names calls next are (time names (Calls role.Server call) ends are timely may.0) may.1))
    in subst (λ (c : Client). LinkGoes (server_moves (server_of ends) (server_of last)) (link (client_of ends.client) (server_of ends)) (link c (server_of last))) (sym last_same)
    (server_then (client_of ends.client) (server_of ends) (server_of next) (server_of last) first rest)
