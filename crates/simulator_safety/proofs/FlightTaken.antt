-- What a controller takes was in flight to it.
use Rattle.std.proofs.Common.{◌≡◌, ◌∙◌, ◌+◌, ◌<◌, Bool, true, false, ℕ, zero, suc, List, [], ◌∷◌, ◌++◌, length, Option, Some, None, append_assoc, refl, sym, ap, subst, arith}
use Rattle.std.specs.Prelude.{slice_get}
use Rattle.std.specs.List.{Contains}
use Rattle.std.proofs.lemmas.Bool.{true≢false}
use Rattle.simulator_link_laws.specs.layout.Entries.{Site}
use Rattle.simulator_link_laws.specs.rasta_core.Calls.{receiving}
use Rattle.simulator_link_laws.specs.rasta_core.Ends.{Call, EndState, Outcome, Receives, end_after, kept, newer, outcome, reading_of}
use Rattle.simulator_link_laws.specs.rasta_core.Events as link_events
use Rattle.simulator_link_laws.specs.rasta_core.Events.{MayCall}
use Rattle.simulator_link_laws.specs.rasta_core.Given.{items_given}
use Rattle.simulator_link_laws.specs.rasta_core.Invariant.{Timely}
use Rattle.simulator_link_laws.specs.rasta_core.Links.{Links, OnLink, of_link, seen}
use Rattle.simulator_link_laws.specs.rasta_core.Names.{AreNames, Names}
use Rattle.simulator_link_laws.specs.rasta_core.Run.{Ends, called}
use Rattle.simulator_link_laws.specs.rasta_core.Safe.{AreSafe, DoesNothing}
use Rattle.simulator_link_laws.specs.rasta_core.State.{LinkState, is_open}
use Rattle.simulator_link_laws.specs.rasta_core.identity.Role.TheVariants as role
use Rattle.simulator_link_laws.specs.simulator_move_laws.Flows.{EntersRightly}
use Rattle.simulator_link_laws.specs.simulator_move_laws.Lawful.{IsLawful}
use Rattle.simulator_link_laws.specs.Nodes.{IsEndOfServer}
use Rattle.simulator_link_laws.specs.simulator_spec.Links.{names_at}
use Rattle.simulator_link_laws.specs.simulator_spec.Nodes.{links}
use Rattle.simulator_link_laws.specs.simulator_spec.State.{ClockedControllerState, WorldState}
use Rattle.simulator_safety.specs.InFlight.{IsInFlight, given_on, items_taken}
use Rattle.simulator_safety.specs.Represents.{IsNetworkOf}
use Rattle.simulator_safety.proofs.FlightEnds.{FlightLaws, settled_taken}
use Rattle.simulator_safety.proofs.WorldLists.{contains_none}

pub record TakingLaws : Type 0 where
  pub flight : FlightLaws
  pub kept : (names : Names) (event : link_events.Event) (ends : Ends) → AreNames names → IsLawful names ends → link_events.May names event ends → IsLawful names (link_events.happened event ends)
  pub safe : (names : Names) (ends : Ends) → IsLawful names ends → AreSafe ends
  pub enters : (names : Names) (call : Call) (entered : ℕ) (ends : Ends) → AreNames names → Timely names ends → MayCall names role.Server call ends
      → (outcome call ends.moment ends.server).enters ≡ Some entered → EntersRightly entered ends
  pub nothing : (call : Call) (moment : ℕ) (end : EndState) → is_open end.link.phase ≡ false → (outcome call moment end).enters ≡ None → DoesNothing (outcome call moment end)

-- ---- lists

-- one of a list stands at a place of it, and after another list at a later one
place_of : {A : Type 0} (list : List A) (one : A) → Contains list one → (place : ℕ) × (slice_get list place ≡ Some one)
place_of [] one contained = absurd (contains_none one contained)
place_of (head ∷ list) one (zero, within, at) = (0, ap (λ x. Some x) at)
place_of (head ∷ list) one (suc place, within, at) = let found = place_of list one (place, omega (arith, within), at) in (suc found.0, found.1)

get_behind : {A : Type 0} (first rest : List A) (place : ℕ) → slice_get (first ++ rest) (length first + place) ≡ slice_get rest place
get_behind [] rest place = ap (slice_get rest) same where
  same : 0 + place ≡ place
  same = omega arith
get_behind (head ∷ first) rest place = ap (slice_get (head ∷ (first ++ rest))) same ∙ get_behind first rest place where
  same : suc (length first) + place ≡ suc (length first + place)
  same = omega arith

get_before : {A : Type 0} (first rest : List A) (place : ℕ) (one : A) → slice_get first place ≡ Some one → slice_get (first ++ rest) place ≡ Some one
get_before [] rest place one at = absurd (cc (at))
get_before (head ∷ first) rest zero one at = at
get_before (head ∷ first) rest (suc place) one at = get_before first rest place one at

-- ---- one call of a server

client_stays : (call : Call) (ends : Ends) → (called role.Server call ends).client ≡ ends.client
unfolding called
client_stays call ends = refl

server_after : (call : Call) (ends : Ends) → (called role.Server call ends).server ≡ end_after (outcome call ends.moment ends.server) ends.moment ends.server
unfolding called
server_after call ends = refl

taken_after : (made : Outcome) (moment : ℕ) (end : EndState) → (end_after made moment end).taken ≡ kept made.enters end.taken ++ made.taken
unfolding end_after
taken_after made moment end = refl

connection_after : (made : Outcome) (moment : ℕ) (end : EndState) → (end_after made moment end).connection ≡ newer made.enters end.connection
unfolding end_after
connection_after made moment end = refl

items_of : (bytes : List ℕ) (connection moment : ℕ) (end : EndState) → (outcome (Receives bytes connection) moment end).taken ≡ (receiving (reading_of end.clock) bytes end.link).items
unfolding outcome
items_of bytes connection moment end = refl

module _ {Object : Type 0} (laws : TakingLaws) (site : Site) (world : WorldState) (network : Links) (linked : IsNetworkOf site world network) (link : ℕ) (below : link < links site) (names_are : AreNames (names_at site link))
    (controller : ClockedControllerState Object) (end : IsEndOfServer controller (network.ends link).server) (bytes : List ℕ) (connection : ℕ)
    (may : MayCall (names_at site link) role.Server (Receives bytes connection) (seen link network)) (item : List ℕ) (takes : Contains (items_taken bytes controller) item) where
  abbrev ends : Ends
  ends = seen link network

  abbrev made : Outcome
  made = outcome (Receives bytes connection) ends.moment ends.server

  abbrev new : Ends
  new = called role.Server (Receives bytes connection) ends

  lawful : IsLawful (names_at site link) ends
  lawful = laws.flight.each (links site) (names_at site) network linked.lawful link below

  safe_after : AreSafe new
  safe_after = laws.safe (names_at site link) new (laws.kept (names_at site link) (link_events.Calls role.Server (Receives bytes connection)) ends names_are lawful may)

  taken_is : made.taken ≡ items_taken bytes controller
  taken_is = items_of bytes connection ends.moment ends.server ∙ ap (λ (clock : ℕ). (receiving (reading_of clock) bytes ends.server.link).items) end.clock_is
      ∙ ap (λ (l : LinkState). (receiving (reading_of controller.clock) bytes l).items) end.link_is

  among : Contains made.taken item
  among = subst (λ (items : List (List ℕ)). Contains items item) (sym taken_is) takes

  none_taken : made.taken ≡ [] → ⊥
  none_taken none = contains_none item (subst (λ (items : List (List ℕ)). Contains items item) none among)

  -- what the client gave, when the server is in a connection after the call
  given_after : (one : ℕ) → ends.client.connection ≡ Some one → newer made.enters ends.server.connection ≡ Some one
      → (rest : List (List ℕ)) × (ends.client.given ≡ (kept made.enters ends.server.taken ++ made.taken) ++ rest)
  given_after one client server =
      let is = (safe_after one (ap (λ (e : EndState). e.connection) (client_stays (Receives bytes connection) ends) ∙ client)
      (ap (λ (e : EndState). e.connection) (server_after (Receives bytes connection) ends) ∙ connection_after made ends.moment ends.server ∙ server)).0
      in (
        is.rest,
        ap (λ (e : EndState). e.given) (sym (client_stays (Receives bytes connection) ends)) ∙ is.beginning
            ∙ ap (λ (taken : List (List ℕ)). taken ++ is.rest) (ap (λ (e : EndState). e.taken) (server_after (Receives bytes connection) ends) ∙ taken_after made ends.moment ends.server),
      )

  -- a server that enters a connection takes nothing with it
  entering_takes_none : (entered : ℕ) → made.enters ≡ Some entered → ⊥
  entering_takes_none entered enters =
      let rightly = laws.enters (names_at site link) (Receives bytes connection) entered ends names_are lawful.timely may enters in
      let given = given_after entered rightly.connection (ap (λ (e : Option ℕ). newer e ends.server.connection) enters) in
      let none = (laws.flight.before (names_at site link) ends lawful rightly.before).0 in
      let found = place_of made.taken item among in
      let there : slice_get ends.client.given found.0 ≡ Some item = ap (λ (items : List (List ℕ)). slice_get items found.0) (given.1 ∙ ap (λ (e : Option ℕ). (kept e ends.server.taken ++ made.taken) ++ given.0) enters)
      ∙ get_before made.taken given.0 found.0 item found.1
      in absurd (nothing_there found.0 (ap (λ (items : List (List ℕ)). slice_get items found.0) (sym none) ∙ there))
    where
      nothing_there : (place : ℕ) → slice_get [] place ≡ Some item → ⊥
      nothing_there place at = cc (at)

  module _ (opened : is_open ends.server.link.phase ≡ true) (stays : made.enters ≡ None) where
    in_flight : IsInFlight site world link controller item
    in_flight =
        let one = laws.flight.one (names_at site link) ends lawful.timely opened in
        let given = given_after one.connection one.client (ap (λ (e : Option ℕ). newer e ends.server.connection) stays ∙ one.server) in
        let found = place_of made.taken item among in
        let all : ends.client.given ≡ ends.server.taken ++ (made.taken ++ given.0) = given.1 ∙ ap (λ (e : Option ℕ). (kept e ends.server.taken ++ made.taken) ++ given.0) stays
        ∙ append_assoc ends.server.taken made.taken given.0 in
        let there : slice_get ends.client.given (length ends.server.taken + found.0) ≡ Some item = ap (λ (items : List (List ℕ)). slice_get items (length ends.server.taken + found.0)) all
        ∙ get_behind ends.server.taken (made.taken ++ given.0) found.0 ∙ get_before made.taken given.0 found.0 item found.1 in
        let read : ends.client.given ≡ given_on site world link role.Client one.connection = lawful.given role.Client one.connection one.client
        ∙ ap (λ (sent : List OnLink). items_given (names_at site link) role.Client one.connection (of_link link sent)) linked.are.sent_is in
        let counted = (laws.flight.counts (names_at site link) ends lawful).taken opened in
        let keeps = ap (λ (l : LinkState). l.taken) end.link_is ∙ settled_taken (reading_of controller.clock) controller.host.link
        in record {
          connection = one.connection;
          last = laws.flight.begun site world network linked.whole linked.are link below ∙ ap (λ (c : Option ℕ). Some c) one.client;
          number = length ends.server.taken + found.0;
          given = ap (λ (items : List (List ℕ)). slice_get items (length ends.server.taken + found.0)) (sym read) ∙ there;
          stays = λ (entered, outside). true≢false (sym opened ∙ ap (λ (l : LinkState). is_open l.phase) end.link_is ∙ outside);
          behind = λ entered. omega (arith, counted, keeps);
        }

  by_entering : (enters : Option ℕ) → made.enters ≡ enters → (inside : Bool) → is_open ends.server.link.phase ≡ inside → IsInFlight site world link controller item
  by_entering (Some entered) enters inside is = absurd (entering_takes_none entered enters)
  by_entering None enters true is = in_flight is enters
  by_entering None enters false is = absurd (none_taken (laws.nothing (Receives bytes connection) ends.moment ends.server is enters).taken)

  pub was_in_flight : IsInFlight site world link controller item
  was_in_flight = by_entering made.enters refl (is_open ends.server.link.phase) refl
