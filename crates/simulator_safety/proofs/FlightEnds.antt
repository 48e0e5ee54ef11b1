-- What is in flight on a link, at its two ends: the controller is in the connection, and hasn't taken it.
use Rattle.std.proofs.Common.{◌≡◌, ◌∙◌, ◌≤◌, ◌<◌, Bool, true, false, ◌&&◌, nat_le, ℕ, zero, suc, List, [], ◌∷◌, ◌++◌, length, Option, Some, None, refl, sym, ap, arith, if◌then◌else◌}
use Rattle.std.specs.Prelude.{◌≢◌, ◌==◌, slice_get}
use Rattle.std.specs.List.{Contains}
use Rattle.std.proofs.lemmas.Bool.{false≢true}
use Rattle.std.proofs.lemmas.Bool.Decides.{nat_tests}
use Rattle.simulator_link_laws.specs.layout.Entries.{Site}
use Rattle.simulator_link_laws.specs.rasta_core.Clock.{deadline, settled}
use Rattle.simulator_link_laws.specs.rasta_core.Ends.{reading_of}
use Rattle.simulator_link_laws.specs.rasta_core.Given.{items_given}
use Rattle.simulator_link_laws.specs.rasta_core.Invariant.{Timely}
use Rattle.simulator_link_laws.specs.rasta_core.Links.{Links, OnLink, of_link, seen}
use Rattle.simulator_link_laws.specs.rasta_core.Names.{Names}
use Rattle.simulator_link_laws.specs.rasta_core.Run.{Ends}
use Rattle.simulator_link_laws.specs.rasta_core.State.{LinkState, is_open}
use Rattle.simulator_link_laws.specs.rasta_core.identity.Role.TheVariants as role
use Rattle.simulator_link_laws.specs.rasta_core.phase.Phase.TheVariants as phase
use Rattle.simulator_link_laws.specs.signal_ctl.Signal.{SignalState}
use Rattle.simulator_link_laws.specs.point_ctl.Drive.{PointState}
use Rattle.simulator_machine.specs.Link.{Server, Before, In, Gone}
use Rattle.simulator_link_laws.specs.simulator_move_laws.EndsSeen.{is_inside, is_same_connection, server_in, server_of, state_of}
use Rattle.simulator_link_laws.specs.simulator_move_laws.Flows.{AreInOne, Counts, FlowsInOrder, commands_taken, of_server}
use Rattle.simulator_link_laws.specs.simulator_move_laws.Lawful.{AreLawful, IsLawful}
use Rattle.simulator_link_laws.specs.Nodes.{IsEndOfServer}
use Rattle.simulator_link_laws.specs.Whole.{IsWhole}
use Rattle.simulator_link_laws.specs.simulator_spec.Links.{AreLinksOf, names_at}
use Rattle.simulator_link_laws.specs.simulator_spec.Nodes.{links, point_link}
use Rattle.simulator_link_laws.specs.simulator_spec.State.{ClockedControllerState, WorldState}
use Rattle.simulator_safety.specs.InFlight.{IsInFlight, given_on}
use Rattle.simulator_safety.specs.Represents.{IsNetworkOf}
use Rattle.simulator_safety.proofs.WorldLists.{get_contains, none_some, some_injective}

-- the laws of links that this stands on
pub record FlightLaws : Type 0 where
  pub signal_end : (site : Site) (world : WorldState) (network : Links) → IsWhole site world → AreLinksOf site world network → (place : ℕ) (server : ClockedControllerState SignalState)
      → slice_get world.signals place ≡ Some server → (place < links site) × IsEndOfServer server (network.ends place).server
  pub point_end : (site : Site) (world : WorldState) (network : Links) → IsWhole site world → AreLinksOf site world network → (place : ℕ) (server : ClockedControllerState PointState)
      → slice_get world.points place ≡ Some server → (point_link site place < links site) × IsEndOfServer server (network.ends (point_link site place)).server
  pub begun : (site : Site) (world : WorldState) (network : Links) → IsWhole site world → AreLinksOf site world network → (link : ℕ) → link < links site
      → slice_get world.interlocking.connections link ≡ Some (network.ends link).client.connection
  pub each : (count : ℕ) (names : ℕ → Names) (network : Links) → AreLawful count names network → (link : ℕ) → link < count → IsLawful (names link) (seen link network)
  pub inside : (names : Names) (ends : Ends) → Timely names ends → is_open ends.server.link.phase ≡ true → server_of ends ≡ In
  pub outside : (names : Names) (ends : Ends) → Timely names ends → is_open ends.server.link.phase ≡ false → server_of ends ≢ In
  pub one : (names : Names) (ends : Ends) → Timely names ends → is_open ends.server.link.phase ≡ true → AreInOne ends
  pub flows : (names : Names) (ends : Ends) → IsLawful names ends → FlowsInOrder ends
  pub counts : (names : Names) (ends : Ends) → IsLawful names ends → Counts ends.server
  pub before : (names : Names) (ends : Ends) → IsLawful names ends → server_of ends ≡ Before → (ends.client.given ≡ []) × (ends.client.taken ≡ [])

-- what stands after the first part of a list is of its rest
in_rest : {A : Type 0} (first rest : List A) (place : ℕ) (one : A) → slice_get (first ++ rest) place ≡ Some one → length first ≤ place → Contains rest one
in_rest [] rest place one at behind = get_contains rest place one at
in_rest (head ∷ first) rest zero one at behind = absurd (omega (arith, behind))
in_rest (head ∷ first) rest (suc place) one at behind = in_rest first rest place one at (omega (arith, behind))

-- the clock rules leave what a link counts
pub settled_taken : (now : ℕ) (link : LinkState) → (settled now link).taken ≡ link.taken
unfolding settled
settled_taken now link = by (is_open link.phase && nat_le (deadline link) now) where
  by : (late : Bool) → (if late then record link { phase = phase.Closed; closed_at = deadline link; clock = now } else record link { clock = now }).taken ≡ link.taken
  by true = refl
  by false = refl

gone_was : (inside was : Bool) → server_in inside was ≡ Gone → was ≡ true
gone_was true was e = absurd (cc (e))
gone_was false true e = refl
gone_was false false e = absurd (cc (e))

same_number : (a b : ℕ) → (a == b) ≡ true → b ≡ a
same_number a b e = grind (arith, nat_tests)

same_connection : (connection : ℕ) (other : Option ℕ) → is_same_connection (Some connection) other ≡ true → other ≡ Some connection
same_connection connection None e = absurd (false≢true e)
same_connection connection (Some other) e = ap (λ (n : ℕ). Some n) (same_number connection other e)

module _ {Object : Type 0} (laws : FlightLaws) (site : Site) (world : WorldState) (network : Links) (linked : IsNetworkOf site world network) (link : ℕ) (below : link < links site) (controller : ClockedControllerState Object)
    (end : IsEndOfServer controller (network.ends link).server) (item : List ℕ) (flies : IsInFlight site world link controller item) where
  abbrev ends : Ends
  ends = seen link network

  lawful : IsLawful (names_at site link) ends
  lawful = laws.each (links site) (names_at site) network linked.lawful link below

  client_connection : ends.client.connection ≡ Some flies.connection
  client_connection = some_injective ends.client.connection (Some flies.connection) (sym (laws.begun site world network linked.whole linked.are link below) ∙ flies.last)

  given_is : ends.client.given ≡ given_on site world link role.Client flies.connection
  given_is = lawful.given role.Client flies.connection client_connection
      ∙ ap (λ (sent : List OnLink). items_given (names_at site link) role.Client flies.connection (of_link link sent)) linked.are.sent_is

  there : slice_get ends.client.given flies.number ≡ Some item
  there = ap (λ (items : List (List ℕ)). slice_get items flies.number) given_is ∙ flies.given

  -- a controller outside has left the connection, or nothing was given there
  by_server : is_open ends.server.link.phase ≡ false → (where_it_is : Server) → server_of ends ≡ where_it_is → ⊥
  by_server closed Before is = none_some item (ap (λ (items : List (List ℕ)). slice_get items flies.number) (sym (laws.before (names_at site link) ends lawful is).0) ∙ there)
  by_server closed In is = laws.outside (names_at site link) ends lawful.timely closed is
  by_server closed Gone is =
      let was = gone_was (is_inside (state_of ends.server)) (is_same_connection ends.client.connection ends.server.connection) is in
      let entered = same_connection flies.connection ends.server.connection (ap (λ (c : Option ℕ). is_same_connection c ends.server.connection) (sym client_connection) ∙ was)
      in flies.stays (sym end.connection_is ∙ entered, ap (λ (l : LinkState). is_open l.phase) (sym end.link_is) ∙ closed)

  by_phase : (inside : Bool) → is_open ends.server.link.phase ≡ inside → inside ≡ true
  by_phase true is = refl
  by_phase false is = absurd (by_server is (server_of ends) refl)

  -- so it is in the connection
  pub is_in : is_open ends.server.link.phase ≡ true
  is_in = by_phase (is_open ends.server.link.phase) refl

  pub server_is_in : server_of ends ≡ In
  server_is_in = laws.inside (names_at site link) ends lawful.timely is_in

  entered : controller.connection ≡ Some flies.connection
  entered = let one = laws.one (names_at site link) ends lawful.timely is_in in sym end.connection_is ∙ one.server ∙ sym one.client ∙ client_connection

  taken_before : length ends.server.taken ≤ flies.number
  taken_before =
      let counted = (laws.counts (names_at site link) ends lawful).taken is_in in
      let kept = ap (λ (l : LinkState). l.taken) end.link_is ∙ settled_taken (reading_of controller.clock) controller.host.link in
      let behind = flies.behind entered in omega (arith, counted, kept, behind)

  -- and the item stands after what it has taken
  pub rest_of : (rest : List (List ℕ)) × (ends.client.given ≡ ends.server.taken ++ rest) × Contains rest item
  rest_of =
      let begins = (laws.flows (names_at site link) ends lawful).commands in
      let taken : commands_taken ends ≡ ends.server.taken = ap (λ (s : Server). of_server s ends.server.taken) server_is_in in
      let same : ends.client.given ≡ ends.server.taken ++ begins.rest = begins.same ∙ ap (λ (items : List (List ℕ)). items ++ begins.rest) taken
      in (
        begins.rest,
        same,
        in_rest ends.server.taken begins.rest flies.number item (ap (λ (items : List (List ℕ)). slice_get items flies.number) (sym same) ∙ there) taken_before,
      )
