-- What is so of a station after every list of events: its links, and what is seen of them.
use Rattle.std.specs.Prelude.{List, None, Some, [], false, map, slice_get, true, ℕ, ◌<◌, ◌≡◌, ◌≢◌}
use Rattle.ixl_table.specs.Table.{IsTableOf}
use Rattle.simulator_spec.specs.First.{IsOutsetOf, Outset, world_at}
use Rattle.simulator_spec.specs.Happens.{happens}
use Rattle.simulator_spec.specs.Interlocking.{interlocking_step}
use Rattle.simulator_spec.specs.Links.{AreLinksOf, names_at, starts_at_zero}
use Rattle.simulator_spec.specs.Network.{connection_of, copy_of}
use Rattle.simulator_spec.specs.Nodes.{links, point_link}
use Rattle.simulator_spec.specs.Refusals.{refusal}
use Rattle.simulator_spec.specs.Run.{CanHappen, after_all}
use Rattle.simulator_spec.specs.State.{ClockedControllerState, WorldState}
use Rattle.simulator_spec.specs.ixl_spec.Step as ixl
use Rattle.simulator_spec.specs.ixl_spec.Table.{Table}
use Rattle.simulator_spec.specs.layout.Entries.{Site}
use Rattle.simulator_spec.specs.layout.Once.{Once}
use Rattle.simulator_spec.specs.layout.Station.{IsStation}
use Rattle.simulator_spec.specs.point_ctl.Drive.{PointState}
use Rattle.simulator_spec.specs.rasta_core.EachLink.{AreTimely}
use Rattle.simulator_spec.specs.rasta_core.Ends.{Call, Receives, outcome}
use Rattle.simulator_spec.specs.rasta_core.Events.{MayCall, run}
use Rattle.simulator_spec.specs.rasta_core.Invariant.{Timely}
use Rattle.simulator_spec.specs.rasta_core.Links.{AreLinks, CallsOn, Links, LinksStart, MayCallOn, MayRunLinks, begun, run_links, seen}
use Rattle.simulator_spec.specs.rasta_core.Names.{AreNames, Names, partner_of}
use Rattle.simulator_spec.specs.rasta_core.Nodes.{NodeCall, at_link, calls_of}
use Rattle.simulator_spec.specs.rasta_core.Run.{Ends, end_of}
use Rattle.simulator_spec.specs.rasta_core.State.{is_open}
use Rattle.simulator_spec.specs.rasta_core.Steps.{calls_at}
use Rattle.simulator_spec.specs.rasta_core.identity.Role.{Role}
use Rattle.simulator_spec.specs.rasta_core.identity.Role.TheVariants as role
use Rattle.simulator_spec.specs.signal_ctl.Signal.{SignalState}
use Rattle.simulator_spec.specs.simulator_event.declared.event.Event.{Event}
use Rattle.simulator_spec.specs.simulator_event.declared.event.Event.TheVariants.{Deliver}
use Rattle.simulator_spec.specs.simulator_event.layout.declared.ids.NodeId.{NodeId}
use Rattle.simulator_machine.specs.Link.{Before, In}
use Rattle.simulator_machine.specs.Machine.{Machine}
use Rattle.simulator_machine.specs.Run.{first}
use Rattle.simulator_machine.specs.Table.{IsSound}
use Rattle.simulator_move_laws.specs.EndsSeen.{server_of}
use Rattle.simulator_move_laws.specs.Flows.{AreInOne, ClientIsAfter, EntersRightly}
use Rattle.simulator_move_laws.specs.Lawful.{AreLawful, IsLawful}
use Rattle.simulator_move_laws.specs.Rows.{machine_table}
use Rattle.simulator_link_laws.specs.Calls.{AreOfNodes}
use Rattle.simulator_link_laws.specs.Events.{FollowsBy, events_of}
use Rattle.simulator_link_laws.specs.HasLinks.{HasLinks, IsStanding}
use Rattle.simulator_link_laws.specs.Nodes.{IsEndOfServer, MayComeWith}
use Rattle.simulator_link_laws.specs.Whole.{IsWhole}
use Rattle.simulator_safety.specs.InFlight.{given_on}
use Rattle.simulator_safety.specs.Reached.{IsReached, IsReadOff, end_at}
use Rattle.simulator_safety.specs.Represents.{IsNetworkOf, Represents, RepresentsAfter}
use Rattle.simulator_safety.specs.Seen.{IsSeen, positions_at}

abbrev pub EachMoves : Type 0
EachMoves = (site : Site) (table : Table) (outset : Outset) (events : List Event) → Once site → IsStation site → IsTableOf site table → IsOutsetOf site outset
    → CanHappen site table events (world_at site table outset) → RepresentsAfter site table (first (positions_at outset)) (after_all site table events (world_at site table outset))

pub record LawsOfStations : Type 0 where
  pub layouts_name_their_links : (site : Site) → IsStation site → Once site → AreLinks (links site) (names_at site)
  pub events_are_those_of_the_links_exactly : (site : Site) (table : Table) (event : Event) (world : WorldState) (before : Links) → AreLinks (links site) (names_at site) → IsWhole site world → AreTimely (links site) (names_at site) before
      → AreLinksOf site world before → refusal site event world ≡ None → FollowsBy site (events_of site table event world) (happens site table event world) before
  pub events_are_those_of_the_links_whole : (site : Site) (table : Table) (event : Event) (world : WorldState) (before : Links) → AreLinks (links site) (names_at site) → IsStation site → IsWhole site world
      → AreTimely (links site) (names_at site) before → AreLinksOf site world before → refusal site event world ≡ None → IsWhole site (happens site table event world)
  pub a_station_begins_its_links : (site : Site) (table : Table) (outset : Outset) → IsOutsetOf site outset → AreLinksOf site (world_at site table outset) (begun (names_at site) starts_at_zero)
  pub stations_have_links_first : (site : Site) (table : Table) (outset : Outset) → IsStation site → IsOutsetOf site outset → IsStanding site (world_at site table outset)
  pub a_node_of_one_link_makes_a_step_own : (who : Role) (link : ℕ) (calls : List Call) (network : Links) → seen link (run_links (map (λ call. CallsOn link who call) calls) network) ≡ run (calls_at who calls) (seen link network)
  pub a_node_of_one_link_makes_a_step_ends : (who : Role) (link other : ℕ) (calls : List Call) (network : Links) → other ≢ link → (whose : Role)
      → end_of whose (seen other (run_links (map (λ call. CallsOn link who call) calls) network)) ≡ end_of whose (seen other network)
  pub reached_worlds_are_safe_at : (site : Site) (table : Table) (outset : Outset) → IsOutsetOf site outset → IsReached site table (world_at site table outset)
  pub every_world_is_safe : (site : Site) (table : Table) (outset : Outset) (events : List Event) → Once site → IsStation site → IsTableOf site table → IsOutsetOf site outset
      → CanHappen site table events (world_at site table outset) → (machine : Machine) × Represents site table (after_all site table events (world_at site table outset)) machine
  pub represented_worlds_are_seen : (site : Site) (table : Table) (world : WorldState) (machine : Machine) → IsStation site → IsTableOf site table → Represents site table world machine → IsSeen site table world machine
  pub servers_enter_once : (names : Names) (call : Call) (entered : ℕ) (ends : Ends) → AreNames names → Timely names ends → MayCall names role.Server call ends
      → (outcome call ends.moment ends.server).enters ≡ Some entered → EntersRightly entered ends
  pub networks_follow_their_worlds : (site : Site) (table : Table) (event : Event) (world : WorldState) (network : Links) → IsStation site → Once site → IsNetworkOf site world network → refusal site event world ≡ None
      → IsNetworkOf site (happens site table event world) (run_links (events_of site table event world) network)
  pub lawful_worlds_stay_lawful_starts : (count : ℕ) (names : ℕ → Names) (start : LinksStart) → AreLinks count names → AreLawful count names (begun names start)
  pub lawful_worlds_stay_lawful_each : (count : ℕ) (names : ℕ → Names) (network : Links) → AreLawful count names network → (link : ℕ) → link < count → IsLawful (names link) (seen link network)
  pub flows_are_in_order : (names : Names) (ends : Ends) → IsLawful names ends → server_of ends ≡ Before → (ends.client.given ≡ []) × (ends.client.taken ≡ [])
  pub representations_tell_the_connection_outside : (names : Names) (ends : Ends) → Timely names ends → is_open ends.server.link.phase ≡ false → server_of ends ≢ In
  pub representations_tell_the_connection_one : (names : Names) (ends : Ends) → Timely names ends → is_open ends.server.link.phase ≡ true → AreInOne ends
  pub items_are_read_off_the_datagrams : (site : Site) (world : WorldState) → Once site → IsStation site → (has : HasLinks site world) → (link : ℕ) → link < links site → (who : Role) (connection : ℕ)
      → (end_at who link has).connection ≡ Some connection → IsReadOff (given_on site world link who connection) connection (end_at who link has) (end_at (partner_of who) link has)
  pub every_world_is_reached_by_moves : EachMoves
  pub tables_are_sound : (table : Table) → IsSound (machine_table table)
  pub stations_have_links_run : (site : Site) (table : Table) (outset : Outset) (events : List Event) → IsStation site → Once site → IsOutsetOf site outset → CanHappen site table events (world_at site table outset)
      → IsStanding site (after_all site table events (world_at site table outset))
  pub reached_worlds_are_safe_on : (site : Site) (table : Table) (happening : Event) (world : WorldState) → IsReached site table world → refusal site happening world ≡ None
      → IsReached site table (happens site table happening world)
  pub ends_are_those_of_the_nodes_signal : (site : Site) (world : WorldState) (network : Links) → IsWhole site world → AreLinksOf site world network → (place : ℕ) (server : ClockedControllerState SignalState)
      → slice_get world.signals place ≡ Some server → (place < links site) × IsEndOfServer server (network.ends place).server
  pub ends_are_those_of_the_nodes_point : (site : Site) (world : WorldState) (network : Links) → IsWhole site world → AreLinksOf site world network → (place : ℕ) (server : ClockedControllerState PointState)
      → slice_get world.points place ≡ Some server → (point_link site place < links site) × IsEndOfServer server (network.ends (point_link site place)).server
  pub deliveries_may_come_links : (site : Site) (node : NodeId) (bytes : List ℕ) (world : WorldState) (before : Links) → AreLinksOf site world before → refusal site (Deliver node bytes) world ≡ None → (link : ℕ)
      → MayCallOn (names_at site link) (Receives bytes (connection_of (copy_of bytes world))) before
  pub a_client_of_many_makes_a_step : (count : ℕ) (names : ℕ → Names) (calls : List NodeCall) (network : Links) → AreLinks count names → AreTimely count names network → MayRunLinks count names (calls_of role.Client calls) network
      → (link : ℕ) → link < count → ClientIsAfter (at_link link calls) (seen link network) (seen link (run_links (calls_of role.Client calls) network))
  pub interlockings_call_their_nodes : (site : Site) (table : Table) (input : ixl.Input) (connection : ℕ) (world : WorldState) (before : Links) → AreLinks (links site) (names_at site) → IsWhole site world
      → AreTimely (links site) (names_at site) before → AreLinksOf site world before → MayComeWith site input connection before
      → AreOfNodes site (interlocking_step site table input world.interlocking).calls
  pub deliveries_may_come_ends : (site : Site) (who : Role) (bytes : List ℕ) (connection : ℕ) (before : Links) → AreLinks (links site) (names_at site) → AreTimely (links site) (names_at site) before → (link : ℕ)
      → link < links site → MayCallOn (names_at site link) (Receives bytes connection) before → MayCall (names_at site link) who (Receives bytes connection) (seen link before)
  pub stations_have_links_kept : (site : Site) (table : Table) (happening : Event) (world : WorldState) → IsStation site → Once site → IsStanding site world → refusal site happening world ≡ None
      → IsStanding site (happens site table happening world)
