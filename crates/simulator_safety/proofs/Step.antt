-- A step of the interlocking keeps a world represented.
use Rattle.std.proofs.Common.{◌≡◌, ◌∙◌, ◌<◌, ◌≤◌, ℕ, suc, true, ◌&&◌, nat_lt, List, [], ◌∷◌, length, map, Option, Some, None, refl, sym, ap, subst, arith}
use Rattle.std.specs.Prelude.{slice_get}
use Rattle.std.specs.List.{All, list_all}
use Rattle.std.proofs.lemmas.Bool.Decides.{nat_tests}
use Rattle.simulator_link_laws.specs.layout.Entries.{Site}
use Rattle.simulator_link_laws.specs.layout.declared.entries.Point.{Point as PointEntry}
use Rattle.simulator_link_laws.specs.rasta_core.Clock.{settled}
use Rattle.simulator_link_laws.specs.rasta_core.EachLink.{AreTimely}
use Rattle.simulator_link_laws.specs.rasta_core.Ends.{Receives, reading_of}
use Rattle.simulator_link_laws.specs.rasta_core.Events.{MayCall}
use Rattle.simulator_link_laws.specs.rasta_core.Links.{AreLinks, Links, MayCallOn, MayRunLinks, run_links, seen}
use Rattle.simulator_link_laws.specs.rasta_core.Names.{Names}
use Rattle.simulator_link_laws.specs.rasta_core.Nodes.{NodeCall, at_link, calls_of}
use Rattle.simulator_link_laws.specs.rasta_core.Outbox.{OutboxState}
use Rattle.simulator_link_laws.specs.rasta_core.Parameters.{greatest}
use Rattle.simulator_link_laws.specs.rasta_core.identity.Role.{Role}
use Rattle.simulator_link_laws.specs.rasta_core.identity.Role.TheVariants as role
use Rattle.simulator_link_laws.specs.rasta_pdu.declared.key.Key.{Key}
use Rattle.simulator_link_laws.specs.point_ctl.Drive.{PointState}
use Rattle.simulator_link_laws.specs.signal_ctl.Signal.{SignalState}
use Rattle.simulator_link_laws.specs.ixl_client.Client.{ClientState, PeerState}
use Rattle.simulator_link_laws.specs.ixl_spec.StepSoFar.{StepSoFar, Point, Signal, begun_with, empty_outbox}
use Rattle.simulator_link_laws.specs.ixl_spec.State.{IxlState, KnownSignalState, KnownPointState}
use Rattle.simulator_link_laws.specs.ixl_spec.Step as ixl
use Rattle.simulator_link_laws.specs.ixl_spec.Table.{Need, Table}
use Rattle.ixl_table.specs.Table.{IsHeldUntil, IsRowOf, IsTableOf, as_route}
use Rattle.simulator_machine.specs.Chains.{MovesTo}
use Rattle.simulator_machine.specs.Invariant.{Invariant}
use Rattle.simulator_machine.specs.Machine.{Machine}
use Rattle.simulator_link_laws.specs.simulator_move_laws.Flows.{ClientIsAfter}
use Rattle.simulator_link_laws.specs.simulator_move_laws.Lawful.{AreLawful, IsLawful}
use Rattle.simulator_link_laws.specs.simulator_move_laws.Point.{IsPointSeen}
use Rattle.simulator_link_laws.specs.simulator_move_laws.Signal.{IsSignalSeen}
use Rattle.simulator_safety.specs.At as far
use Rattle.simulator_safety.specs.At.{AreFarEnds, HasNames}
use Rattle.simulator_safety.specs.Calls.{as_calls}
use Rattle.simulator_link_laws.specs.simulator_move_laws.Onward.{IsStepped}
use Rattle.simulator_link_laws.specs.simulator_move_laws.Behind.{KnownSignalBehind, KnownSignalIsBehind, KnownPointBehind, KnownPointIsBehind, known_signal_items, known_point_items}
use Rattle.simulator_link_laws.specs.simulator_move_laws.Calls.{Items, calls_at, items_after}
use Rattle.simulator_link_laws.specs.simulator_move_laws.Facts.{FarEnds}
use Rattle.simulator_link_laws.specs.simulator_move_laws.Rows.{AreHeldAtFirst, machine_table}
use Rattle.simulator_link_laws.specs.simulator_move_laws.Sees.{Given, Sees, SeesPoint, SeesSignal}
use Rattle.simulator_link_laws.specs.simulator_move_laws.Totals.{IsReadable}
use Rattle.simulator_link_laws.specs.Calls.{AreOfNodes, node_call}
use Rattle.simulator_link_laws.specs.Events.{FollowsBy, interlocking_events}
use Rattle.simulator_link_laws.specs.Nodes.{IsEndOfClient, MayComeWith}
use Rattle.simulator_link_laws.specs.Whole.{IsWhole}
use Rattle.simulator_link_laws.specs.simulator_spec.Happens.{interlocking_stepped}
use Rattle.simulator_link_laws.specs.simulator_spec.Links.{AreLinksOf, names_at}
use Rattle.simulator_link_laws.specs.simulator_spec.Nodes.{key_of, links, point_link}
use Rattle.simulator_link_laws.specs.simulator_spec.State.{ClockedControllerState, WorldState}
use Rattle.simulator_link_laws.specs.simulator_spec.Interlocking.{interlocking_step}
use Rattle.simulator_safety.specs.Represents.{AreFrozen, ArePointsSeen, AreSignalsSeen, IsNetworkOf, Represents, given_in, items_of}
use Rattle.simulator_safety.specs.Seen.{AreHeldPairs}
use Rattle.simulator_safety.proofs.StationCalls.{point_calls, signal_calls}
use Rattle.simulator_safety.proofs.StationEnds.{EndLaws, items_are, point_stepped, signal_stepped}
use Rattle.simulator_safety.proofs.StationLists.{get_below, within_some}

-- the laws that this stands on
pub record StepLaws : Type 0 where
  pub ends : EndLaws
  pub each : (count : ℕ) (names : ℕ → Names) (network : Links) → AreLawful count names network → (link : ℕ) → link < count → IsLawful (names link) (seen link network)
  pub known_signal_end : (site : Site) (world : WorldState) (network : Links) → IsWhole site world → AreLinksOf site world network → (place : ℕ) (known_signal : KnownSignalState)
      → slice_get world.interlocking.ixl.known_signals place ≡ Some known_signal → (place < links site) × IsEndOfClient world.interlocking known_signal.client (network.ends place).client
  pub known_point_end : (site : Site) (world : WorldState) (network : Links) → IsWhole site world → AreLinksOf site world network → (place : ℕ) (known_point : KnownPointState)
      → slice_get world.interlocking.ixl.known_points place ≡ Some known_point → (point_link site place < links site) × IsEndOfClient world.interlocking known_point.client (network.ends (point_link site place)).client
  pub may : (site : Site) (who : Role) (bytes : List ℕ) (connection : ℕ) (before : Links) → AreLinks (links site) (names_at site)
      → AreTimely (links site) (names_at site) before → (link : ℕ) → link < links site → MayCallOn (names_at site link) (Receives bytes connection) before
      → MayCall (names_at site link) who (Receives bytes connection) (seen link before)
  pub client : (count : ℕ) (names : ℕ → Names) (calls : List NodeCall) (network : Links) → AreLinks count names → AreTimely count names network
      → MayRunLinks count names (calls_of role.Client calls) network → (link : ℕ) → link < count
      → ClientIsAfter (at_link link calls) (seen link network) (seen link (run_links (calls_of role.Client calls) network))
  pub partner : (calls : List NodeCall) (network : Links) (link : ℕ) → (seen link (run_links (calls_of role.Client calls) network)).server ≡ (seen link network).server
  pub readable : (peer : PeerState) → HasNames peer → peer.version < 256 → IsReadable peer
  pub knows : (now : ℕ) (input : ixl.Input) (kept : IxlState) (given : Given) (machine : Machine) → Sees now kept given machine → AreFarEnds now input kept given machine
      → FarEnds now input kept given machine
  pub steps : (now : ℕ) (input : ixl.Input) (table : Table) (key : Key) (kept : IxlState) (outbox : OutboxState) (given : Given) (machine : Machine)
      → Sees now kept given machine → FarEnds now input kept given machine → AreHeldAtFirst table → length kept.routes ≡ length table.rows
      → (new : Machine) × IsStepped now input (machine_table table) kept given machine (ixl.stepped now table key input (begun_with kept outbox)) new
  pub reached : (table : Table) (old new : Machine) → Invariant (machine_table table) old → MovesTo (machine_table table) old new → Invariant (machine_table table) new

-- ---- the table

some_above : (n : ℕ) → nat_lt 0 (suc n) ≡ true
some_above n = grind (arith, nat_tests)

needs_held : (site : Site) (number : ℕ) (sections : List ℕ) (needs : List Need) → All (IsHeldUntil site (as_route number) sections) needs → list_all (λ (need : Need). nat_lt 0 need.until) needs ≡ true
needs_held site number sections [] all = refl
needs_held site number sections (need ∷ others) all =
    ap (λ n. nat_lt 0 n && list_all (λ (need : Need). nat_lt 0 need.until) others) (all 0 need (omega arith)).until
    ∙ ap (λ b. b && list_all (λ (need : Need). nat_lt 0 need.until) others) (some_above (all 0 need (omega arith)).place)
    ∙ needs_held site number sections others (λ place other within. all (suc place) other (omega (arith, within)))

pub held_at_first : (site : Site) (table : Table) → IsTableOf site table → AreHeldAtFirst table
held_at_first site table is number row at = let of : IsRowOf site (as_route number) row = is.rows.their number row at in needs_held site number row.sections row.needs of.until

pub clock_below : (clock : ℕ) → clock ≤ 9000000000000000 → reading_of clock < greatest
clock_below clock within = omega arith

-- ---- what is seen with other items that are the same

pub sees_signal_items : (now : ℕ) (kept : IxlState) (found : Option KnownSignalState) (items other : Items) (signal : _) → ((known_signal : KnownSignalState) → found ≡ Some known_signal → items ≡ other)
    → SeesSignal now kept found items signal → SeesSignal now kept found other signal
sees_signal_items now kept None items other signal same sees = sees
sees_signal_items now kept (Some known_signal) items other signal same sees = subst (λ (i : Items). SeesSignal now kept (Some known_signal) i signal) (same known_signal refl) sees

pub sees_point_items : (now : ℕ) (kept : IxlState) (found : Option KnownPointState) (items other : Items) (point : _) → ((known_point : KnownPointState) → found ≡ Some known_point → items ≡ other)
    → SeesPoint now kept found items point → SeesPoint now kept found other point
sees_point_items now kept None items other point same sees = sees
sees_point_items now kept (Some known_point) items other point same sees = subst (λ (i : Items). SeesPoint now kept (Some known_point) i point) (same known_point refl) sees

-- ---- the step

module _ (laws : StepLaws) (site : Site) (table : Table) (input : ixl.Input) (connection : ℕ) (world : WorldState) (machine : Machine)
    (are : AreLinks (links site) (names_at site)) (is : IsTableOf site table) (represented : Represents site table world machine) where
  abbrev network : Links
  network = represented.network

  abbrev now : ℕ
  now = reading_of world.interlocking.clock

  abbrev kept : IxlState
  kept = world.interlocking.ixl

  abbrev part : StepSoFar
  part = interlocking_step site table input world.interlocking

  abbrev calls : List NodeCall
  calls = map (node_call site connection) part.calls

  abbrev after : Links
  after = run_links (interlocking_events site table input connection world.interlocking) network

  signals_long : (place : ℕ) → place < length kept.known_signals → place < length world.signals
  signals_long place within = subst (λ n. place < n) (represented.linked.whole.clients.known_signals ∙ sym represented.linked.whole.signals) within

  points_long : (place : ℕ) → place < length kept.known_points → place < length world.points
  points_long place within = subst (λ n. place < n) (represented.linked.whole.clients.known_points ∙ sym represented.linked.whole.points) within

  -- ---- the far ends

  client_at : MayComeWith site input connection network → (link : ℕ) (client : ClientState) → (link < links site) × IsEndOfClient world.interlocking client (network.ends link).client
      → far.IsClientAt now input client.peer client.link (items_of (network.ends link).client) (seen link network)
  client_at comes link client (below, end) = record {
    names = names_at site link;
    are = are.each link below;
    lawful = laws.each (links site) (names_at site) network represented.linked.lawful link below;
    clock = ap reading_of end.clock_is;
    link_is = end.link_is;
    given = refl;
    taken = refl;
    connection = connection;
    comes = λ bytes come. laws.may site role.Client bytes connection network are represented.linked.lawful.timely link below (comes bytes come link below);
    peer_named = record { own = end.peer.own_name; controller = end.peer.name };
  }

  signal_at : MayComeWith site input connection network → (place : ℕ) (known_signal : KnownSignalState) → slice_get kept.known_signals place ≡ Some known_signal
      → far.IsSignalAt now input known_signal (items_of (network.ends place).client) (machine.signals place)
  signal_at comes place known_signal at =
      let server = get_below world.signals place (signals_long place (within_some kept.known_signals place known_signal at))
      in record {
        ends = seen place network;
        host = server.0.host;
        client = client_at comes place known_signal.client (laws.known_signal_end site world network represented.linked.whole represented.linked.are place known_signal at);
        seen = represented.signals.each place server.0 server.1;
      }

  point_at : MayComeWith site input connection network → (place : ℕ) (known_point : KnownPointState) → slice_get kept.known_points place ≡ Some known_point
      → far.IsPointAt now input known_point (items_of (network.ends (point_link site place)).client) (machine.points place)
  point_at comes place known_point at =
      let within = within_some kept.known_points place known_point at
      in let server = get_below world.points place (points_long place within)
      in let entry = get_below site.points place (subst (λ n. place < n) represented.linked.whole.clients.known_points within)
      in record {
        ends = seen (point_link site place) network;
        host = server.0.host;
        client = client_at comes (point_link site place) known_point.client (laws.known_point_end site world network represented.linked.whole represented.linked.are place known_point at);
        seen = represented.points.each place server.0 server.1;
        objects = represented.station.objects place entry.0 known_point entry.1 at ∙ ap (λ n. n ∷ []) (sym (represented.points.hosts place entry.0 server.0 entry.1 server.1).own_name);
      }

  pub goes : MayComeWith site input connection network → (new : Machine) × IsStepped now input (machine_table table) kept (given_in site network) machine part new
  goes comes = laws.steps now input table (key_of site) kept empty_outbox (given_in site network) machine represented.station.sees
      (laws.knows now input kept (given_in site network) machine represented.station.sees (record {
        clock = clock_below world.interlocking.clock represented.station.clock;
        signals = signal_at comes;
        points = point_at comes;
      })) (held_at_first site table is) represented.station.routes

  -- ---- after it

  module _ (follows : FollowsBy site (interlocking_events site table input connection world.interlocking) (interlocking_stepped site table input world) network)
      (linked : IsNetworkOf site (interlocking_stepped site table input world) after) (of_nodes : AreOfNodes site part.calls)
      (new : Machine) (stepped : IsStepped now input (machine_table table) kept (given_in site network) machine part new) where
    client_after : (link : ℕ) → link < links site → ClientIsAfter (at_link link calls) (seen link network) (seen link after)
    client_after link below = laws.client (links site) (names_at site) calls network are represented.linked.lawful.timely follows.may link below

    known_signals_same : length part.ixl.known_signals ≡ length site.signals
    unfolding interlocking_stepped
    known_signals_same = linked.whole.clients.known_signals

    known_points_same : length part.ixl.known_points ≡ length site.points
    unfolding interlocking_stepped
    known_points_same = linked.whole.clients.known_points

    known_signal_after : (place : ℕ) (known_signal : KnownSignalState) → slice_get part.ixl.known_signals place ≡ Some known_signal
        → ((after.ends place).client.link ≡ settled now known_signal.client.link) × ((after.ends place).client.clock ≡ world.interlocking.clock)
    unfolding interlocking_stepped
    known_signal_after place known_signal at = let end = laws.known_signal_end site (interlocking_stepped site table input world) after linked.whole linked.are place known_signal at in (end.1.link_is, end.1.clock_is)

    known_point_after : (place : ℕ) (known_point : KnownPointState) → slice_get part.ixl.known_points place ≡ Some known_point
        → ((after.ends (point_link site place)).client.link ≡ settled now known_point.client.link) × ((after.ends (point_link site place)).client.clock ≡ world.interlocking.clock)
    unfolding interlocking_stepped
    known_point_after place known_point at = let end = laws.known_point_end site (interlocking_stepped site table input world) after linked.whole linked.are place known_point at in (end.1.link_is, end.1.clock_is)

    known_signal_behind : (place : ℕ) (first known_signal : KnownSignalState) → slice_get kept.known_signals place ≡ Some first → slice_get part.ixl.known_signals place ≡ Some known_signal
        → KnownSignalBehind now input (machine_table table) kept (given_in site network) machine first (items_of (network.ends place).client) (calls_at (Signal place) part.calls) known_signal (machine.signals place) (new.signals place)
    known_signal_behind place first known_signal at there =
        subst (λ o. KnownSignalIsBehind now input (machine_table table) kept (given_in site network) machine (Some first) (items_of (network.ends place).client) (calls_at (Signal place) part.calls) o (machine.signals place) (new.signals place)) there
        (subst (λ o. KnownSignalIsBehind now input (machine_table table) kept (given_in site network) machine o (items_of (network.ends place).client) (calls_at (Signal place) part.calls) (slice_get part.ixl.known_signals place) (machine.signals place) (new.signals place)) at
        (stepped.behind.signals place))

    known_point_behind : (place : ℕ) (first known_point : KnownPointState) → slice_get kept.known_points place ≡ Some first → slice_get part.ixl.known_points place ≡ Some known_point
        → KnownPointBehind now input (machine_table table) kept (given_in site network) machine first (items_of (network.ends (point_link site place)).client) (calls_at (Point place) part.calls) known_point (machine.points place) (new.points place)
    known_point_behind place first known_point at there =
        subst (λ o. KnownPointIsBehind now input (machine_table table) kept (given_in site network) machine (Some first) (items_of (network.ends (point_link site place)).client) (calls_at (Point place) part.calls) o (machine.points place) (new.points place)) there
        (subst (λ o. KnownPointIsBehind now input (machine_table table) kept (given_in site network) machine o (items_of (network.ends (point_link site place)).client) (calls_at (Point place) part.calls) (slice_get part.ixl.known_points place) (machine.points place) (new.points place)) at
        (stepped.behind.points place))

    -- ---- at one signal and at one point

    module _ (place : ℕ) (first known_signal : KnownSignalState) (at : slice_get kept.known_signals place ≡ Some first) (there : slice_get part.ixl.known_signals place ≡ Some known_signal) where
      abbrev first_end : (place < links site) × IsEndOfClient world.interlocking first.client (network.ends place).client
      first_end = laws.known_signal_end site world network represented.linked.whole represented.linked.are place first at

      known_signal_calls : ClientIsAfter (as_calls connection (calls_at (Signal place) part.calls)) (seen place network) (seen place after)
      known_signal_calls = subst (λ c. ClientIsAfter c (seen place network) (seen place after))
          (signal_calls site connection place (subst (λ n. place < n) represented.linked.whole.clients.known_signals (within_some kept.known_signals place first at)) part.calls of_nodes) (client_after place first_end.0)

      known_signal_items_are : items_after now (calls_at (Signal place) part.calls) (settled now first.client.link) (items_of (network.ends place).client) ≡ items_of (after.ends place).client
      known_signal_items_are = items_are laws.ends now connection (names_at site place) (calls_at (Signal place) part.calls) first.client.link known_signal.client.link (seen place network) (seen place after)
          (ap reading_of first_end.1.clock_is) first_end.1.link_is (ap reading_of (known_signal_after place known_signal there).1) (known_signal_after place known_signal there).0 (linked.lawful.timely.each place first_end.0) known_signal_calls (laws.partner calls network place)

      one_signal : (server : ClockedControllerState SignalState) → slice_get world.signals place ≡ Some server → IsSignalSeen (seen place after) server.host (new.signals place)
      one_signal server server_at = signal_stepped laws.ends now connection (names_at site place) (calls_at (Signal place) part.calls) first.client.link known_signal.client.link (seen place network) (seen place after)
          (ap reading_of first_end.1.clock_is) first_end.1.link_is (ap reading_of (known_signal_after place known_signal there).1) (known_signal_after place known_signal there).0 (linked.lawful.timely.each place first_end.0) known_signal_calls (laws.partner calls network place)
          input (machine_table table) kept (given_in site network) machine first known_signal server.host (machine.signals place) (new.signals place) refl refl
          (laws.readable first.client.peer (record { own = first_end.1.peer.own_name; controller = first_end.1.peer.name }) first_end.1.peer.version)
          (represented.signals.each place server server_at) (known_signal_behind place first known_signal at there)

    module _ (place : ℕ) (first known_point : KnownPointState) (at : slice_get kept.known_points place ≡ Some first) (there : slice_get part.ixl.known_points place ≡ Some known_point) where
      abbrev first_point : (point_link site place < links site) × IsEndOfClient world.interlocking first.client (network.ends (point_link site place)).client
      first_point = laws.known_point_end site world network represented.linked.whole represented.linked.are place first at

      known_point_calls : ClientIsAfter (as_calls connection (calls_at (Point place) part.calls)) (seen (point_link site place) network) (seen (point_link site place) after)
      known_point_calls = subst (λ c. ClientIsAfter c (seen (point_link site place) network) (seen (point_link site place) after))
          (point_calls site connection place (subst (λ n. place < n) represented.linked.whole.clients.known_points (within_some kept.known_points place first at)) part.calls of_nodes) (client_after (point_link site place) first_point.0)

      known_point_items_are : items_after now (calls_at (Point place) part.calls) (settled now first.client.link) (items_of (network.ends (point_link site place)).client) ≡ items_of (after.ends (point_link site place)).client
      known_point_items_are = items_are laws.ends now connection (names_at site (point_link site place)) (calls_at (Point place) part.calls) first.client.link known_point.client.link (seen (point_link site place) network) (seen (point_link site place) after)
          (ap reading_of first_point.1.clock_is) first_point.1.link_is (ap reading_of (known_point_after place known_point there).1) (known_point_after place known_point there).0 (linked.lawful.timely.each (point_link site place) first_point.0) known_point_calls
          (laws.partner calls network (point_link site place))

      one_point : (server : ClockedControllerState PointState) → slice_get world.points place ≡ Some server → IsPointSeen (seen (point_link site place) after) server.host (new.points place)
      one_point server server_at = point_stepped laws.ends now connection (names_at site (point_link site place)) (calls_at (Point place) part.calls) first.client.link known_point.client.link (seen (point_link site place) network) (seen (point_link site place) after)
          (ap reading_of first_point.1.clock_is) first_point.1.link_is (ap reading_of (known_point_after place known_point there).1) (known_point_after place known_point there).0 (linked.lawful.timely.each (point_link site place) first_point.0) known_point_calls
          (laws.partner calls network (point_link site place))
          input (machine_table table) kept (given_in site network) machine first known_point server.host (machine.points place) (new.points place) refl refl
          (laws.readable first.client.peer (record { own = first_point.1.peer.own_name; controller = first_point.1.peer.name }) first_point.1.peer.version)
          (represented.points.each place server server_at) (known_point_behind place first known_point at there)

    -- ---- all of it

    first_known_signal : (place : ℕ) → place < length site.signals → (first : KnownSignalState) × (slice_get kept.known_signals place ≡ Some first)
    first_known_signal place within = get_below kept.known_signals place (subst (λ n. place < n) (sym represented.linked.whole.clients.known_signals) within)

    first_known_point : (place : ℕ) → place < length site.points → (first : KnownPointState) × (slice_get kept.known_points place ≡ Some first)
    first_known_point place within = get_below kept.known_points place (subst (λ n. place < n) (sym represented.linked.whole.clients.known_points) within)

    pub signals_after : AreSignalsSeen site after world.signals new
    signals_after = record {
      each = λ place server server_at.
          let within : place < length site.signals = subst (λ n. place < n) represented.linked.whole.signals (within_some world.signals place server server_at)
          in let first = first_known_signal place within
          in let known_signal = get_below part.ixl.known_signals place (subst (λ n. place < n) (sym known_signals_same) within)
          in one_signal place first.0 known_signal.0 first.1 known_signal.1 server server_at;
      hosts = represented.signals.hosts;
    }

    pub points_after : ArePointsSeen site after world.points world.positions new
    points_after = record {
      each = λ place server server_at.
          let within : place < length site.points = subst (λ n. place < n) represented.linked.whole.points (within_some world.points place server server_at)
          in let first = first_known_point place within
          in let known_point = get_below part.ixl.known_points place (subst (λ n. place < n) (sym known_points_same) within)
          in one_point place first.0 known_point.0 first.1 known_point.1 server server_at;
      hosts = represented.points.hosts;
      sensed = represented.points.sensed;
      count = represented.points.count;
    }

    known_signal_items_after : (place : ℕ) (known_signal : KnownSignalState) → slice_get part.ixl.known_signals place ≡ Some known_signal
        → known_signal_items now (calls_at (Signal place) part.calls) (slice_get kept.known_signals place) (items_of (network.ends place).client) ≡ items_of (after.ends place).client
    known_signal_items_after place known_signal there =
        let first = first_known_signal place (subst (λ n. place < n) known_signals_same (within_some part.ixl.known_signals place known_signal there))
        in ap (λ o. known_signal_items now (calls_at (Signal place) part.calls) o (items_of (network.ends place).client)) first.1 ∙ known_signal_items_are place first.0 known_signal first.1 there

    known_point_items_after : (place : ℕ) (known_point : KnownPointState) → slice_get part.ixl.known_points place ≡ Some known_point
        → known_point_items now (calls_at (Point place) part.calls) (slice_get kept.known_points place) (items_of (network.ends (point_link site place)).client) ≡ items_of (after.ends (point_link site place)).client
    known_point_items_after place known_point there =
        let first = first_known_point place (subst (λ n. place < n) known_points_same (within_some part.ixl.known_points place known_point there))
        in ap (λ o. known_point_items now (calls_at (Point place) part.calls) o (items_of (network.ends (point_link site place)).client)) first.1 ∙ known_point_items_are place first.0 known_point first.1 there

    pub sees_after : Sees now part.ixl (given_in site after) new
    sees_after = record {
      signals = λ place. sees_signal_items now part.ixl (slice_get part.ixl.known_signals place) _ (items_of (after.ends place).client) (new.signals place) (known_signal_items_after place) (stepped.sees.signals place);
      points = λ place. sees_point_items now part.ixl (slice_get part.ixl.known_points place) _ (items_of (after.ends (point_link site place)).client) (new.points place) (known_point_items_after place) (stepped.sees.points place);
      routes = stepped.sees.routes;
      holding = stepped.sees.holding;
    }

    objects_after : (place : ℕ) (entry : PointEntry) (known_point : KnownPointState) → slice_get site.points place ≡ Some entry → slice_get part.ixl.known_points place ≡ Some known_point → known_point.client.peer.objects ≡ entry.name ∷ []
    objects_after place entry known_point entry_at there =
        let first = first_known_point place (within_some site.points place entry entry_at)
        in ap (λ (p : PeerState). p.objects) (known_point_behind place first.0 known_point first.1 there).same ∙ represented.station.objects place entry first.0 entry_at first.1

    pub frozen_after : AreFrozen site table world.frozen new
    frozen_after = record { pairs = subst (λ f. AreHeldPairs (machine_table table) world.frozen f) (sym stepped.behind.frozen) represented.frozen.pairs; there = represented.frozen.there }

    pub step_represented : Represents site table (interlocking_stepped site table input world) new
    unfolding interlocking_stepped
    step_represented = record {
      network = after;
      linked = linked;
      signals = signals_after;
      points = points_after;
      station = record {
        sees = sees_after;
        routes = stepped.behind.count ∙ represented.station.routes;
        objects = objects_after;
        clock = represented.station.clock;
      };
      frozen = frozen_after;
      invariant = laws.reached table machine new represented.invariant stepped.behind.moves;
    }
