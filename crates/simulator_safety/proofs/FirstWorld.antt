-- A station as it lies when it is started, seen by the first state of the machine.
use Rattle.std.proofs.Common.{◌≡◌, ◌∙◌, true, false, ℕ, ◌<◌, ◌≤◌, List, [], ◌∷◌, length, map, Some, option_map, refl, sym, ap, subst, arith}
use Rattle.std.specs.List.{zip}
use Rattle.std.specs.Prelude.{slice_get}
use Rattle.std.proofs.lemmas.Bool.{false≢true}
use Rattle.std.proofs.lemmas.Option.{get_or_from_slice_get, slice_get-map}
use Rattle.std.proofs.lemmas.Slice.Zip.{firsts-zip, seconds-zip}
use Rattle.simulator_link_laws.specs.sci_telegram.Names.{IsName}
use Rattle.simulator_link_laws.specs.sci_telegram.declared.message.Position.{Position}
use Rattle.simulator_link_laws.specs.sci_telegram.declared.message.Position.TheVariants as positions
use Rattle.simulator_link_laws.specs.layout.declared.entries.Point.{Point}
use Rattle.simulator_link_laws.specs.layout.declared.entries.Signal.{Signal}
use Rattle.simulator_link_laws.specs.layout.Entries.{Site}
use Rattle.simulator_link_laws.specs.control_table.Table.{telegram_version}
use Rattle.simulator_link_laws.specs.rasta_core.Calls.{created}
use Rattle.simulator_link_laws.specs.rasta_core.Events.{Start, started}
use Rattle.simulator_link_laws.specs.rasta_core.Links.{Links, begun, seen, start_of}
use Rattle.simulator_link_laws.specs.rasta_core.Names.{Names, identity_of}
use Rattle.simulator_link_laws.specs.rasta_core.identity.Role.TheVariants as role
use Rattle.simulator_link_laws.specs.rasta_core.Run.{Ends}
use Rattle.simulator_link_laws.specs.object_host.Behaviour.{Behaviour}
use Rattle.simulator_link_laws.specs.object_host.Host.{keeping}
use Rattle.simulator_link_laws.specs.object_host.Hosted.{new_host}
use Rattle.simulator_link_laws.specs.point_ctl.Controlled.{point_behaviour}
use Rattle.simulator_link_laws.specs.point_ctl.Drive.{PointState, made}
use Rattle.simulator_link_laws.specs.signal_ctl.Lamp.{new_lamp}
use Rattle.simulator_link_laws.specs.signal_ctl.Signal.{SignalState, signal_behaviour}
use Rattle.simulator_link_laws.specs.ixl_client.Client.{new_client}
use Rattle.simulator_link_laws.specs.ixl_spec.State.{IxlState, KnownSignalState, RouteState, KnownPointState}
use Rattle.simulator_link_laws.specs.ixl_spec.Table.{Table}
use Rattle.simulator_machine.specs.Machine.{Machine}
use Rattle.simulator_machine.specs.Point as machine
use Rattle.simulator_machine.specs.Run.{first}
use Rattle.simulator_link_laws.specs.simulator_move_laws.Items.{position_seen}
use Rattle.simulator_link_laws.specs.simulator_move_laws.Ends.{AreFit}
use Rattle.simulator_link_laws.specs.simulator_move_laws.Point.{IsPointSeen}
use Rattle.simulator_link_laws.specs.simulator_move_laws.Signal.{IsSignalSeen}
use Rattle.simulator_machine.specs.Route.{Free}
use Rattle.simulator_link_laws.specs.ixl_spec.View.{is_holding}
use Rattle.simulator_link_laws.specs.simulator_move_laws.Lawful.{AreLawful, IsLawful}
use Rattle.simulator_link_laws.specs.simulator_move_laws.Made.{IsJustMade, IsMadeClient, IsQuietMachine}
use Rattle.simulator_link_laws.specs.simulator_move_laws.Nodes.{IsOfPoint, phase_seen}
use Rattle.simulator_link_laws.specs.simulator_move_laws.Rows.{machine_table}
use Rattle.simulator_link_laws.specs.simulator_move_laws.Sees.{Given, Sees}
use Rattle.simulator_link_laws.specs.simulator_spec.First.{Beginning, IsOutsetOf, Outset, at_zero, first_controller, host_of, new_ixl, new_known_signal_of, new_point, new_route_of, new_signal, new_known_point_of, point_standing, world_at}
use Rattle.simulator_link_laws.specs.simulator_spec.Links.{names_at, starts_at_zero}
use Rattle.simulator_link_laws.specs.simulator_spec.Nodes.{links, names_of, point_link}
use Rattle.simulator_link_laws.specs.simulator_spec.State.{ClockedControllerState}
use Rattle.simulator_link_laws.specs.Whole.{IsNamed, IsWhole}
use Rattle.simulator_safety.specs.Represents.{AreFrozen, ArePointsSeen, AreSignalsSeen, IsHostOf, IsInterlockingSeen, given_in}
use Rattle.simulator_safety.specs.Seen.{AreHeldPairs, positions_at}
use Rattle.simulator_safety.proofs.WorldLists.{contains_none, get_map, map_length, some_injective}

-- ---- an interlocking that was just made

pub just_made : (site : Site) (table : Table) (begins : Beginning) → IsJustMade (new_ixl site table begins)
unfolding new_ixl new_client created
just_made site table begins = record {
  known_signals = λ place known_signal at.
      let found = get_map (new_known_signal_of site begins) site.signals place known_signal at
      in subst (λ (l : KnownSignalState). IsMadeClient begins.clock l.client) found.2 (record { since = record { closed = refl; at = refl }; outside = refl; opens = refl });
  known_points = λ place known_point at.
      let found = get_map (new_known_point_of site begins) site.points place known_point at
      in subst (λ (s : KnownPointState). IsMadeClient begins.clock s.client × IsOfPoint s.client.peer) found.2 (record { since = record { closed = refl; at = refl }; outside = refl; opens = refl }, record { protocol = refl; one = refl });
  routes = λ number route at.
      let found = get_map new_route_of table.rows number route at
      in subst (λ (r : RouteState). phase_seen r.phase ≡ Free) found.2 refl;
}

-- ---- the controllers

-- the laws that this stands on
pub record FirstLaws : Type 0 where
  pub signals : (names : Names) (start : Start) (own_name peer_name : List ℕ) (object : SignalState) (version place : ℕ) (positions : ℕ → machine.Position) → AreFit (started names start)
      → IsSignalSeen (started names start) (new_host signal_behaviour (identity_of role.Server names) own_name peer_name start.server_first start.server_clock object version)
      ((first positions).signals place)
  pub points : (names : Names) (start : Start) (own_name peer_name : List ℕ) (object : PointState) (version place : ℕ) (positions : ℕ → machine.Position) → AreFit (started names start)
      → IsName own_name → IsName peer_name → version < 256 → positions place ≡ position_seen object.sensed
      → IsPointSeen (started names start) (new_host point_behaviour (identity_of role.Server names) own_name peer_name start.server_first start.server_clock object version)
      ((first positions).points place)
  pub fit : (names : Names) (ends : Ends) → IsLawful names ends → AreFit ends
  pub each : (count : ℕ) (names : ℕ → Names) (network : Links) → AreLawful count names network → (link : ℕ) → link < count → IsLawful (names link) (seen link network)
  pub signal_named : (site : Site) (place : ℕ) (entry : Signal) → slice_get site.signals place ≡ Some entry → (place < links site) × (names_at site place ≡ names_of site entry.id)
  pub point_named : (site : Site) (place : ℕ) (entry : Point) → slice_get site.points place ≡ Some entry
      → (point_link site place < links site) × (names_at site (point_link site place) ≡ names_of site entry.id)
  pub made_seen : (now : ℕ) (ixl : IxlState) (given : Given) (kept : Machine) → is_holding now ixl ≡ true → IsJustMade ixl → IsQuietMachine ixl kept → Sees now ixl given kept
  pub quiet : (ixl : IxlState) (positions : ℕ → machine.Position) → IsQuietMachine ixl (first positions)
  pub holds : (site : Site) (table : Table) (begins : Beginning) → begins.clock ≤ 9000000000000 → is_holding begins.clock (new_ixl site table begins) ≡ true

-- what stands at a place of a list of pairs
module _ {A B : Type 0} (xs : List A) (ys : List B) (same : length ys ≡ length xs) (place : ℕ) (both : A × B) (at : slice_get (zip xs ys) place ≡ Some both) where
  first_of_pair : slice_get xs place ≡ Some both.0
  first_of_pair = ap (λ l. slice_get l place) (sym (firsts-zip xs ys same)) ∙ (slice_get-map (λ (p : A × B). p.0) (zip xs ys) place ∙ ap (option_map (λ (p : A × B). p.0)) at)

  second_of_pair : slice_get ys place ≡ Some both.1
  second_of_pair = ap (λ l. slice_get l place) (sym (seconds-zip xs ys same)) ∙ (slice_get-map (λ (p : A × B). p.1) (zip xs ys) place ∙ ap (option_map (λ (p : A × B). p.1)) at)

module _ (laws : FirstLaws) (site : Site) (table : Table) (outset : Outset) (lies : IsOutsetOf site outset) (lawful : AreLawful (links site) (names_at site) (begun (names_at site) starts_at_zero))
    (whole : IsWhole site (world_at site table outset)) where
  abbrev network : Links
  network = begun (names_at site) starts_at_zero

  abbrev begins : Machine
  begins = first (positions_at outset)

  fit_at : (link : ℕ) → link < links site → AreFit (started (names_at site link) (start_of link starts_at_zero))
  fit_at link below = laws.fit (names_at site link) (seen link network) (laws.each (links site) (names_at site) network lawful link below)

  -- a host that was just made has its names
  host_is : {Object : Type 0} (does : Behaviour Object) (name : List ℕ) (id : ℕ) (object : Object) → IsHostOf site name (host_of does site at_zero name id object)
  unfolding new_host keeping
  host_is does name id object = record { own_name = refl; peer_name = refl; version = refl }

  abbrev signal_made : Signal → ClockedControllerState SignalState
  signal_made entry = first_controller (new_signal site at_zero entry)

  one_signal : (place : ℕ) (entry : Signal) → slice_get site.signals place ≡ Some entry → IsSignalSeen (seen place network) (new_signal site at_zero entry) (begins.signals place)
  one_signal place entry at =
      let named = laws.signal_named site place entry at
      in subst (λ (names : Names). IsSignalSeen (seen place network) (new_host signal_behaviour (identity_of role.Server names) entry.name site.station.name 0 0 (record { lamp = new_lamp; owes = false }) (telegram_version site)) (begins.signals place))
      named.1 (laws.signals (names_at site place) (start_of place starts_at_zero) entry.name site.station.name (record { lamp = new_lamp; owes = false }) (telegram_version site) place (positions_at outset) (fit_at place named.0))

  pub first_signals : AreSignalsSeen site network (world_at site table outset).signals begins
  unfolding world_at
  first_signals = record {
    each = λ place server at.
        let found = get_map signal_made site.signals place server at
        in subst (λ (s : ClockedControllerState SignalState). IsSignalSeen (seen place network) s.host (begins.signals place)) found.2 (one_signal place found.0 found.1);
    hosts = λ place entry server is at.
        let found = get_map signal_made site.signals place server at
        in let same : found.0 ≡ entry = some_injective found.0 entry (sym found.1 ∙ is)
        in subst (λ (s : ClockedControllerState SignalState). IsHostOf site entry.name s.host) (ap signal_made (sym same) ∙ found.2) (host_is signal_behaviour entry.name entry.id (record { lamp = new_lamp; owes = false }));
  }

  abbrev stood : List (Point × Position)
  stood = zip site.points outset.positions

  -- the names of a point's host
  point_names : (place : ℕ) (both : Point × Position) → slice_get (map (point_standing site) stood) place ≡ Some (point_standing site both) → IsNamed (new_point site at_zero both.1 both.0)
  unfolding world_at
  point_names place both at = whole.points_named place (point_standing site both) at

  -- the machine's point stands where the point does
  position_is : (place : ℕ) (both : Point × Position) → slice_get stood place ≡ Some both → positions_at outset place ≡ position_seen both.1
  position_is place both at =
      ap position_seen (get_or_from_slice_get outset.positions place both.1 positions.NoEndPosition (second_of_pair site.points outset.positions lies.positions place both at))

  one_point : (place : ℕ) (both : Point × Position) → slice_get stood place ≡ Some both → IsNamed (new_point site at_zero both.1 both.0)
      → IsPointSeen (seen (point_link site place) network) (new_point site at_zero both.1 both.0) (begins.points place)
  unfolding new_host keeping
  one_point place both at names =
      let entry = both.0
      in let named = laws.point_named site place entry (first_of_pair site.points outset.positions lies.positions place both at)
      in subst (λ (names : Names). IsPointSeen (seen (point_link site place) network) (new_host point_behaviour (identity_of role.Server names) entry.name site.station.name 0 0 (made both.1) (telegram_version site)) (begins.points place))
      named.1 (laws.points (names_at site (point_link site place)) (start_of (point_link site place) starts_at_zero) entry.name site.station.name (made both.1) (telegram_version site) place (positions_at outset)
      (fit_at (point_link site place) named.0) names.own_name names.peer_name names.version (position_is place both at))

  each_point : (place : ℕ) (server : ClockedControllerState PointState) → slice_get (map (point_standing site) stood) place ≡ Some server → IsPointSeen (seen (point_link site place) network) server.host (begins.points place)
  each_point place server at =
      let found = get_map (point_standing site) stood place server at
      in subst (λ (s : ClockedControllerState PointState). IsPointSeen (seen (point_link site place) network) s.host (begins.points place)) found.2
      (one_point place found.0 found.1 (point_names place found.0 (at ∙ ap (λ s. Some s) (sym found.2))))

  point_host : (place : ℕ) (entry : Point) (server : ClockedControllerState PointState) → slice_get site.points place ≡ Some entry → slice_get (map (point_standing site) stood) place ≡ Some server
      → IsHostOf site entry.name server.host
  point_host place entry server is at =
      let found = get_map (point_standing site) stood place server at
      in let same : found.0.0 ≡ entry = some_injective found.0.0 entry (sym (first_of_pair site.points outset.positions lies.positions place found.0 found.1) ∙ is)
      in subst (λ (p : Point). IsHostOf site p.name server.host) same
      (subst (λ (s : ClockedControllerState PointState). IsHostOf site found.0.0.name s.host) found.2 (host_is point_behaviour found.0.0.name found.0.0.id (made found.0.1)))

  point_sensed : (place : ℕ) (server : ClockedControllerState PointState) (position : Position) → slice_get (map (point_standing site) stood) place ≡ Some server → slice_get outset.positions place ≡ Some position
      → server.host.object.sensed ≡ position
  unfolding new_host keeping
  point_sensed place server position at is =
      let found = get_map (point_standing site) stood place server at
      in ap (λ (s : ClockedControllerState PointState). s.host.object.sensed) (sym found.2)
      ∙ some_injective found.0.1 position (sym (second_of_pair site.points outset.positions lies.positions place found.0 found.1) ∙ is)

  pub first_points : ArePointsSeen site network (world_at site table outset).points (world_at site table outset).positions begins
  unfolding world_at
  first_points = record { each = each_point; hosts = point_host; sensed = point_sensed; count = lies.positions }

  -- ---- the interlocking

  pub first_station : IsInterlockingSeen site table network (world_at site table outset).interlocking begins
  unfolding world_at new_ixl new_client
  first_station = record {
    sees = laws.made_seen 0 (new_ixl site table at_zero) (given_in site network) begins (laws.holds site table at_zero (omega arith)) (just_made site table at_zero) (laws.quiet (new_ixl site table at_zero) (positions_at outset));
    routes = map_length new_route_of table.rows;
    objects = λ place entry known_point is at.
        let found = get_map (new_known_point_of site at_zero) site.points place known_point at
        in let same : found.0 ≡ entry = some_injective found.0 entry (sym found.1 ∙ is)
        in subst (λ (s : KnownPointState). s.client.peer.objects ≡ entry.name ∷ []) (ap (new_known_point_of site at_zero) (sym same) ∙ found.2) refl;
    clock = omega arith;
  }

  none_held : AreHeldPairs (machine_table table) [] (λ route. false)
  none_held signal route = (λ contained. absurd (contains_none _ contained), λ both. absurd (false≢true both.1))

  pub first_frozen : AreFrozen site table (world_at site table outset).frozen begins
  unfolding world_at
  first_frozen = record { pairs = none_held; there = λ pair contained. absurd (contains_none pair contained) }
