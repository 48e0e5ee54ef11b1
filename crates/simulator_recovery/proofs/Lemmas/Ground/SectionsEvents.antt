-- What is kept of an interlocking, with what its clients have given and taken, by its steps is kept by each event of the station.
use Rattle.simulator_recovery.proofs.Words.Basics.{◌≡◌, ℕ, List, [], ◌∷◌, ◌++◌, None, refl, sym, subst, Option, Some, slice_get, slice_set, ap}
use Rattle.simulator_recovery.proofs.Words.Links.{AreTimely, AreLinks, Links, LinksEvent, MayRunLinks, begun, run_links, Names, end_later, MayCallOn, Role}
use Rattle.simulator_recovery.proofs.Words.Interlockings.{Table, IxlState}
use Rattle.simulator_recovery.proofs.Words.Stations.{Site, Once, IsStation, Event, IsOutsetOf, Outset, world_at, happens, AreLinksOf, names_at, starts_at_zero, links, refusal, CanHappen, after_all, WorldState, FollowsBy, events_of, HasLinks, links_in, IsWhole, IsReached, NodeId, Beginning, new_ixl, coming, delivered_to, detector_anew, detector_stepped, interlocking_stepped, made_anew, passed, point_anew, point_stepped, sensed_by, signal_anew, signal_stepped, ticked_at, interlocking_step, connection_of, copy_of, detector_link, node_at, point_link, ClockedControllerState, anew_events, contact_events, delivery_events, host_events, interlocking_events, numbers_below, restart_events, tick_events, time_events, MayComeWith}
use Rattle.simulator_recovery.proofs.Words.Recovery.{LawsBelow, input_at, input_of}
use Rattle.simulator_recovery.proofs.Words.Controllers.{Occupancy, Behaviour, Input as HostInput, Sense, point_behaviour, signal_behaviour, detection_behaviour}
use Rattle.simulator_spec.specs.rasta_core.Ends as ends
use Rattle.simulator_spec.specs.ixl_spec.Step as ixl
use Rattle.simulator_spec.specs.Nodes as nodes
use Rattle.simulator_recovery.proofs.Lemmas.Talk.StationTalk.{SameLists, anew_same, host_same, all_anew_same}

-- ---- what is so of a station and its links at the beginning, and is kept by each event, is so after every list of events

run_both : (one other : List LinksEvent) (network : Links) → run_links (one ++ other) network ≡ run_links other (run_links one network)
run_both [] other network = refl
run_both (first ∷ one) other network = run_both one other _

may_both : (count : ℕ) (names : ℕ → Names) (one other : List LinksEvent) (network : Links) → MayRunLinks count names one network → MayRunLinks count names other (run_links one network) → MayRunLinks count names (one ++ other) network
may_both count names [] other network may rest = rest
may_both count names (first ∷ one) other network may rest = (may.0, may_both count names one other _ may.1 rest)

-- an event that can happen to a station with these links
pub record CanBe (site : Site) (table : Table) (happening : Event) (world : WorldState) (network : Links) : Type 0 where
  pub named : AreLinks (links site) (names_at site)
  pub whole : IsWhole site world
  pub timely : AreTimely (links site) (names_at site) network
  pub are : AreLinksOf site world network
  pub may : refusal site happening world ≡ None
  pub follows : FollowsBy site (events_of site table happening world) (happens site table happening world) network

module _ (laws : LawsBelow) (site : Site) (table : Table) (station : IsStation site) (once : Once site) (Holds : WorldState → Links → Type 0)
    (starts : (outset : Outset) → IsOutsetOf site outset → Holds (world_at site table outset) (begun (names_at site) starts_at_zero))
    (kept : (happening : Event) (world : WorldState) (network : Links) → CanBe site table happening world network → Holds world network
    → Holds (happens site table happening world) (run_links (events_of site table happening world) network)) where
  -- the links that lead on from some, and what holds of them
  record LeadsOn (world : WorldState) (network : Links) : Type 0 where
    events : List LinksEvent
    may : MayRunLinks (links site) (names_at site) events network
    are : AreLinksOf site world (run_links events network)
    holds : Holds world (run_links events network)

  lead_on : (first : Event) (others : List Event) (world : WorldState) (network : Links) → MayRunLinks (links site) (names_at site) (events_of site table first world) network
      → LeadsOn (after_all site table others (happens site table first world)) (run_links (events_of site table first world) network) → LeadsOn (after_all site table (first ∷ others) world) network
  lead_on first others world network may rest = record {
    events = events_of site table first world ++ rest.events;
    may = may_both (links site) (names_at site) (events_of site table first world) rest.events network may rest.may;
    are = subst (AreLinksOf site (after_all site table others (happens site table first world))) (sym (run_both (events_of site table first world) rest.events network)) rest.are;
    holds = subst (Holds (after_all site table others (happens site table first world))) (sym (run_both (events_of site table first world) rest.events network)) rest.holds;
  }

  all_held : (events : List Event) (world : WorldState) (network : Links) → IsWhole site world → AreTimely (links site) (names_at site) network → AreLinksOf site world network → Holds world network
      → CanHappen site table events world → LeadsOn (after_all site table events world) network
  all_held [] world network whole timely are holds can = record { events = []; may = tt; are = are; holds = holds }
  all_held (first ∷ others) world network whole timely are holds can =
      let named = laws.layouts_name_their_links site station once
      in let follows = laws.events_are_those_of_the_links_exactly site table first world network named whole timely are can.0
      in lead_on first others world network follows.may (all_held others (happens site table first world) (run_links (events_of site table first world) network)
      (laws.events_are_those_of_the_links_whole site table first world network named station whole timely are can.0)
      (laws.links_keep_time_run (links site) (names_at site) (events_of site table first world) network named timely follows.may)
      follows.are (kept first world network (record { named = named; whole = whole; timely = timely; are = are; may = can.0; follows = follows }) holds) can.1)

  -- the links that a station has had since its beginning, and what holds of them
  pub record HasHeld (world : WorldState) : Type 0 where
    pub has : HasLinks site world
    pub holds : Holds world (links_in has)

  pub always_held : (world : WorldState) → IsReached site table world → HasHeld world
  always_held world reached = record {
    has = record { events = on.events; may = on.may; are = subst (λ (w : WorldState). AreLinksOf site w (run_links on.events (begun (names_at site) starts_at_zero))) (sym reached.after) on.are };
    holds = subst (λ (w : WorldState). Holds w (run_links on.events (begun (names_at site) starts_at_zero))) (sym reached.after) on.holds;
  }
    where
      start : WorldState
      start = world_at site table reached.outset

      network : Links
      network = begun (names_at site) starts_at_zero

      on : LeadsOn (after_all site table reached.events start) network
      on = all_held reached.events start network (laws.stations_have_links_first site table reached.outset station reached.lies).whole
          (laws.links_keep_time_starts (links site) (names_at site) starts_at_zero (laws.layouts_name_their_links site station once)) (laws.a_station_begins_its_links site table reached.outset reached.lies)
          (starts reached.outset reached.lies) reached.can

-- ---- what is kept of an interlocking, with what its clients have given and taken, by its steps is kept by each event of the station

-- a step of the interlocking that can be
pub record CanStep (site : Site) (table : Table) (input : ixl.Input) (connection : ℕ) (happening : Event) (world : WorldState) (network : Links) : Type 0 where
  pub can : CanBe site table happening world network
  pub brings : input_of site happening ≡ Some input
  pub comes : MayComeWith site input connection network
  pub may : MayRunLinks (links site) (names_at site) (interlocking_events site table input connection world.interlocking) network

module _ (laws : LawsBelow) (may_come : (site : Site) (node : NodeId) (bytes : List ℕ) (world : WorldState) (before : Links) → AreLinksOf site world before → refusal site (Event.Deliver node bytes) world ≡ None
    → (link : ℕ) → MayCallOn (names_at site link) (ends.Receives bytes (connection_of (copy_of bytes world))) before) (site : Site) (table : Table)
    (Fine : Event → Type 0) (Given : WorldState → Links → Type 0) (P : IxlState → Links → Type 0)
    (same : (known : IxlState) (old new : Links) → SameLists old new → P known old → P known new)
    (steps : (input : ixl.Input) (connection : ℕ) (happening : Event) (world : WorldState) (network : Links) → CanStep site table input connection happening world network → Fine happening → Given world network → P world.interlocking.ixl network
    → P (interlocking_step site table input world.interlocking).ixl (run_links (interlocking_events site table input connection world.interlocking) network))
    (made : (begins : Beginning) (world : WorldState) (old new : Links) → IsWhole site world → SameLists old new → Given world old → P world.interlocking.ixl old → P (new_ixl site table begins) new) where
  none_comes : (input : ixl.Input) (network : Links) → ((bytes : List ℕ) → input ≡ ixl.Datagram bytes → ⊥) → MayComeWith site input 0 network
  none_comes input network none bytes e = absurd (none bytes e)

  host_kept : {Object : Type 0} (does : Behaviour Object) (input : HostInput) (connection link : ℕ) (found : Option (ClockedControllerState Object)) (known : IxlState) (network : Links) → P known network
      → P known (run_links (host_events does input connection link found) network)
  host_kept does input connection link found known network is = same known network _ (host_same laws does input connection link found network) is

  tick_kept : (node : NodeId) (at : Option nodes.Node) (world : WorldState) (network : Links) (can : CanBe site table (Event.Tick node) world network) → node_at site node.0 ≡ at → Fine (Event.Tick node) → Given world network → P world.interlocking.ixl network
      → P (ticked_at site table at world).interlocking.ixl (run_links (tick_events site table at world) network)
  unfolding signal_stepped point_stepped detector_stepped interlocking_stepped events_of happens
  tick_kept node None world network can e fine given is = is
  tick_kept node (Some nodes.Interlocking) world network can e fine given is = steps ixl.Tick 0 (Event.Tick node) world network (record {
    can = can;
    brings = ap (λ (n : Option nodes.Node). input_at n ixl.Tick) e;
    comes = none_comes ixl.Tick network (λ bytes f. absurd (cc f));
    may = subst (λ (n : Option nodes.Node). MayRunLinks (links site) (names_at site) (tick_events site table n world) network) e can.follows.may;
  }) fine given is
  tick_kept node (Some (nodes.Signal place)) world network can e fine given is = host_kept signal_behaviour HostInput.Tick 0 place (slice_get world.signals place) world.interlocking.ixl network is
  tick_kept node (Some (nodes.Point place)) world network can e fine given is = host_kept point_behaviour HostInput.Tick 0 (point_link site place) (slice_get world.points place) world.interlocking.ixl network is
  tick_kept node (Some (nodes.Detector place)) world network can e fine given is = host_kept detection_behaviour HostInput.Tick 0 (detector_link site place) (slice_get world.detectors place) world.interlocking.ixl network is

  come_kept : (node : NodeId) (bytes : List ℕ) (at : Option nodes.Node) (world : WorldState) (network : Links) (can : CanBe site table (Event.Deliver node bytes) world network) → node_at site node.0 ≡ at → Fine (Event.Deliver node bytes) → Given world network → P world.interlocking.ixl network
      → P (delivered_to site table bytes (connection_of (copy_of bytes world)) at world).interlocking.ixl (run_links (delivery_events site table bytes (connection_of (copy_of bytes world)) at world) network)
  unfolding signal_stepped point_stepped detector_stepped interlocking_stepped events_of happens
  come_kept node bytes None world network can e fine given is = is
  come_kept node bytes (Some nodes.Interlocking) world network can e fine given is = steps (ixl.Datagram bytes) (connection_of (copy_of bytes world)) (Event.Deliver node bytes) world network (record {
    can = can;
    brings = ap (λ (n : Option nodes.Node). input_at n (ixl.Datagram bytes)) e;
    comes = λ other f link below. subst (λ (b : List ℕ). MayCallOn (names_at site link) (ends.Receives b (connection_of (copy_of bytes world))) network) (ap datagram_of f) (may_come site node bytes world network can.are can.may link);
    may = subst (λ (n : Option nodes.Node). MayRunLinks (links site) (names_at site) (delivery_events site table bytes (connection_of (copy_of bytes world)) n world) network) e can.follows.may;
  }) fine given is
    where
      datagram_of : ixl.Input → List ℕ
      datagram_of (ixl.Datagram b) = b
      datagram_of ixl.Tick = []
      datagram_of (ixl.Commands command) = []
  come_kept node bytes (Some (nodes.Signal place)) world network can e fine given is = host_kept signal_behaviour (coming bytes) (connection_of (copy_of bytes world)) place (slice_get world.signals place) world.interlocking.ixl network is
  come_kept node bytes (Some (nodes.Point place)) world network can e fine given is = host_kept point_behaviour (coming bytes) (connection_of (copy_of bytes world)) (point_link site place) (slice_get world.points place) world.interlocking.ixl network is
  come_kept node bytes (Some (nodes.Detector place)) world network can e fine given is = host_kept detection_behaviour (coming bytes) (connection_of (copy_of bytes world)) (detector_link site place) (slice_get world.detectors place) world.interlocking.ixl network is

  sense_kept : (occupancy : Occupancy) (reporter : Option (ℕ × ℕ)) (world : WorldState) (network : Links) → P world.interlocking.ixl network
      → P (sensed_by site occupancy reporter world).interlocking.ixl (run_links (contact_events site reporter (λ place. HostInput.Sense (Sense.Section place occupancy)) world.detectors) network)
  unfolding detector_stepped
  sense_kept occupancy None world network is = is
  sense_kept occupancy (Some reporter) world network is = host_kept detection_behaviour (HostInput.Sense (Sense.Section reporter.1 occupancy)) 0 (detector_link site reporter.0) (slice_get world.detectors reporter.0) world.interlocking.ixl network is

  restart_kept : (begins : Beginning) (at : Option nodes.Node) (world : WorldState) (network : Links) → IsWhole site world → Given world network → P world.interlocking.ixl network
      → P (made_anew site table begins at world).interlocking.ixl (run_links (restart_events site begins.clock begins.first at) network)
  restart_kept begins None world network whole given is = is
  restart_kept begins (Some nodes.Interlocking) world network whole given is = made begins world network _ whole
      (all_anew_same Role.Client begins.clock (λ link. begins.first) (numbers_below (links site)) network) given is
  restart_kept begins (Some (nodes.Signal place)) world network whole given is = by_found (slice_get site.signals place)
    where
      by_found : (found : Option _) → P (signal_anew site begins place found world).interlocking.ixl (run_links (anew_events begins.clock begins.first place found) network)
      by_found None = is
      by_found (Some entry) = same world.interlocking.ixl network _ (anew_same place Role.Server begins.clock begins.first network) is
  restart_kept begins (Some (nodes.Point place)) world network whole given is = by_found (slice_get site.points place)
    where
      by_found : (found : Option _) → P (point_anew site begins place found world).interlocking.ixl (run_links (anew_events begins.clock begins.first (point_link site place) found) network)
      by_found None = is
      by_found (Some entry) = same world.interlocking.ixl network _ (anew_same (point_link site place) Role.Server begins.clock begins.first network) is
  restart_kept begins (Some (nodes.Detector place)) world network whole given is = by_found (slice_get site.detectors place)
    where
      by_found : (found : Option _) → P (detector_anew site begins place found world).interlocking.ixl (run_links (anew_events begins.clock begins.first (detector_link site place) found) network)
      by_found None = is
      by_found (Some entry) = same world.interlocking.ixl network _ (anew_same (detector_link site place) Role.Server begins.clock begins.first network) is

  time_same : (elapsed : ℕ) (clocks : List ℕ) (network : Links) → SameLists network (run_links (time_events elapsed clocks) network)
  unfolding end_later
  time_same elapsed clocks network = record { given = λ link. refl; taken = λ link. refl }

  pub fine_kept : (happening : Event) (world : WorldState) (network : Links) → CanBe site table happening world network → Fine happening → Given world network → P world.interlocking.ixl network
      → P (happens site table happening world).interlocking.ixl (run_links (events_of site table happening world) network)
  unfolding happens events_of passed point_stepped interlocking_stepped
  fine_kept (Event.Request command) world network can fine given is = steps (ixl.Commands command) 0 (Event.Request command) world network
      (record { can = can; brings = refl; comes = none_comes (ixl.Commands command) network (λ bytes f. absurd (cc f)); may = can.follows.may }) fine given is
  fine_kept (Event.Occupy section occupancy) world network can fine given is = sense_kept occupancy (slice_get table.reporters section.0) (record world { occupancies = slice_set world.occupancies section.0 occupancy }) network is
  fine_kept (Event.Tick node) world network can fine given is = tick_kept node (node_at site node.0) world network can refl fine given is
  fine_kept (Event.Time elapsed clocks) world network can fine given is = same world.interlocking.ixl network _ (time_same elapsed clocks network) is
  fine_kept (Event.Deliver node bytes) world network can fine given is = come_kept node bytes (node_at site node.0) world network can refl fine given is
  fine_kept (Event.Lose bytes) world network can fine given is = same world.interlocking.ixl network _ (record { given = λ link. refl; taken = λ link. refl }) is
  fine_kept (Event.Reach point position) world network can fine given is =
      host_kept point_behaviour (HostInput.Sense (Sense.Position position)) 0 (point_link site point.0) (slice_get world.points point.0) world.interlocking.ixl network is
  fine_kept (Event.Restart node clock first) world network can fine given is = restart_kept (record { clock = clock; first = first }) (node_at site node.0) world network can.whole given is

-- and whatever event it is
module _ (laws : LawsBelow) (may_come : (site : Site) (node : NodeId) (bytes : List ℕ) (world : WorldState) (before : Links) → AreLinksOf site world before → refusal site (Event.Deliver node bytes) world ≡ None
    → (link : ℕ) → MayCallOn (names_at site link) (ends.Receives bytes (connection_of (copy_of bytes world))) before) (site : Site) (table : Table) (Given : WorldState → Links → Type 0) (P : IxlState → Links → Type 0)
    (same : (known : IxlState) (old new : Links) → SameLists old new → P known old → P known new)
    (steps : (input : ixl.Input) (connection : ℕ) (happening : Event) (world : WorldState) (network : Links) → CanStep site table input connection happening world network → Given world network → P world.interlocking.ixl network
    → P (interlocking_step site table input world.interlocking).ixl (run_links (interlocking_events site table input connection world.interlocking) network))
    (made : (begins : Beginning) (world : WorldState) (old new : Links) → IsWhole site world → SameLists old new → Given world old → P world.interlocking.ixl old → P (new_ixl site table begins) new) where
  pub event_kept : (happening : Event) (world : WorldState) (network : Links) → CanBe site table happening world network → Given world network → P world.interlocking.ixl network
      → P (happens site table happening world).interlocking.ixl (run_links (events_of site table happening world) network)
  event_kept happening world network can given is = fine_kept laws may_come site table (λ one. Unit {0}) Given P same
      (λ input connection one w n step fine. steps input connection one w n step) made happening world network can tt given is
