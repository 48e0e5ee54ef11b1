-- The calls of an event at a link, where the step of its client closes none for a full window.
use Rattle.simulator_recovery.proofs.Words.Basics.{◌≡◌, ◌≢◌, ℕ, ◌∙◌, ◌==◌, Bool, true, false, List, [], ◌∷◌, map, Option, Some, None, slice_get, if◌then◌else◌, refl, sym, subst, arith, false≢true, nat_tests}
use Rattle.simulator_recovery.proofs.Words.Links.{Each, AreTimely, Call, AreLinks, CallsOn, Links, LinksEvent, NodeCall, at_link, calls_of, restarts_of, Role, Reason}
use Rattle.simulator_recovery.proofs.Words.Controllers.{as_call as host_call, Occupancy, Behaviour, Input as HostInput, Sense, signal_behaviour, point_behaviour, detection_behaviour}
use Rattle.simulator_recovery.proofs.Words.Interlockings.{Closes, LinkCall, Opens, Receives, Sends, Ticks, as_call, Node, Table}
use Rattle.simulator_recovery.proofs.Words.Stations.{Site, Event, NodeId, step_of, coming, delivered_to, happens, interlocking_stepped, passed, ticked_at, interlocking_step, AreLinksOf, names_at, connection_of, copy_of, detector_link, links, node_at, point_link, refusal, ClockedControllerState, WorldState, AreOfNodes, IsNodeOf, link_at, node_call, anew_events, contact_events, delivery_events, events_of, host_events, interlocking_events, numbers_below, restart_events, tick_events, MayComeWith, HasClients, IsWhole}
use Rattle.simulator_recovery.proofs.Words.Recovery.{FillsNoWindowOn, LawsBelow}
use Rattle.simulator_spec.specs.rasta_core.Ends as ends
use Rattle.simulator_spec.specs.ixl_spec.Step as ixl
use Rattle.simulator_spec.specs.Nodes as nodes
use Rattle.simulator_recovery.proofs.Lemmas.Ground.ComesWith.{none_comes, one_comes}
use Rattle.simulator_recovery.proofs.Lemmas.Windows.FewItems.{LeavesWindow}
use Rattle.simulator_recovery.proofs.Lemmas.Ground.IxlSoFar.{at_node}
use Rattle.simulator_recovery.proofs.Lemmas.Talk.StationTalk.{at_link_is}

-- ---- the calls of a step, as events of the links

-- a call that closes no end for a full window
abbrev KeepsOpen : Call → Type 0
KeepsOpen (ends.Closes why) = why ≡ Reason.Window → ⊥
KeepsOpen _ = Unit {0}

module _ (site : Site) (node : Node) (there : IsNodeOf site node) where
  abbrev Leaves : LinksEvent → Type 0
  Leaves one = FillsNoWindowOn (link_at site node) one

  elsewhere : (at : ℕ) (call : Call) → link_at site node ≢ at → Leaves (CallsOn at Role.Client call)
  elsewhere at ends.Ticks differ = tt
  elsewhere at ends.Opens differ = tt
  elsewhere at (ends.Closes why) differ = λ e. differ
  elsewhere at (ends.Sends item) differ = tt
  elsewhere at (ends.Receives bytes connection) differ = tt

  here : (at : ℕ) (call : Call) → KeepsOpen call → Leaves (CallsOn at Role.Client call)
  here at ends.Ticks keeps = tt
  here at ends.Opens keeps = tt
  here at (ends.Closes why) keeps = λ e. absurd (keeps e)
  here at (ends.Sends item) keeps = tt
  here at (ends.Receives bytes connection) keeps = tt

  as_call_keeps : (connection : ℕ) (call : LinkCall) → LeavesWindow call → KeepsOpen (as_call connection call)
  as_call_keeps connection Opens leaves = tt
  as_call_keeps connection Ticks leaves = tt
  as_call_keeps connection (Closes why) leaves = λ e. subst (λ (r : Reason). LeavesWindow (Closes r)) e leaves
  as_call_keeps connection (Sends item) leaves = tt
  as_call_keeps connection (Receives bytes) leaves = tt

  all_keep : (connection : ℕ) (calls : List LinkCall) → Each LeavesWindow calls → Each KeepsOpen (map (as_call connection) calls)
  all_keep connection [] leaves = tt
  all_keep connection (first ∷ others) leaves = (as_call_keeps connection first leaves.0, all_keep connection others leaves.1)

  each_at : (calls : List NodeCall) → Each KeepsOpen (at_link (link_at site node) calls) → Each Leaves (calls_of Role.Client calls)
  each_at [] keeps = tt
  each_at (first ∷ later) keeps = choose (each_at later) (link_at site node == first.link) refl keeps
    where
      choose : (Each KeepsOpen (at_link (link_at site node) later) → Each Leaves (calls_of Role.Client later)) → (b : Bool) → (link_at site node == first.link) ≡ b
          → Each KeepsOpen (if b then first.call ∷ at_link (link_at site node) later else at_link (link_at site node) later) → Leaves (CallsOn first.link Role.Client first.call) × Each Leaves (calls_of Role.Client later)
      choose more true e has = (here first.link first.call has.0, more has.1)
      choose more false e has = (elsewhere first.link first.call (λ same. false≢true (sym e ∙ grind (arith, nat_tests, same))), more has)

  node_calls : (connection : ℕ) (calls : List (Node × LinkCall)) → AreOfNodes site calls → Each LeavesWindow (at_node node calls) → Each Leaves (calls_of Role.Client (map (node_call site connection) calls))
  node_calls connection calls are leaves = each_at (map (node_call site connection) calls) (subst (Each KeepsOpen) (sym (at_link_is site connection node there calls are)) (all_keep connection (at_node node calls) leaves))

  -- controllers close no client's link
  host_leaves : {Object : Type 0} (does : Behaviour Object) (input : HostInput) (connection link : ℕ) (found : Option (ClockedControllerState Object)) → Each Leaves (host_events does input connection link found)
  host_leaves does input connection link None = tt
  host_leaves does input connection link (Some c) = each (map (host_call connection) (step_of does input c).calls)
    where
      each : (calls : List Call) → Each Leaves (map (λ call. CallsOn link Role.Server call) calls)
      each [] = tt
      each (first ∷ others) = (tt, each others)

  anew_leaves : (clock : ℕ) (firsts : ℕ → ℕ) (numbers : List ℕ) → Each Leaves (restarts_of Role.Client clock firsts numbers)
  anew_leaves clock firsts [] = tt
  anew_leaves clock firsts (first ∷ others) = (tt, anew_leaves clock firsts others)

  one_anew : {Entry : Type 0} (clock first link : ℕ) (found : Option Entry) → Each Leaves (anew_events clock first link found)
  one_anew clock first link None = tt
  one_anew clock first link (Some entry) = (tt, tt)

-- ---- the calls of an event

-- what the calls of a station's clients are
module _ (laws : LawsBelow) (site : Site) (table : Table) (node : Node) (there : IsNodeOf site node) (world : WorldState) (network : Links) (named : AreLinks (links site) (names_at site)) (whole : IsWhole site world)
    (timely : AreTimely (links site) (names_at site) network) (are : AreLinksOf site world network) (whole_after : (happening : Event) → refusal site happening world ≡ None → IsWhole site (happens site table happening world))
    (May : List LinksEvent → Type 0) where
  abbrev AllLeave : List LinksEvent → Type 0
  AllLeave events = Each (FillsNoWindowOn (link_at site node)) events

  -- the step of its client closes the link for no full window, where the interlocking has all its clients after it
  module _ (step_leaves : (input : ixl.Input) (connection : ℕ) → MayComeWith site input connection network → May (interlocking_events site table input connection world.interlocking) → HasClients site (interlocking_step site table input world.interlocking).ixl
      → Each LeavesWindow (at_node node (interlocking_step site table input world.interlocking).calls)) where
    interlocking_leaves : (input : ixl.Input) (connection : ℕ) → MayComeWith site input connection network → May (interlocking_events site table input connection world.interlocking) → HasClients site (interlocking_step site table input world.interlocking).ixl
        → AllLeave (interlocking_events site table input connection world.interlocking)
    interlocking_leaves input connection comes may many = node_calls site node there connection (interlocking_step site table input world.interlocking).calls
        (laws.interlockings_call_their_nodes site table input connection world network named whole timely are comes) (step_leaves input connection comes may many)

    tick_leaves : (at : Option nodes.Node) → May (tick_events site table at world) → HasClients site (ticked_at site table at world).interlocking.ixl → AllLeave (tick_events site table at world)
    unfolding interlocking_stepped
    tick_leaves None may many = tt
    tick_leaves (Some nodes.Interlocking) may many = interlocking_leaves ixl.Tick 0 (none_comes site network ixl.Tick (λ bytes f. absurd (cc f))) may many
    tick_leaves (Some (nodes.Signal at)) may many = host_leaves site node there signal_behaviour HostInput.Tick 0 at (slice_get world.signals at)
    tick_leaves (Some (nodes.Point at)) may many = host_leaves site node there point_behaviour HostInput.Tick 0 (point_link site at) (slice_get world.points at)
    tick_leaves (Some (nodes.Detector at)) may many = host_leaves site node there detection_behaviour HostInput.Tick 0 (detector_link site at) (slice_get world.detectors at)

    come_leaves : (id : NodeId) (bytes : List ℕ) (at : Option nodes.Node) → refusal site (Event.Deliver id bytes) world ≡ None → May (delivery_events site table bytes (connection_of (copy_of bytes world)) at world) → HasClients site (delivered_to site table bytes (connection_of (copy_of bytes world)) at world).interlocking.ixl
        → AllLeave (delivery_events site table bytes (connection_of (copy_of bytes world)) at world)
    unfolding interlocking_stepped
    come_leaves id bytes None intact may many = tt
    come_leaves id bytes (Some nodes.Interlocking) intact may many = interlocking_leaves (ixl.Datagram bytes) (connection_of (copy_of bytes world))
        (one_comes site network bytes (connection_of (copy_of bytes world)) (laws.deliveries_may_come_links site id bytes world network are intact)) may many
    come_leaves id bytes (Some (nodes.Signal at)) intact may many = host_leaves site node there signal_behaviour (coming bytes) (connection_of (copy_of bytes world)) at (slice_get world.signals at)
    come_leaves id bytes (Some (nodes.Point at)) intact may many = host_leaves site node there point_behaviour (coming bytes) (connection_of (copy_of bytes world)) (point_link site at) (slice_get world.points at)
    come_leaves id bytes (Some (nodes.Detector at)) intact may many = host_leaves site node there detection_behaviour (coming bytes) (connection_of (copy_of bytes world)) (detector_link site at) (slice_get world.detectors at)

    sense_leaves : (occupancy : Occupancy) (reporter : Option (ℕ × ℕ)) → AllLeave (contact_events site reporter (λ at. HostInput.Sense (Sense.Section at occupancy)) world.detectors)
    sense_leaves occupancy None = tt
    sense_leaves occupancy (Some reporter) = host_leaves site node there detection_behaviour (HostInput.Sense (Sense.Section reporter.1 occupancy)) 0 (detector_link site reporter.0) (slice_get world.detectors reporter.0)

    restart_leaves : (clock first : ℕ) (at : Option nodes.Node) → AllLeave (restart_events site clock first at)
    restart_leaves clock first None = tt
    restart_leaves clock first (Some nodes.Interlocking) = anew_leaves site node there clock (λ link. first) (numbers_below (links site))
    restart_leaves clock first (Some (nodes.Signal at)) = one_anew site node there clock first at (slice_get site.signals at)
    restart_leaves clock first (Some (nodes.Point at)) = one_anew site node there clock first (point_link site at) (slice_get site.points at)
    restart_leaves clock first (Some (nodes.Detector at)) = one_anew site node there clock first (detector_link site at) (slice_get site.detectors at)

    pub event_leaves : (happening : Event) → refusal site happening world ≡ None → May (events_of site table happening world) → AllLeave (events_of site table happening world)
    unfolding happens events_of passed interlocking_stepped
    event_leaves (Event.Request command) intact may = interlocking_leaves (ixl.Commands command) 0 (none_comes site network (ixl.Commands command) (λ bytes f. absurd (cc f))) may (whole_after (Event.Request command) intact).clients
    event_leaves (Event.Occupy section occupancy) intact may = sense_leaves occupancy (slice_get table.reporters section.0)
    event_leaves (Event.Tick id) intact may = tick_leaves (node_at site id.0) may (whole_after (Event.Tick id) intact).clients
    event_leaves (Event.Time elapsed clocks) intact may = (tt, tt)
    event_leaves (Event.Deliver id bytes) intact may = come_leaves id bytes (node_at site id.0) intact may (whole_after (Event.Deliver id bytes) intact).clients
    event_leaves (Event.Lose bytes) intact may = (tt, tt)
    event_leaves (Event.Reach point position) intact may = host_leaves site node there point_behaviour (HostInput.Sense (Sense.Position position)) 0 (point_link site point.0) (slice_get world.points point.0)
    event_leaves (Event.Restart id clock first) intact may = restart_leaves clock first (node_at site id.0)
