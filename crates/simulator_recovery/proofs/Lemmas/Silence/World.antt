-- What the server of one link hears in an event of a station.
use Rattle.simulator_recovery.proofs.Words.Basics.{◌≡◌, ◌≢◌, ◌⊎◌, inl, inr, ℕ, ◌+◌, ◌<◌, ◌≤◌, Bool, true, false, List, [], ◌∷◌, Option, Some, None, IsTrue, slice_get, refl, sym, ap, subst, ◌∙◌, arith, ◌==◌, ◌&&◌, is_none, true≢false, nat_tests}
use Rattle.simulator_recovery.proofs.Words.Links.{receiving, AreTimely, Receives, Sent, is_taken, reading_of, AreForeign, Calls, IsAmong, IsDelivered, AreLinks, IsAmongAll, Links, LinksEvent, LosesAny, OnLink, RestartsOn, WasSent, seen, Ends, receipt_at, LinkState, Role, IsIntact, intact}
use Rattle.simulator_recovery.proofs.Words.Controllers.{Behaviour, HostState, AreCallsFor, host_step, Input, Sense, SignalState, signal_behaviour, point_behaviour, PointState, detection_behaviour, Section}
use Rattle.simulator_recovery.proofs.Words.Interlockings.{Table}
use Rattle.simulator_recovery.proofs.Words.Stations.{Site, Event, NodeId, Refused, coming, AreLinksOf, names_at, connection_of, copy_of, datagrams_of, Node, Interlocking, Detector, detector_link, key_of, links, node_at, point_link, is_missing, refusal, refused_where, step_of, ClockedControllerState, WorldState, anew_events, contact_events, delivery_events, events_of, host_events, restart_events, tick_events, time_events, IsEndOfServer}
use Rattle.simulator_recovery.proofs.Words.Recovery.{takes, LawsBelow}
use Rattle.simulator_spec.specs.Nodes.{Signal, Point}
use Rattle.simulator_recovery.proofs.Lemmas.Silence.Network.{HearsBy, AreSilent, ComesBy, IsSilent, LinkHearsBy, SeesEvents, all_silent, clients_silent, host_hears, restarts_silent}

-- what a host is called for in a step
abbrev pub CallsFor : {Object : Type 0} → Behaviour Object → Type 0
CallsFor {Object} does = (now : ℕ) (input : Input) (host : HostState Object) → AreCallsFor input (host_step does now input host).calls

-- the laws of deliveries that this stands on
-- ---- the copy that is delivered

-- a datagram of a list without links is one with its link
on_a_link : (datagram : Sent) (sent : List OnLink) → IsAmong datagram (datagrams_of sent) → (one : OnLink) × IsAmongAll one sent × (one.datagram ≡ datagram)
on_a_link datagram [] among = absurd among
on_a_link datagram (first ∷ others) (inl same) = (first, inl refl, same)
on_a_link datagram (first ∷ others) (inr later) = let found = on_a_link datagram others later in (found.0, inr found.1, found.2)

not_refused : (fails : Bool) (why : Refused) (otherwise : Option Refused) → refused_where fails why otherwise ≡ None → (fails ≡ false) × (otherwise ≡ None)
not_refused true why otherwise e = absurd (cc e)
not_refused false why otherwise e = (refl, e)

pub deliverable : (site : Site) (node : NodeId) (bytes : List ℕ) (world : WorldState) → refusal site (Event.Deliver node bytes) world ≡ None → (is_none (copy_of bytes world) && intact (key_of site) bytes) ≡ false
unfolding refusal
deliverable site node bytes world none =
    let first = not_refused (is_missing node.0 site) Refused.NoSuchNode _ none
    in (not_refused (is_none (copy_of bytes world) && intact (key_of site) bytes) Refused.NeverSent None first.1).0

true_is : (b : Bool) → IsTrue b → b ≡ true
true_is true is = refl
true_is false is = absurd (cc is)

same_or_other : (one other : ℕ) → (one ≡ other) ⊎ (one ≢ other)
same_or_other one other = cases (one == other) refl where
  cases : (b : Bool) → (one == other) ≡ b → (one ≡ other) ⊎ (one ≢ other)
  cases true e = inl (grind (arith, nat_tests))
  cases false e = inr (λ same. grind (arith, nat_tests))

-- this datagram was delivered, and it was made at this time or before
abbrev pub IsDeliveredBy : ℕ → Ends → List ℕ → ℕ → Type 0
IsDeliveredBy made ends bytes connection = (datagram : Sent) × IsDelivered ends bytes connection datagram × (datagram.at ≤ made)

module _ (laws : LawsBelow) (site : Site) (are_links : AreLinks (links site) (names_at site)) (world : WorldState) (network : Links) (are : AreLinksOf site world network)
    (timely : AreTimely (links site) (names_at site) network) (link made : ℕ) (below : link < links site) where
  abbrev ends : Ends
  ends = seen link network

  -- a copy that can be delivered was sent on some link
  copy_was_sent : (bytes : List ℕ) (datagram : Sent) → copy_of bytes world ≡ Some datagram → (one : OnLink) × WasSent network bytes datagram.connection one × (one.datagram ≡ datagram)
  copy_was_sent bytes datagram found =
      let all : Ends = record (seen 0 network) { time = world.time; sent = datagrams_of world.sent }
      in let is : IsDelivered all bytes datagram.connection datagram = laws.copies_are_delivered all bytes datagram found
      in let one = on_a_link datagram world.sent is.was_sent
      in (
        one.0,
        record {
          among = subst (λ (s : List OnLink). IsAmongAll one.0 s) (sym are.sent_is) one.1;
          bytes_same = ap (λ (s : Sent). s.bytes) one.2 ∙ is.bytes_same;
          connection_same = ap (λ (s : Sent). s.connection) one.2;
          in_time = subst (λ (t : ℕ). t ≤ one.0.datagram.at + 2000000) (sym are.time_is) (subst (λ (s : Sent). world.time ≤ s.at + 2000000) (sym one.2) is.in_time);
        },
        one.2,
      )

  module _ (bytes : List ℕ) (taken : is_taken (receipt_at Role.Server bytes ends).verdict ≡ true) where
    idle : {Goal : Type 0} → (IsIntact (names_at site link).key bytes → ⊥) ⊎ AreForeign (names_at site link) Role.Server bytes → Goal
    idle why = absurd (true≢false (sym taken ∙ (laws.what_is_taken (names_at site link) ends Role.Server bytes (timely.each link below) why).1))

    of_link_or_other : (datagram : Sent) (one : OnLink) → WasSent network bytes datagram.connection one → one.datagram ≡ datagram → datagram.at ≤ made → (one.link ≡ link) ⊎ (one.link ≢ link)
        → IsDeliveredBy made ends bytes datagram.connection
    of_link_or_other datagram one was same by (inl here) = (
      one.datagram,
      subst (λ (n : ℕ). IsDelivered (seen n network) bytes datagram.connection one.datagram) here (laws.each_delivery_is_seen_own network bytes datagram.connection one was),
      subst (λ (s : Sent). s.at ≤ made) (sym same) by,
    )
    of_link_or_other datagram one was same by (inr differ) =
        idle (inr (laws.each_delivery_is_seen_others (links site) (names_at site) network are_links timely link below Role.Server bytes datagram.connection one was (λ e. differ (sym e))))

    copied : (found : Option Sent) → copy_of bytes world ≡ found → (is_none found && intact (key_of site) bytes) ≡ false → ((datagram : Sent) → copy_of bytes world ≡ Some datagram → datagram.at ≤ made)
        → IsDeliveredBy made ends bytes (connection_of found)
    copied (Some datagram) is fits by = let one = copy_was_sent bytes datagram is in of_link_or_other datagram one.0 one.1 one.2 (by datagram is) (same_or_other one.0.link link)
    copied None is fits by = idle (inl (λ whole. true≢false (sym (true_is (intact (key_of site) bytes) ((laws.intact_is_tested (key_of site) bytes).1 whole)) ∙ fits)))

  -- what a controller takes, which was made by then, its link hears
  pub hears_by : {Object : Type 0} (controller : ClockedControllerState Object) (bytes : List ℕ) → IsEndOfServer controller (network.ends link).server → (is_none (copy_of bytes world) && intact (key_of site) bytes) ≡ false
      → (takes bytes controller ≡ true → (datagram : Sent) → copy_of bytes world ≡ Some datagram → datagram.at ≤ made) → HearsBy made (Calls Role.Server (Receives bytes (connection_of (copy_of bytes world)))) ends
  hears_by controller bytes end fits by = λ taken. copied bytes taken (copy_of bytes world) refl fits (by (there taken))
    where
      there : is_taken (receipt_at Role.Server bytes ends).verdict ≡ true → takes bytes controller ≡ true
      there taken = subst (λ (l : LinkState). is_taken (receiving (reading_of controller.clock) bytes l).verdict ≡ true) end.link_is
          (subst (λ (n : ℕ). is_taken (receiving (reading_of n) bytes (network.ends link).server.link).verdict ≡ true) end.clock_is taken)

-- ---- every event

module _ (sees : SeesEvents) (laws : LawsBelow) (site : Site) (table : Table) (link made : ℕ) (network : Links) where
  abbrev pub Hears : List LinksEvent → Type 0
  Hears events = LinkHearsBy sees made link events network

  hosts : {Object : Type 0} (does : Behaviour Object) → CallsFor does → (input : Input) (connection at : ℕ) (found : Option (ClockedControllerState Object))
      → ((controller : ClockedControllerState Object) → found ≡ Some controller → ComesBy sees made link input connection at network) → Hears (host_events does input connection at found)
  hosts does fits input connection at None comes = tt
  hosts does fits input connection at (Some controller) comes =
      host_hears sees made link input connection at (step_of does input controller).calls network (fits (reading_of controller.clock) input controller.host) (comes controller refl)

  -- one event
  one_silent : (one : LinksEvent) → IsSilent one → Hears (one ∷ [])
  one_silent one is = all_silent sees made link (one ∷ []) network (is, tt)

  silent : (events : List LinksEvent) → AreSilent events → Hears events
  silent events is = all_silent sees made link events network is

  module _ (world : WorldState) where
    ticks : (at : Option Node) → Hears (tick_events site table at world)
    ticks None = tt
    ticks (Some Interlocking) = silent _ (clients_silent _)
    ticks (Some (Signal place)) = hosts signal_behaviour laws.signals.first Input.Tick 0 place (slice_get world.signals place) (λ controller is. tt)
    ticks (Some (Point place)) = hosts point_behaviour laws.points.first Input.Tick 0 (point_link site place) (slice_get world.points place) (λ controller is. tt)
    ticks (Some (Detector place)) = hosts detection_behaviour laws.detectors.first Input.Tick 0 (detector_link site place) (slice_get world.detectors place) (λ controller is. tt)

    -- what the link's controller hears of bytes that come to a node, in this connection
    abbrev pub HeardAt : (bytes : List ℕ) (connection : ℕ) → Option Node → Type 0
    HeardAt bytes connection None = Unit {0}
    HeardAt bytes connection (Some Interlocking) = Unit {0}
    HeardAt bytes connection (Some (Signal place)) = (controller : ClockedControllerState SignalState) → slice_get world.signals place ≡ Some controller → place ≡ link
        → HearsBy made (Calls Role.Server (Receives bytes connection)) (seen link network)
    HeardAt bytes connection (Some (Point place)) = (controller : ClockedControllerState PointState) → slice_get world.points place ≡ Some controller → point_link site place ≡ link
        → HearsBy made (Calls Role.Server (Receives bytes connection)) (seen link network)
    HeardAt bytes connection (Some (Detector place)) = (controller : ClockedControllerState (List Section)) → slice_get world.detectors place ≡ Some controller → detector_link site place ≡ link
        → HearsBy made (Calls Role.Server (Receives bytes connection)) (seen link network)

    deliveries : (bytes : List ℕ) (connection : ℕ) (at : Option Node) → HeardAt bytes connection at → Hears (delivery_events site table bytes connection at world)
    deliveries bytes connection None heard = tt
    deliveries bytes connection (Some Interlocking) heard = silent _ (clients_silent _)
    deliveries bytes connection (Some (Signal place)) heard = hosts signal_behaviour laws.signals.first (coming bytes) connection place (slice_get world.signals place) heard
    deliveries bytes connection (Some (Point place)) heard = hosts point_behaviour laws.points.first (coming bytes) connection (point_link site place) (slice_get world.points place) heard
    deliveries bytes connection (Some (Detector place)) heard = hosts detection_behaviour laws.detectors.first (coming bytes) connection (detector_link site place) (slice_get world.detectors place) heard

    contacts : (reporter : Option (ℕ × ℕ)) (input : ℕ → Input) → ((place : ℕ) (at : ℕ) → ComesBy sees made link (input place) 0 at network) → Hears (contact_events site reporter input world.detectors)
    contacts None input comes = tt
    contacts (Some reporter) input comes = hosts detection_behaviour laws.detectors.first (input reporter.1) 0 (detector_link site reporter.0) (slice_get world.detectors reporter.0) (λ controller is. comes reporter.1 (detector_link site reporter.0))

    anew : {Entry : Type 0} (clock first at : ℕ) (found : Option Entry) → Hears (anew_events clock first at found)
    anew clock first at None = tt
    anew clock first at (Some entry) = one_silent (RestartsOn at Role.Server clock first) tt

    restarts : (clock first : ℕ) (at : Option Node) → Hears (restart_events site clock first at)
    restarts clock first None = tt
    restarts clock first (Some Interlocking) = silent _ (restarts_silent clock (λ n. first) _)
    restarts clock first (Some (Signal place)) = anew clock first place (slice_get site.signals place)
    restarts clock first (Some (Point place)) = anew clock first (point_link site place) (slice_get site.points place)
    restarts clock first (Some (Detector place)) = anew clock first (detector_link site place) (slice_get site.detectors place)

    -- what the link's controller hears in an event
    abbrev pub HeardIn : Event → Type 0
    HeardIn (Event.Deliver node bytes) = HeardAt bytes (connection_of (copy_of bytes world)) (node_at site node.0)
    HeardIn _ = Unit {0}

    pub event_hears : (happening : Event) → HeardIn happening → Hears (events_of site table happening world)
    unfolding events_of
    event_hears (Event.Request command) heard = silent _ (clients_silent _)
    event_hears (Event.Occupy section occupancy) heard = contacts (slice_get table.reporters section.0) (λ place. Input.Sense (Sense.Section place occupancy)) (λ place at. tt)
    event_hears (Event.Tick node) heard = ticks (node_at site node.0)
    event_hears (Event.Time elapsed clocks) heard = silent (time_events elapsed clocks) (tt, tt)
    event_hears (Event.Deliver node bytes) heard = deliveries bytes (connection_of (copy_of bytes world)) (node_at site node.0) heard
    event_hears (Event.Lose bytes) heard = one_silent (LosesAny bytes) tt
    event_hears (Event.Reach point position) heard = hosts point_behaviour laws.points.first (Input.Sense (Sense.Position position)) 0 (point_link site point.0) (slice_get world.points point.0) (λ controller is. tt)
    event_hears (Event.Restart node clock first) heard = restarts clock first (node_at site node.0)
