-- How few items of a point's controller wait, event by event of a station.
use Rattle.simulator_recovery.proofs.Words.Basics.{ℕ, ◌<◌, ◌==◌, Bool, true, false, List, [], ◌∷◌, length, map, Option, Some, None, slice_get, if◌then◌else◌, sym, subst}
use Rattle.simulator_recovery.proofs.Words.Links.{Each, AreTimely, Call, Event as LinkEvent, MayRun, run, AreLinks, CallsOn, Links, LinksEvent, LosesAny, MayRunLinks, RestartsOn, events_on, happened_to, is_oldest_on, run_links, run_on, seen, sent_by, AreNames, restarts_of, Role}
use Rattle.simulator_recovery.proofs.Words.Controllers.{as_call as host_call, Behaviour, Input as HostInput, Sense, Occupancy, signal_behaviour, point_behaviour, detection_behaviour}
use Rattle.simulator_recovery.proofs.Words.Interlockings.{Table}
use Rattle.simulator_recovery.proofs.Words.Stations.{Site, Event, step_of, coming, names_at, connection_of, copy_of, detector_link, links, node_at, point_link, ClockedControllerState, WorldState, anew_events, contact_events, delivery_events, events_of, host_events, interlocking_events, numbers_below, restart_events, tick_events}
use Rattle.simulator_recovery.proofs.Words.Recovery.{LawsBelow}
use Rattle.simulator_spec.specs.rasta_core.Events as link_events
use Rattle.simulator_spec.specs.ixl_spec.Step as ixl
use Rattle.simulator_spec.specs.Nodes as nodes
use Rattle.simulator_recovery.proofs.Lemmas.Ground.EndCalls.{each_both}
use Rattle.simulator_recovery.proofs.Lemmas.Windows.PointConfirms.{KeepsLists}
use Rattle.simulator_recovery.proofs.Lemmas.Windows.PointEvents.{restart_lists}
use Rattle.simulator_recovery.proofs.Lemmas.Windows.RoomConfirms.{Awaits, ServerGuarded, SparesClient, any_guards, kept_guards, own_guards, spared_guards}
use Rattle.simulator_recovery.proofs.Lemmas.Windows.RoomSteps.{StepsOn, comes_first, step_on, takes_none}

-- calls at the controllers leave a link's client
server_events : (link at : ℕ) (calls : List Call) (network : Links) → Each SparesClient (run_on link (map (λ call. CallsOn at Role.Server call) calls) network)
server_events link at [] network = tt
server_events link at (first ∷ others) network =
    each_both SparesClient (events_on link (CallsOn at Role.Server first) network) _ (by_link (link == at)) (server_events link at others (happened_to (CallsOn at Role.Server first) network))
  where
    by_link : (b : Bool) → Each SparesClient (if b then link_events.Calls Role.Server first ∷ [] else link_events.Elsewhere (length (sent_by Role.Server first (seen at network))) ∷ [])
    by_link true = (tt, tt)
    by_link false = (tt, tt)

module _ (laws : LawsBelow) (site : Site) (table : Table) (named : AreLinks (links site) (names_at site)) (spare owed link : ℕ) (below : link < links site) where
  abbrev Guards : Links → Type 0
  Guards network = ServerGuarded (names_at site link) spare owed (seen link network)

  abbrev IsGood : Links → Type 0
  IsGood network = Awaits spare owed (seen link network)

  are : AreNames (names_at site link)
  are = named.each link below

  module _ (network : Links) (timely : AreTimely (links site) (names_at site) network) (g : ServerGuarded (names_at site link) spare owed (seen link network))
      (good : Awaits spare owed (seen link network)) where
    may_at : (events : List LinksEvent) → MayRunLinks (links site) (names_at site) events network → MayRun (names_at site link) (run_on link events network) (seen link network)
    may_at events may = laws.each_link_sees_its_events_may_run (links site) (names_at site) events network named timely may link below

    -- the ends after events, as the link sees them
    seen_so : (events : List LinksEvent) → ServerGuarded (names_at site link) spare owed (run (run_on link events network) (seen link network)) → Guards (run_links events network)
    seen_so events guards = subst (ServerGuarded (names_at site link) spare owed) (sym (laws.each_link_sees_its_events_run link events network)) guards

    by_spared : (events : List LinksEvent) → MayRunLinks (links site) (names_at site) events network → Each SparesClient (run_on link events network) → Guards (run_links events network)
    by_spared events may spares =
        seen_so events (spared_guards laws (names_at site link) are spare owed (run_on link events network) (seen link network) spares (may_at events may) g good.answers)

    by_lists : (events : List LinksEvent) → MayRunLinks (links site) (names_at site) events network → Each KeepsLists (run_on link events network) → Guards (run_links events network)
    by_lists events may keeps = seen_so events (kept_guards laws (names_at site link) are spare owed (run_on link events network) (seen link network) keeps (may_at events may) g good)

    abbrev Behind : List LinksEvent → Type 0
    Behind events = MayRunLinks (links site) (names_at site) events network → IsGood (run_links events network) → Guards (run_links events network)

    -- the interlocking makes a step
    by_step : (events : List LinksEvent) → StepsOn (run_on link events network) → Behind events
    by_step events steps may then_good = seen_so events (by_shape steps)
      where
        good_run : Awaits spare owed (run (run_on link events network) (seen link network))
        good_run = subst (Awaits spare owed) (laws.each_link_sees_its_events_run link events network) then_good

        by_shape : StepsOn (run_on link events network) → ServerGuarded (names_at site link) spare owed (run (run_on link events network) (seen link network))
        by_shape (takes_none own) = own_guards laws (names_at site link) are spare owed (run_on link events network) (seen link network) own (may_at events may) g good_run
        by_shape (comes_first first others same said) = subst (λ (list : List LinkEvent). ServerGuarded (names_at site link) spare owed (run list (seen link network))) (sym same)
            (any_guards laws (names_at site link) are spare owed first others (seen link network) said
            (subst (λ (list : List LinkEvent). MayRun (names_at site link) list (seen link network)) same (may_at events may)) g
            (subst (λ (list : List LinkEvent). Awaits spare owed (run list (seen link network))) same good_run))

    by_interlocking : (world : WorldState) (input : ixl.Input) (connection : ℕ) → Behind (interlocking_events site table input connection world.interlocking)
    by_interlocking world input connection may then_good =
        by_step (interlocking_events site table input connection world.interlocking) (step_on site table connection link world.interlocking network input) may then_good

    by_host : {Object : Type 0} (does : Behaviour Object) (input : HostInput) (connection at : ℕ) (found : Option (ClockedControllerState Object))
        → Behind (host_events does input connection at found)
    by_host does input connection at None may then_good = g
    by_host does input connection at (Some c) may then_good =
        by_spared (host_events does input connection at (Some c)) may (server_events link at (map (host_call connection) (step_of does input c).calls) network)

    by_anew : {Entry : Type 0} (clock first at : ℕ) (found : Option Entry) → MayRunLinks (links site) (names_at site) (anew_events clock first at found) network
        → Guards (run_links (anew_events clock first at found) network)
    by_anew clock first at None may = g
    by_anew clock first at (Some entry) may =
        by_lists (RestartsOn at Role.Server clock first ∷ []) may (each_both KeepsLists (events_on link (RestartsOn at Role.Server clock first) network) [] (by_link (link == at)) tt)
      where
        by_link : (b : Bool) → Each KeepsLists (if b then link_events.Restarts Role.Server clock first ∷ [] else [])
        by_link true = (tt, tt)
        by_link false = tt

    by_tick : (world : WorldState) (at : Option nodes.Node) → Behind (tick_events site table at world)
    by_tick world None may then_good = g
    by_tick world (Some nodes.Interlocking) may then_good = by_interlocking world ixl.Tick 0 may then_good
    by_tick world (Some (nodes.Signal place)) may then_good = by_host signal_behaviour HostInput.Tick 0 place (slice_get world.signals place) may then_good
    by_tick world (Some (nodes.Point place)) may then_good = by_host point_behaviour HostInput.Tick 0 (point_link site place) (slice_get world.points place) may then_good
    by_tick world (Some (nodes.Detector place)) may then_good = by_host detection_behaviour HostInput.Tick 0 (detector_link site place) (slice_get world.detectors place) may then_good

    by_delivery : (world : WorldState) (bytes : List ℕ) (connection : ℕ) (at : Option nodes.Node) → Behind (delivery_events site table bytes connection at world)
    by_delivery world bytes connection None may then_good = g
    by_delivery world bytes connection (Some nodes.Interlocking) may then_good = by_interlocking world (ixl.Datagram bytes) connection may then_good
    by_delivery world bytes connection (Some (nodes.Signal place)) may then_good = by_host signal_behaviour (coming bytes) connection place (slice_get world.signals place) may then_good
    by_delivery world bytes connection (Some (nodes.Point place)) may then_good = by_host point_behaviour (coming bytes) connection (point_link site place) (slice_get world.points place) may then_good
    by_delivery world bytes connection (Some (nodes.Detector place)) may then_good =
        by_host detection_behaviour (coming bytes) connection (detector_link site place) (slice_get world.detectors place) may then_good

    by_contact : (world : WorldState) (occupancy : Occupancy) (reporter : Option (ℕ × ℕ))
        → Behind (contact_events site reporter (λ place. HostInput.Sense (Sense.Section place occupancy)) world.detectors)
    by_contact world occupancy None may then_good = g
    by_contact world occupancy (Some reporter) may then_good =
        by_host detection_behaviour (HostInput.Sense (Sense.Section reporter.1 occupancy)) 0 (detector_link site reporter.0) (slice_get world.detectors reporter.0) may then_good

    by_restart : (clock first : ℕ) (at : Option nodes.Node) → Behind (restart_events site clock first at)
    by_restart clock first None may then_good = g
    by_restart clock first (Some nodes.Interlocking) may then_good =
        by_lists (restarts_of Role.Client clock (λ link. first) (numbers_below (links site))) may (restart_lists link Role.Client clock (λ link. first) (numbers_below (links site)) network)
    by_restart clock first (Some (nodes.Signal place)) may then_good = by_anew clock first place (slice_get site.signals place) may
    by_restart clock first (Some (nodes.Point place)) may then_good = by_anew clock first (point_link site place) (slice_get site.points place) may
    by_restart clock first (Some (nodes.Detector place)) may then_good = by_anew clock first (detector_link site place) (slice_get site.detectors place) may

    pub by_event : (world : WorldState) (happening : Event) → Behind (events_of site table happening world)
    unfolding events_of
    by_event world (Event.Request command) may then_good = by_interlocking world (ixl.Commands command) 0 may then_good
    by_event world (Event.Occupy section occupancy) may then_good = by_contact world occupancy (slice_get table.reporters section.0) may then_good
    by_event world (Event.Tick node) may then_good = by_tick world (node_at site node.0) may then_good
    by_event world (Event.Time elapsed clocks) may then_good = by_lists (events_of site table (Event.Time elapsed clocks) world) may (tt, tt)
    by_event world (Event.Deliver node bytes) may then_good = by_delivery world bytes (connection_of (copy_of bytes world)) (node_at site node.0) may then_good
    by_event world (Event.Lose bytes) may then_good =
        by_spared (LosesAny bytes ∷ []) may (each_both SparesClient (events_on link (LosesAny bytes) network) [] (by_oldest (is_oldest_on link bytes network.sent)) tt)
      where
        by_oldest : (b : Bool) → Each SparesClient (if b then link_events.Loses bytes ∷ [] else [])
        by_oldest true = (tt, tt)
        by_oldest false = tt
    by_event world (Event.Reach point position) may then_good =
        by_host point_behaviour (HostInput.Sense (Sense.Position position)) 0 (point_link site point.0) (slice_get world.points point.0) may then_good
    by_event world (Event.Restart node clock first) may then_good = by_restart clock first (node_at site node.0) may then_good
