-- How few items of a point's client wait, event by event of a station.
use Rattle.simulator_recovery.proofs.Words.Basics.{◌≡◌, ℕ, ◌∙◌, ◌<◌, ◌==◌, Bool, true, false, List, [], ◌∷◌, ◌++◌, length, map, Option, Some, None, slice_get, if◌then◌else◌, refl, sym, ap, subst}
use Rattle.simulator_recovery.proofs.Words.Links.{Each, AreTimely, Call, reading_of, Event as LinkEvent, MayRun, run, AreLinks, CallsOn, Links, LinksEvent, LosesAny, MayRunLinks, RestartsOn, events_on, happened_to, is_oldest_on, run_links, run_on, seen, sent_by, AreNames, NodeCall, calls_of, restarts_of, calls_at, Role}
use Rattle.simulator_recovery.proofs.Words.Controllers.{as_call as host_call, Behaviour, Input as HostInput, Sense, Occupancy, signal_behaviour, point_behaviour, detection_behaviour}
use Rattle.simulator_recovery.proofs.Words.Interlockings.{Table}
use Rattle.simulator_recovery.proofs.Words.Stations.{Site, Event, step_of, coming, interlocking_step, names_at, connection_of, copy_of, detector_link, links, node_at, point_link, ClockedControllerState, WorldState, node_call, anew_events, contact_events, delivery_events, events_of, host_events, interlocking_events, numbers_below, restart_events, tick_events}
use Rattle.simulator_recovery.proofs.Words.Recovery.{LawsBelow}
use Rattle.simulator_spec.specs.rasta_core.Events as link_events
use Rattle.simulator_spec.specs.object_host.Host as hosts
use Rattle.simulator_spec.specs.ixl_spec.Step as ixl
use Rattle.simulator_spec.specs.Nodes as nodes
use Rattle.simulator_recovery.proofs.Lemmas.Ground.HostCalls as host_calls
use Rattle.simulator_recovery.proofs.Lemmas.Ground.HostCalls.{datagram_calls, sense_calls, tick_calls}
use Rattle.simulator_recovery.proofs.Lemmas.Ground.EndCalls.{each_both, map_both}
use Rattle.simulator_recovery.proofs.Lemmas.Windows.PointConfirms.{Good, Guarded, IsReply, KeepsLists, LeavesServer, lists_guard, quiet_guards, replies_guard, step_guards}

-- ---- what the events of a world are to a link

module _ (link : ℕ) where
  -- calls at the clients leave its server
  client_events : (calls : List NodeCall) (network : Links) → Each LeavesServer (run_on link (calls_of Role.Client calls) network)
  client_events [] network = tt
  client_events (first ∷ others) network = each_both LeavesServer (events_on link (CallsOn first.link Role.Client first.call) network) _ (by_link (link == first.link)) (client_events others (happened_to (CallsOn first.link Role.Client first.call) network))
    where
      by_link : (b : Bool) → Each LeavesServer (if b then link_events.Calls Role.Client first.call ∷ [] else link_events.Elsewhere (length (sent_by Role.Client first.call (seen first.link network))) ∷ [])
      by_link true = (tt, tt)
      by_link false = (tt, tt)

  -- and so do calls at other controllers
  other_events : (at : ℕ) → (link == at) ≡ false → (calls : List Call) (network : Links) → Each LeavesServer (run_on link (map (λ call. CallsOn at Role.Server call) calls) network)
  other_events at differ [] network = tt
  other_events at differ (first ∷ others) network = each_both LeavesServer (events_on link (CallsOn at Role.Server first) network) _
      (subst (λ (b : Bool). Each LeavesServer (if b then link_events.Calls Role.Server first ∷ [] else link_events.Elsewhere (length (sent_by Role.Server first (seen at network))) ∷ [])) (sym differ) (tt, tt))
      (other_events at differ others (happened_to (CallsOn at Role.Server first) network))

  own_events : (at : ℕ) → (link == at) ≡ true → (calls : List Call) (network : Links) → run_on link (map (λ call. CallsOn at Role.Server call) calls) network ≡ calls_at Role.Server calls
  own_events at same [] network = refl
  own_events at same (first ∷ others) network = ap (λ (b : Bool). (if b then link_events.Calls Role.Server first ∷ [] else link_events.Elsewhere (length (sent_by Role.Server first (seen at network))) ∷ []) ++ run_on link (map (λ call. CallsOn at Role.Server call) others) (happened_to (CallsOn at Role.Server first) network)) same
      ∙ ap (λ (list : List LinkEvent). link_events.Calls Role.Server first ∷ list) (own_events at same others (happened_to (CallsOn at Role.Server first) network))

  pub restart_lists : (who : Role) (clock : ℕ) (firsts : ℕ → ℕ) (numbers : List ℕ) (network : Links) → Each KeepsLists (run_on link (restarts_of who clock firsts numbers) network)
  restart_lists who clock firsts [] network = tt
  restart_lists who clock firsts (first ∷ others) network = each_both KeepsLists (events_on link (RestartsOn first who clock (firsts first)) network) _ (by_link (link == first)) (restart_lists who clock firsts others (happened_to (RestartsOn first who clock (firsts first)) network))
    where
      by_link : (b : Bool) → Each KeepsLists (if b then link_events.Restarts who clock (firsts first) ∷ [] else [])
      by_link true = (tt, tt)
      by_link false = tt

-- ---- the calls of a controller's step

replies : (connection : ℕ) (calls : List hosts.LinkCall) → Each host_calls.IsSaid calls → Each IsReply (map (host_call connection) calls)
replies connection [] said = tt
replies connection (hosts.Sends item ∷ others) said = (tt, replies connection others said.1)
replies connection (hosts.Closes why ∷ others) said = (tt, replies connection others said.1)
replies connection (hosts.Ticks ∷ others) said = absurd said.0
replies connection (hosts.Receives bytes ∷ others) said = absurd said.0

-- the first may be any, and the others are replies
data IsStep (calls : List Call) : Type 0 where
  all_reply : Each IsReply calls → IsStep calls
  first_any : (first : Call) (others : List Call) → calls ≡ first ∷ others → Each IsReply others → IsStep calls

module _ {Object : Type 0} (does : Behaviour Object) (connection : ℕ) where
  step_shape : (input : HostInput) (c : ClockedControllerState Object) → IsStep (map (host_call connection) (step_of does input c).calls)
  step_shape HostInput.Tick c =
      let t = tick_calls does (reading_of c.clock) c.host
      in all_reply (subst (λ (cs : List hosts.LinkCall). Each IsReply (map (host_call connection) cs)) (sym t.1.1) (subst (Each IsReply) (sym (map_both (host_call connection) t.0 (hosts.Ticks ∷ []))) (each_both IsReply (map (host_call connection) t.0) _ (replies connection t.0 t.1.0) (tt, tt))))
  step_shape (HostInput.Sense contact) c = all_reply (replies connection _ (sense_calls does (reading_of c.clock) contact c.host))
  step_shape (HostInput.Datagram bytes) c =
      let d = datagram_calls does (reading_of c.clock) bytes c.host
      in first_any (host_call connection (hosts.Receives bytes.now)) (map (host_call connection) d.0) (ap (map (host_call connection)) d.1.1) (replies connection d.0 d.1.0)

-- ---- an event of a world

module _ (laws : LawsBelow) (site : Site) (table : Table) (named : AreLinks (links site) (names_at site)) (spare owed link : ℕ) (below : link < links site) where
  abbrev Guards : Links → Type 0
  Guards network = Guarded (names_at site link) spare owed (seen link network)

  abbrev IsGood : Links → Type 0
  IsGood network = Good spare owed (seen link network)

  are : AreNames (names_at site link)
  are = named.each link below

  module _ (network : Links) (timely : AreTimely (links site) (names_at site) network) (g : Guarded (names_at site link) spare owed (seen link network)) (good : Good spare owed (seen link network)) where
    by_quiet : (events : List LinksEvent) → MayRunLinks (links site) (names_at site) events network → Each LeavesServer (run_on link events network) → Guards (run_links events network)
    by_quiet events may leaves = subst (Guarded (names_at site link) spare owed) (sym (laws.each_link_sees_its_events_run link events network))
        (quiet_guards laws (names_at site link) are spare owed (run_on link events network) (seen link network) leaves (laws.each_link_sees_its_events_may_run (links site) (names_at site) events network named timely may link below) g good.answers)

    by_lists : (events : List LinksEvent) → MayRunLinks (links site) (names_at site) events network → Each KeepsLists (run_on link events network) → Guards (run_links events network)
    by_lists events may keeps = subst (Guarded (names_at site link) spare owed) (sym (laws.each_link_sees_its_events_run link events network))
        (lists_guard laws (names_at site link) are spare owed (run_on link events network) (seen link network) keeps (laws.each_link_sees_its_events_may_run (links site) (names_at site) events network named timely may link below) g good)

    by_step : (calls : List Call) → IsStep calls → (events : List LinksEvent) → run_on link events network ≡ calls_at Role.Server calls → MayRunLinks (links site) (names_at site) events network → IsGood (run_links events network) → Guards (run_links events network)
    by_step calls shape events are_calls may then_good = subst (Guarded (names_at site link) spare owed) (sym (laws.each_link_sees_its_events_run link events network))
        (subst (λ (list : List LinkEvent). Guarded (names_at site link) spare owed (run list (seen link network))) (sym are_calls) (by_shape shape))
      where
        may_calls : MayRun (names_at site link) (calls_at Role.Server calls) (seen link network)
        may_calls = subst (λ (list : List LinkEvent). MayRun (names_at site link) list (seen link network)) are_calls (laws.each_link_sees_its_events_may_run (links site) (names_at site) events network named timely may link below)

        good_calls : Good spare owed (run (calls_at Role.Server calls) (seen link network))
        good_calls = subst (λ (list : List LinkEvent). Good spare owed (run list (seen link network))) are_calls (subst (Good spare owed) (laws.each_link_sees_its_events_run link events network) then_good)

        by_shape : IsStep calls → Guarded (names_at site link) spare owed (run (calls_at Role.Server calls) (seen link network))
        by_shape (all_reply reply) = replies_guard laws (names_at site link) are spare owed calls (seen link network) reply may_calls g good_calls
        by_shape (first_any first others same reply) = subst (λ (cs : List Call). Guarded (names_at site link) spare owed (run (calls_at Role.Server cs) (seen link network))) (sym same)
            (step_guards laws (names_at site link) are spare owed first others (seen link network) reply (subst (λ (cs : List Call). MayRun (names_at site link) (calls_at Role.Server cs) (seen link network)) same may_calls) g
            (subst (λ (cs : List Call). Good spare owed (run (calls_at Role.Server cs) (seen link network))) same good_calls))

    by_host : {Object : Type 0} (does : Behaviour Object) (input : HostInput) (connection at : ℕ) (found : Option (ClockedControllerState Object)) → MayRunLinks (links site) (names_at site) (host_events does input connection at found) network
        → IsGood (run_links (host_events does input connection at found) network) → Guards (run_links (host_events does input connection at found) network)
    by_host does input connection at None may then_good = g
    by_host does input connection at (Some c) may then_good = choose (link == at) refl
      where
        calls : List Call
        calls = map (host_call connection) (step_of does input c).calls

        choose : (b : Bool) → (link == at) ≡ b → Guards (run_links (map (λ call. CallsOn at Role.Server call) calls) network)
        choose true e = by_step calls (step_shape does connection input c) (map (λ call. CallsOn at Role.Server call) calls) (own_events link at e calls network) may then_good
        choose false e = by_quiet (map (λ call. CallsOn at Role.Server call) calls) may (other_events link at e calls network)

    by_anew : {Entry : Type 0} (clock first at : ℕ) (found : Option Entry) → MayRunLinks (links site) (names_at site) (anew_events clock first at found) network → Guards (run_links (anew_events clock first at found) network)
    by_anew clock first at None may = g
    by_anew clock first at (Some entry) may = by_lists (RestartsOn at Role.Server clock first ∷ []) may (each_both KeepsLists (events_on link (RestartsOn at Role.Server clock first) network) [] (by_link (link == at)) tt)
      where
        by_link : (b : Bool) → Each KeepsLists (if b then link_events.Restarts Role.Server clock first ∷ [] else [])
        by_link true = (tt, tt)
        by_link false = tt

    abbrev Behind : List LinksEvent → Type 0
    Behind events = MayRunLinks (links site) (names_at site) events network → IsGood (run_links events network) → Guards (run_links events network)

    by_interlocking : (world : WorldState) (input : ixl.Input) (connection : ℕ) → Behind (interlocking_events site table input connection world.interlocking)
    by_interlocking world input connection may then_good = by_quiet (interlocking_events site table input connection world.interlocking) may (client_events link (map (node_call site connection) (interlocking_step site table input world.interlocking).calls) network)

    by_tick : (world : WorldState) (at : Option nodes.Node) → Behind (tick_events site table at world)
    by_tick world None may then_good = g
    by_tick world (Some nodes.Interlocking) may then_good = by_interlocking world ixl.Tick 0 may then_good
    by_tick world (Some (nodes.Signal place)) may then_good = by_host signal_behaviour HostInput.Tick 0 place (slice_get world.signals place) may then_good
    by_tick world (Some (nodes.Point place)) may then_good = by_host point_behaviour HostInput.Tick 0 (point_link site place) (slice_get world.points place) may then_good
    by_tick world (Some (nodes.Detector place)) may then_good = by_host detection_behaviour HostInput.Tick 0 (detector_link site place) (slice_get world.detectors place) may then_good

    by_delivery : (world : WorldState) (bytes : List ℕ) (connection : ℕ) (at : Option nodes.Node) → Behind (delivery_events site table bytes connection at world)
    by_delivery world bytes connection None may then_good = g
    by_delivery world bytes connection (Some nodes.Interlocking) may then_good = by_interlocking world (ixl.Datagram bytes) connection may then_good
    by_delivery world bytes connection (Some (nodes.Signal place)) may then_good = by_host signal_behaviour (coming bytes) connection place (slice_get world.signals place) may then_good
    by_delivery world bytes connection (Some (nodes.Point place)) may then_good = by_host point_behaviour (coming bytes) connection (point_link site place) (slice_get world.points place) may then_good
    by_delivery world bytes connection (Some (nodes.Detector place)) may then_good = by_host detection_behaviour (coming bytes) connection (detector_link site place) (slice_get world.detectors place) may then_good

    by_contact : (world : WorldState) (occupancy : Occupancy) (reporter : Option (ℕ × ℕ)) → Behind (contact_events site reporter (λ place. HostInput.Sense (Sense.Section place occupancy)) world.detectors)
    by_contact world occupancy None may then_good = g
    by_contact world occupancy (Some reporter) may then_good = by_host detection_behaviour (HostInput.Sense (Sense.Section reporter.1 occupancy)) 0 (detector_link site reporter.0) (slice_get world.detectors reporter.0) may then_good

    by_restart : (clock first : ℕ) (at : Option nodes.Node) → Behind (restart_events site clock first at)
    by_restart clock first None may then_good = g
    by_restart clock first (Some nodes.Interlocking) may then_good = by_lists (restarts_of Role.Client clock (λ link. first) (numbers_below (links site))) may (restart_lists link Role.Client clock (λ link. first) (numbers_below (links site)) network)
    by_restart clock first (Some (nodes.Signal place)) may then_good = by_anew clock first place (slice_get site.signals place) may
    by_restart clock first (Some (nodes.Point place)) may then_good = by_anew clock first (point_link site place) (slice_get site.points place) may
    by_restart clock first (Some (nodes.Detector place)) may then_good = by_anew clock first (detector_link site place) (slice_get site.detectors place) may

    pub by_event : (world : WorldState) (happening : Event) → Behind (events_of site table happening world)
    unfolding events_of
    by_event world (Event.Request command) may then_good = by_interlocking world (ixl.Commands command) 0 may then_good
    by_event world (Event.Occupy section occupancy) may then_good = by_contact world occupancy (slice_get table.reporters section.0) may then_good
    by_event world (Event.Tick node) may then_good = by_tick world (node_at site node.0) may then_good
    by_event world (Event.Time elapsed clocks) may then_good = by_lists (events_of site table (Event.Time elapsed clocks) world) may (tt, tt)
    by_event world (Event.Deliver node bytes) may then_good = by_delivery world bytes (connection_of (copy_of bytes world)) (node_at site node.0) may then_good
    by_event world (Event.Lose bytes) may then_good = by_quiet (LosesAny bytes ∷ []) may (each_both LeavesServer (events_on link (LosesAny bytes) network) [] (by_oldest (is_oldest_on link bytes network.sent)) tt)
      where
        by_oldest : (b : Bool) → Each LeavesServer (if b then link_events.Loses bytes ∷ [] else [])
        by_oldest true = (tt, tt)
        by_oldest false = tt
    by_event world (Event.Reach point position) may then_good = by_host point_behaviour (HostInput.Sense (Sense.Position position)) 0 (point_link site point.0) (slice_get world.points point.0) may then_good
    by_event world (Event.Restart node clock first) may then_good = by_restart clock first (node_at site node.0) may then_good
