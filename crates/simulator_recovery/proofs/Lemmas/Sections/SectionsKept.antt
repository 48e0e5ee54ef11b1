-- What is kept of one detector, with what its end has given, by its steps is kept by each event but those that bring it another input.
use Rattle.simulator_recovery.proofs.Words.Basics.{◌≡◌, ◌≢◌, ℕ, ◌∙◌, ◌<◌, List, length, map, Option, Some, None, if◌then◌else◌, slice_get, slice_set, ◌⊎◌, inl, inr, refl, sym, ap, subst, arith, drop, same_Some, slice_get_within}
use Rattle.simulator_recovery.proofs.Words.Links.{settled, end_later, reading_of, Links, RestartsOn, happened_to, run_links, seen, Ends, Role}
use Rattle.simulator_recovery.proofs.Words.Controllers.{as_call, called_all, Occupancy, Position, HostState, Input as HostInput, Sense, signal_behaviour, point_behaviour, detection_behaviour, Section}
use Rattle.simulator_recovery.proofs.Words.Interlockings.{Table}
use Rattle.simulator_recovery.proofs.Words.Stations.{DetectorEntry, Site, Event, controller_after, controller_anew, has_entered, step_of, Beginning, new_detector, coming, delivered_to, detector_anew, detector_stepped, happens, interlocking_stepped, made_anew, passed, point_anew, point_stepped, sensed_by, signal_anew, signal_stepped, stepped_at, ticked_at, interlocking_step, AreLinksOf, ServerEnd, end_of_server, connection_of, copy_of, detector_link, links, node_at, partners, point_link, ClockedControllerState, WorldState, node_call, anew_events, contact_events, delivery_events, detector_events, events_of, host_events, interlocking_events, numbers_below, point_events, restart_events, signal_events, tick_events, time_events, IsWhole}
use Rattle.simulator_recovery.proofs.Words.Recovery.{LawsBelow}
use Rattle.simulator_spec.specs.ixl_spec.Step as ixl
use Rattle.simulator_spec.specs.Nodes as nodes
use Rattle.simulator_recovery.proofs.Lemmas.Ground.ClientItem.{partners_length}
use Rattle.simulator_recovery.proofs.Lemmas.Ground.AtLink.{mapped, of_third}
use Rattle.simulator_recovery.proofs.Lemmas.Ground.ControllersOnLinks.{Lists, all_anew_keeps, all_called, anew_keeps, elsewhere, lists_at, lists_of, set_there}
use Rattle.simulator_recovery.proofs.Lemmas.Ground.IxlClients.{changed_at}
use Rattle.simulator_recovery.proofs.Lemmas.Ground.EndCalls.{at_place, map_length}
use Rattle.simulator_recovery.proofs.Lemmas.Ground.StationKeeps.{later_at}

-- the last connection that a detector has entered after a step
abbrev pub connection_after : HostInput → ℕ → ClockedControllerState (List Section) → Option ℕ
connection_after input connection c = if has_entered c (step_of detection_behaviour input c) then Some connection else c.connection

-- What a step keeps of a detector, of the last connection that it entered, and of what its end has given, where its input is such a one.
abbrev pub StepKept : (HostInput → Type 0) → (Option ℕ → HostState (List Section) → Lists → Type 0) → Type 0
StepKept Allowed Q = (input : HostInput) (connection : ℕ) (c : ClockedControllerState (List Section)) (ends : Ends) → Allowed input → ends.server.link ≡ settled (reading_of c.clock) c.host.link → ends.server.clock ≡ c.clock
    → Q c.connection c.host (lists_of ends.server)
    → Q (connection_after input connection c) (step_of detection_behaviour input c).host (lists_of (called_all connection (step_of detection_behaviour input c).calls ends).server)

-- the inputs of every detector, whatever happens to its sections
pub record AllowsAll (Allowed : HostInput → Type 0) : Type 0 where
  pub ticks : Allowed HostInput.Tick
  pub comes : (bytes : List ℕ) → Allowed (coming bytes)

-- an event brings this detector no other input, and doesn't make it anew
abbrev pub Brings : Site → Table → ℕ → (HostInput → Type 0) → Event → Type 0
Brings site table place Allowed (Event.Occupy section occupancy) = (reporter : ℕ × ℕ) → slice_get table.reporters section.0 ≡ Some reporter → place ≡ reporter.0 → Allowed (HostInput.Sense (Sense.Section reporter.1 occupancy))
Brings site table place Allowed (Event.Restart node clock first) = node_at site node.0 ≢ Some (nodes.Detector place)
Brings site table place Allowed _ = Unit {0}

module _ (laws : LawsBelow) (site : Site) (table : Table) (place : ℕ) (Allowed : HostInput → Type 0) (Q : Option ℕ → HostState (List Section) → Lists → Type 0) (keeps : StepKept Allowed Q) (allows : AllowsAll Allowed) where
  abbrev link : ℕ
  link = detector_link site place

  abbrev pub IsSo : List (ClockedControllerState (List Section)) → Links → Type 0
  IsSo detectors network = (c : ClockedControllerState (List Section)) → slice_get detectors place ≡ Some c → Q c.connection c.host (lists_at network link)

  abbrev pub At : WorldState → Links → Type 0
  At world network = IsSo world.detectors network

  same_lists : (detectors : List (ClockedControllerState (List Section))) (old new : Links) → lists_at new link ≡ lists_at old link → IsSo detectors old → IsSo detectors new
  same_lists detectors old new same is c e = subst (Q c.connection c.host) (sym same) (is c e)

  module _ (world : WorldState) (network : Links) (whole : IsWhole site world) (are : AreLinksOf site world network) (is : At world network) where
    -- the end of the detector
    record IsEnd (c : ClockedControllerState (List Section)) : Type 0 where
      link_is : (network.ends link).server.link ≡ settled (reading_of c.clock) c.host.link
      clock_is : (network.ends link).server.clock ≡ c.clock

    end_there : (c : ClockedControllerState (List Section)) → slice_get world.detectors place ≡ Some c → IsEnd c
    end_there c e =
        let inside = slice_get_within world.detectors place c e
        in let many = whole.detectors
        in let id = at_place (partners site) link (subst (λ (n : ℕ). link < n) (sym (partners_length site)) (omega (arith, inside, many)))
        in let s = are.servers link id.0 id.1
        in let kept : s.kept ≡ end_of_server c = same_Some s.kept (end_of_server c) (sym s.there ∙ of_third (map end_of_server world.signals) (map end_of_server world.points) _ (length site.signals) (length site.points) place (end_of_server c)
        (map_length _ world.signals ∙ whole.signals) (map_length _ world.points ∙ whole.points) (mapped end_of_server world.detectors place c e))
        in record { link_is = s.link_is ∙ ap (λ (k : ServerEnd). settled (reading_of k.clock) k.link) kept; clock_is = s.clock_is ∙ ap (λ (k : ServerEnd). k.clock) kept }

    signal_so : (input : HostInput) (connection at : ℕ) → At (signal_stepped site input connection at world) (run_links (signal_events input connection at world) network)
    unfolding signal_stepped
    signal_so input connection at = same_lists world.detectors network (run_links (signal_events input connection at world) network)
        (elsewhere laws signal_behaviour input connection at (slice_get world.signals at) network link (λ c f same. let a = slice_get_within world.signals at c f in let b = whole.signals in omega (arith, a, b, same))) is

    point_so : (input : HostInput) (connection at : ℕ) → At (point_stepped site input connection at world) (run_links (point_events site input connection at world) network)
    unfolding point_stepped
    point_so input connection at = same_lists world.detectors network (run_links (point_events site input connection at world) network)
        (elsewhere laws point_behaviour input connection (point_link site at) (slice_get world.points at) network link (λ c f same. let a = slice_get_within world.points at c f in let b = whole.points in omega (arith, a, b, same))) is

    detector_so : (input : HostInput) (connection at : ℕ) → (place ≡ at → Allowed input) → At (detector_stepped site input connection at world) (run_links (detector_events site input connection at world) network)
    unfolding detector_stepped stepped_at controller_after
    detector_so input connection at allowed = by_found (slice_get world.detectors at) refl
      where
        by_found : (found : Option (ClockedControllerState (List Section))) → slice_get world.detectors at ≡ found
            → IsSo (stepped_at detection_behaviour input connection world.time (detector_link site at) at found (record { servers = world.detectors; sent = world.sent })).servers
            (run_links (host_events detection_behaviour input connection (detector_link site at) found) network)
        by_found None e = is
        by_found (Some old) e = λ c f. choose c (set_there world.detectors at (controller_after (step_of detection_behaviour input old) connection (length world.sent) old) place c f)
          where
            after : Links
            after = run_links (host_events detection_behaviour input connection (detector_link site at) (Some old)) network

            choose : (c : ClockedControllerState (List Section)) → ((place ≡ at) × (c ≡ controller_after (step_of detection_behaviour input old) connection (length world.sent) old)) ⊎ ((place ≢ at) × (slice_get world.detectors place ≡ Some c)) → Q c.connection c.host (lists_at after link)
            choose c (inr (apart, f)) = subst (Q c.connection c.host) (sym (elsewhere laws detection_behaviour input connection (detector_link site at) (Some old) network link (λ x g same. apart (omega (arith, same))))) (is c f)
            choose c (inl (same, f)) = subst (λ (x : ClockedControllerState (List Section)). Q x.connection x.host (lists_at after link)) (sym f)
                (subst (λ (n : ℕ). Q (connection_after input connection old) (step_of detection_behaviour input old).host (lists_at (run_links (host_events detection_behaviour input connection (detector_link site n) (Some old)) network) link)) same
                (subst (λ (two : Ends). Q (connection_after input connection old) (step_of detection_behaviour input old).host (lists_of two.server))
                (sym (laws.a_node_of_one_link_makes_a_step_own Role.Server link (map (as_call connection) (step_of detection_behaviour input old).calls) network ∙ sym (all_called connection (step_of detection_behaviour input old).calls (seen link network))))
                (let there = ap (slice_get world.detectors) same ∙ e in let end = end_there old there in keeps input connection old (seen link network) (allowed same) end.link_is end.clock_is (is old there))))

    interlocking_so : (input : ixl.Input) (connection : ℕ) → At (interlocking_stepped site table input world) (run_links (interlocking_events site table input connection world.interlocking) network)
    unfolding interlocking_stepped
    interlocking_so input connection = same_lists world.detectors network (run_links (interlocking_events site table input connection world.interlocking) network) (ap lists_of (laws.a_node_makes_a_step (map (node_call site connection) (interlocking_step site table input world.interlocking).calls) network link)) is

    ticked_so : (node : Option nodes.Node) → At (ticked_at site table node world) (run_links (tick_events site table node world) network)
    ticked_so None = is
    ticked_so (Some nodes.Interlocking) = interlocking_so ixl.Tick 0
    ticked_so (Some (nodes.Signal at)) = signal_so HostInput.Tick 0 at
    ticked_so (Some (nodes.Point at)) = point_so HostInput.Tick 0 at
    ticked_so (Some (nodes.Detector at)) = detector_so HostInput.Tick 0 at (λ same. allows.ticks)

    delivered_so : (bytes : List ℕ) (connection : ℕ) (node : Option nodes.Node) → At (delivered_to site table bytes connection node world) (run_links (delivery_events site table bytes connection node world) network)
    delivered_so bytes connection None = is
    delivered_so bytes connection (Some nodes.Interlocking) = interlocking_so (ixl.Datagram bytes) connection
    delivered_so bytes connection (Some (nodes.Signal at)) = signal_so (coming bytes) connection at
    delivered_so bytes connection (Some (nodes.Point at)) = point_so (coming bytes) connection at
    delivered_so bytes connection (Some (nodes.Detector at)) = detector_so (coming bytes) connection at (λ same. allows.comes bytes)

    sensed_so : (occupancy : Occupancy) (occupied : List Occupancy) (reporter : Option (ℕ × ℕ)) → ((r : ℕ × ℕ) → reporter ≡ Some r → place ≡ r.0 → Allowed (HostInput.Sense (Sense.Section r.1 occupancy)))
        → At (sensed_by site occupancy reporter (record world { occupancies = occupied })) (run_links (contact_events site reporter (λ at. HostInput.Sense (Sense.Section at occupancy)) world.detectors) network)
    unfolding detector_stepped
    sensed_so occupancy occupied None allowed = is
    sensed_so occupancy occupied (Some reporter) allowed = detector_so (HostInput.Sense (Sense.Section reporter.1 occupancy)) 0 reporter.0 (allowed reporter refl)

    reach_so : (position : Position) (positions : List Position) (at : ℕ) → At (point_stepped site (HostInput.Sense (Sense.Position position)) 0 at (record world { positions = positions })) (run_links (point_events site (HostInput.Sense (Sense.Position position)) 0 at world) network)
    unfolding point_stepped
    reach_so position positions at = point_so (HostInput.Sense (Sense.Position position)) 0 at

    -- a controller that is made anew, another than this
    anew_so : {Entry : Type 0} (clock first at : ℕ) (found : Option Entry) → IsSo world.detectors (run_links (anew_events clock first at found) network)
    anew_so clock first at None = is
    anew_so clock first at (Some entry) = same_lists world.detectors network (happened_to (RestartsOn at Role.Server clock first) network) (anew_keeps at Role.Server clock first network link) is

    signal_anew_so : (begins : Beginning) (at : ℕ) (found : Option _) → At (signal_anew site begins at found world) (run_links (anew_events begins.clock begins.first at found) network)
    signal_anew_so begins at None = is
    signal_anew_so begins at (Some entry) = anew_so begins.clock begins.first at (Some entry)

    point_anew_so : (begins : Beginning) (at : ℕ) (found : Option _) → At (point_anew site begins at found world) (run_links (anew_events begins.clock begins.first (point_link site at) found) network)
    point_anew_so begins at None = is
    point_anew_so begins at (Some entry) = anew_so begins.clock begins.first (point_link site at) (Some entry)

    detector_anew_so : (begins : Beginning) (at : ℕ) (found : Option DetectorEntry) → place ≢ at → At (detector_anew site begins at found world) (run_links (anew_events begins.clock begins.first (detector_link site at) found) network)
    detector_anew_so begins at None apart = is
    detector_anew_so begins at (Some entry) apart = λ c f. choose c (changed_at (controller_anew (new_detector site begins world.occupancies entry) begins.clock (length world.sent)) at world.detectors place c f)
      where
        choose : (c : ClockedControllerState (List Section)) → ((place ≡ at) × (x : ClockedControllerState (List Section)) × (slice_get world.detectors at ≡ Some x) × (c ≡ controller_anew (new_detector site begins world.occupancies entry) begins.clock (length world.sent) x)) ⊎ (slice_get world.detectors place ≡ Some c)
            → Q c.connection c.host (lists_at (run_links (anew_events begins.clock begins.first (detector_link site at) (Some entry)) network) link)
        choose c (inl (same, x, f, g)) = absurd (apart same)
        choose c (inr f) = anew_so begins.clock begins.first (detector_link site at) (Some entry) c f

    restart_so : (begins : Beginning) (node : Option nodes.Node) → node ≢ Some (nodes.Detector place) → At (made_anew site table begins node world) (run_links (restart_events site begins.clock begins.first node) network)
    restart_so begins None other = is
    restart_so begins (Some nodes.Interlocking) other = same_lists world.detectors network (run_links (restart_events site begins.clock begins.first (Some nodes.Interlocking)) network) (all_anew_keeps Role.Client begins.clock (λ one. begins.first) (numbers_below (links site)) network link) is
    restart_so begins (Some (nodes.Signal at)) other = signal_anew_so begins at (slice_get site.signals at)
    restart_so begins (Some (nodes.Point at)) other = point_anew_so begins at (slice_get site.points at)
    restart_so begins (Some (nodes.Detector at)) other = detector_anew_so begins at (slice_get site.detectors at) (λ same. other (ap (λ (n : ℕ). Some (nodes.Detector n)) (sym same)))

    time_so : (elapsed : ℕ) (clocks : List ℕ) → At (passed elapsed clocks world) (run_links (time_events elapsed clocks) network)
    unfolding passed end_later
    time_so elapsed clocks c e = let found = later_at (length world.sent) (drop (length world.points) (drop (length world.signals) (drop 1 clocks))) world.detectors place c e in
        subst (λ (o : Option ℕ). Q o c.host (lists_at network link)) (sym found.3) (subst (λ (h : HostState (List Section)). Q found.0.connection h (lists_at network link)) (sym found.2) (is found.0 found.1))

    pub event_so : (happening : Event) → Brings site table place Allowed happening → At (happens site table happening world) (run_links (events_of site table happening world) network)
    unfolding happens events_of
    event_so (Event.Request command) brings = interlocking_so (ixl.Commands command) 0
    event_so (Event.Occupy section occupancy) brings = sensed_so occupancy (slice_set world.occupancies section.0 occupancy) (slice_get table.reporters section.0) brings
    event_so (Event.Tick node) brings = ticked_so (node_at site node.0)
    event_so (Event.Time elapsed clocks) brings = time_so elapsed clocks
    event_so (Event.Deliver node bytes) brings = delivered_so bytes (connection_of (copy_of bytes world)) (node_at site node.0)
    event_so (Event.Lose bytes) brings = is
    event_so (Event.Reach point position) brings = reach_so position (slice_set world.positions point.0 position) point.0
    event_so (Event.Restart node clock first) brings = restart_so (record { clock = clock; first = first }) (node_at site node.0) brings
