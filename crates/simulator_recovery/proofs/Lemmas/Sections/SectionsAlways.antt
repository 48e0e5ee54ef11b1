-- What the detectors of a station have told, and what its interlocking knows of sections, after every list of events.
use Rattle.simulator_recovery.proofs.Words.Basics.{◌≡◌, inl, inr, ℕ, ◌+◌, ◌<◌, ◌≤◌, ◌∙◌, Bool, true, false, append_assoc, List, ◌++◌, length, map, Some, slice_get, refl, sym, ap, subst, arith, false≢true, none-some, same_Some, slice_get_within, contains}
use Rattle.simulator_recovery.proofs.Words.Links.{settled, AreTimely, reading_of, AreLinks, Links, begun, run_links, seen, IsSafe, Role, LinkState, is_open, is_up}
use Rattle.simulator_recovery.proofs.Words.Controllers.{is_completed, Stage as HostStage, detection_behaviour, Section}
use Rattle.simulator_recovery.proofs.Words.Interlockings.{IsTableOf, PeerState, is_outside, is_ready, Stage, KnownDetectorState, KnownPointState, KnownSignalState, Detector, Table}
use Rattle.simulator_recovery.proofs.Words.Stations.{DetectorEntry, Site, Once, IsStation, Event, IsOutsetOf, Outset, world_at, happens, AreLinksOf, names_at, starts_at_zero, detector_link, links, partners, ClockedControllerState, WorldState, events_of, HasLinks, links_in, IsReached}
use Rattle.simulator_recovery.proofs.Words.Recovery.{ClientTalks, ClientHasActedOn, name_of, HaveReported, KnowsByReports, TellsAsTheyAre, is_occupied, told_in, HasNames, SaidAll, SaidBy, SaidSome, SomeAsks, LawsBelow}
use Rattle.simulator_recovery.proofs.Lemmas.Ground.ClientItem.{partners_length}
use Rattle.simulator_recovery.proofs.Lemmas.Talk.AlwaysExpected.{Stands, stands_first, stands_on}
use Rattle.simulator_recovery.proofs.Lemmas.Ground.SectionsEvents.{CanBe, HasHeld, always_held}
use Rattle.simulator_recovery.proofs.Lemmas.Ground.AtLink.{mapped, of_third}
use Rattle.simulator_recovery.proofs.Lemmas.Talk.ClientLinks.{up_open}
use Rattle.simulator_recovery.proofs.Lemmas.Ground.ControllersOnLinks.{lists_of}
use Rattle.simulator_recovery.proofs.Lemmas.Ground.LinkCounts.{settled_open}
use Rattle.simulator_recovery.proofs.Lemmas.Ground.EndCalls.{at_place, map_length}
use Rattle.simulator_recovery.proofs.Lemmas.Ground.MatchedEnds.{spoken}
use Rattle.simulator_recovery.proofs.Lemmas.Sections.SectionsCalls.{DetectorSays, Fits, item}
use Rattle.simulator_recovery.proofs.Lemmas.Sections.SectionsController.{TellsSections, Telling, telling_first, telling_on}
use Rattle.simulator_recovery.proofs.Lemmas.Sections.SectionsInitial.{all_tells, some_tells}
use Rattle.simulator_recovery.proofs.Lemmas.Sections.SectionsNames.{says}
use Rattle.simulator_recovery.proofs.Lemmas.Sections.SectionsClient.{keeps_told}
use Rattle.simulator_recovery.proofs.Lemmas.Sections.SectionsStation.{AllKnow, knows_first, knows_on}

module _ (laws : LawsBelow) (site : Site) (table : Table) (station : IsStation site) (once : Once site) (is_table : IsTableOf site table) where
  pub record Reporting (world : WorldState) (network : Links) : Type 0 where
    pub stands : Stands laws site table station once is_table world network
    pub telling : Telling laws laws.written_telegram_is_read laws.detector_step_is_told_to_the_object laws site table station once world network
    pub knows : AllKnow site world.interlocking.ixl network

  pub reporting_first : (outset : Outset) → IsOutsetOf site outset → Reporting (world_at site table outset) (begun (names_at site) starts_at_zero)
  reporting_first outset lies = record {
    stands = stands_first laws site table station once is_table outset lies;
    telling = telling_first laws laws.written_telegram_is_read laws.detector_step_is_told_to_the_object laws site table station once outset;
    knows = knows_first site table outset;
  }

  pub reporting_on : (happening : Event) (world : WorldState) (network : Links) → CanBe site table happening world network → Reporting world network → Reporting (happens site table happening world) (run_links (events_of site table happening world) network)
  reporting_on happening world network can before = record {
    stands = stands_on laws site table station once is_table happening world network can before.stands;
    telling = telling_on laws laws.written_telegram_is_read laws.detector_step_is_told_to_the_object laws site table station once happening world network can.whole can.are before.telling;
    knows = knows_on laws laws laws.deliveries_may_come_links site table is_table happening world network can
        (record { stands = before.stands.talking.stands.clients; speaks = before.stands.talking.matching.clients; talk = before.stands.talking.talk }) before.knows;
  }

  pub reporting_held : (world : WorldState) → IsReached site table world → HasHeld laws site table station once Reporting reporting_first reporting_on world
  reporting_held world reached = always_held laws site table station once Reporting reporting_first reporting_on world reached

  -- ---- what it comes to

  module _ (world : WorldState) (network : Links) (timely : AreTimely (links site) (names_at site) network) (are : AreLinksOf site world network) (r : Reporting world network) (place : ℕ) (known : KnownDetectorState)
      (e : slice_get world.interlocking.ixl.detectors place ≡ Some known) where
    abbrev link : ℕ
    link = detector_link site place

    within : place < length site.detectors
    within = let a = slice_get_within world.interlocking.ixl.detectors place known e in let b = r.stands.whole.clients.detectors in omega (arith, a, b)

    below : link < links site
    below = let a = within in omega (arith, a)

    pub entry : (one : DetectorEntry) × (slice_get site.detectors place ≡ Some one)
    entry = at_place site.detectors place within

    abbrev pub d : DetectorSays
    d = says laws laws.written_telegram_is_read site table station once place entry.0 entry.1

    pub peer_is : known.client.peer ≡ d.peer
    peer_is = r.stands.talking.matching.clients.detectors place known e entry.0 entry.1

    talks : ClientTalks site (Detector place) known.client (network.ends link).client.given (network.ends link).client.taken
    talks = r.stands.talking.talk.detectors place known e

    controller : (c : ClockedControllerState (List Section)) × (slice_get world.detectors place ≡ Some c)
    controller = at_place world.detectors place (let a = within in let b = r.stands.whole.detectors in omega (arith, a, b))

    pub tells : (c : ClockedControllerState (List Section)) → slice_get world.detectors place ≡ Some c
        → TellsSections laws laws.written_telegram_is_read laws.detector_step_is_told_to_the_object laws site table station once place entry.0 entry.1 c.host (lists_of (network.ends link).server)
    tells c f = r.telling.of_detectors place c f entry.0 entry.1

    -- the link of the client, as it is by the clock
    client_is : (network.ends link).client.link ≡ settled (reading_of world.interlocking.clock) known.client.link
    client_is =
        let id = at_place (partners site) link (subst (λ (n : ℕ). link < n) (sym (partners_length site)) below)
        in let c = are.clients link id.0 id.1
        in c.link_is ∙ ap (settled (reading_of world.interlocking.clock)) (same_Some c.kept known.client.link (sym c.there ∙ of_third (map (λ (k : KnownSignalState). k.client.link) world.interlocking.ixl.known_signals) (map (λ (k : KnownPointState). k.client.link) world.interlocking.ixl.known_points) _
        (length site.signals) (length site.points) place known.client.link (map_length _ world.interlocking.ixl.known_signals ∙ r.stands.whole.clients.known_signals) (map_length _ world.interlocking.ixl.known_points ∙ r.stands.whole.clients.known_points)
        (mapped (λ (k : KnownDetectorState). k.client.link) world.interlocking.ixl.detectors place known e)))

    -- where it is up, it has taken a beginning of what its controller has given
    pub safe_up : is_up (settled (reading_of world.interlocking.clock) known.client.link).phase ≡ true → IsSafe (network.ends link).server (network.ends link).client
    safe_up up =
        let up_there = ap (λ (l : LinkState). is_up l.phase) client_is ∙ up
        in let some = laws.one_connection_some (names_at site link) (seen link network) Role.Client (timely.each link below) (up_open _ up_there)
        in (laws.order_is_safe (names_at site link) (seen link network) (r.stands.ordered link below) some.0 some.1 (laws.one_connection_up (names_at site link) (seen link network) (timely.each link below) up_there ∙ some.1)).1

    ready_up : (s : Stage) → is_ready s ≡ true → is_outside s ≡ false
    ready_up Stage.Completed f = refl
    ready_up Stage.AwaitsReport f = refl
    ready_up Stage.Outside f = absurd (false≢true f)
    ready_up Stage.AwaitsAnswer f = absurd (false≢true f)
    ready_up Stage.AwaitsStart f = absurd (false≢true f)
    ready_up (Stage.AwaitsStatus left) f = absurd (false≢true f)

    ready_count : (s : Stage) (count : ℕ) → is_ready s ≡ true → ClientHasActedOn known.client.peer s count → 3 + length known.client.peer.objects ≤ count
    ready_count Stage.Completed count f acted = acted
    ready_count Stage.AwaitsReport count f acted = acted
    ready_count Stage.Outside count f acted = absurd (false≢true f)
    ready_count Stage.AwaitsAnswer count f acted = absurd (false≢true f)
    ready_count Stage.AwaitsStart count f acted = absurd (false≢true f)
    ready_count (Stage.AwaitsStatus left) count f acted = absurd (false≢true f)

    pub knows_by : KnowsByReports (reading_of world.interlocking.clock) known (network.ends link).client.taken
    knows_by = record {
      last = λ up at. ap (λ occupied. contains occupied at) ((r.knows place known e).last up) ∙ keeps_told known.client.peer (network.ends link).client.taken at;
      each = λ ready up at inside. subst (λ (p : PeerState). (occupied : Bool) × (told_in p at (network.ends link).client.taken ≡ Some occupied)) (sym peer_is) (each_told ready up at (subst (λ (p : PeerState). at < length p.objects) peer_is inside));
    }
      where
        each_told : is_ready known.client.stage ≡ true → is_up (settled (reading_of world.interlocking.clock) known.client.link).phase ≡ true → (at : ℕ) → at < length d.peer.objects → (occupied : Bool) × (told_in d.peer at (network.ends link).client.taken ≡ Some occupied)
        each_told ready up at inside = some_tells d _ (network.ends link).client.taken (record { by = ever.by; whole = ever.whole; said = ever.said; begins = record { rest = safe.rest ++ ever.begins.rest; are = longer } })
            (subst (λ (p : PeerState). 3 + length p.objects ≤ length (network.ends link).client.taken) peer_is (ready_count known.client.stage (length (network.ends link).client.taken) ready (talks.acted was_open))) at inside
          where
            ever : SaidSome detection_behaviour (HasNames d.names) (SomeAsks (spoken site) (network.ends link).server.taken) (item d) d.version (network.ends link).server.given
            ever = (tells controller.0 controller.1).tells.ever

            safe : IsSafe (network.ends link).server (network.ends link).client
            safe = safe_up up

            was_open : is_open known.client.link.phase ≡ true
            was_open = (settled_open (reading_of world.interlocking.clock) known.client.link (up_open _ up)).1

            longer : ever.whole ≡ (network.ends link).client.taken ++ (safe.rest ++ ever.begins.rest)
            longer = ever.begins.are ∙ (ap (λ (list : List (List ℕ)). list ++ ever.begins.rest) safe.beginning ∙ append_assoc (network.ends link).client.taken safe.rest ever.begins.rest)

    tells_as : (c : ClockedControllerState (List Section)) → slice_get world.detectors place ≡ Some c → TellsAsTheyAre known.client.peer c.host (network.ends link).server.given
    tells_as c f = record { told = λ opened done at section there free. ap (λ (p : PeerState). told_in p at (network.ends link).server.given) peer_is ∙ fits_told opened done at section there free }
      where
        t : TellsSections laws laws.written_telegram_is_read laws.detector_step_is_told_to_the_object laws site table station once place entry.0 entry.1 c.host (lists_of (network.ends link).server)
        t = tells c f

        all_said : (s : HostStage) → is_completed s ≡ true → SaidBy detection_behaviour (HasNames d.names) (SomeAsks (spoken site) (network.ends link).server.taken) (item d) d.version s (network.ends link).server.given
            → SaidAll detection_behaviour (HasNames d.names) (item d) d.version (network.ends link).server.given
        all_said HostStage.Completed g said = said
        all_said HostStage.Outside g said = absurd (false≢true g)
        all_said HostStage.AwaitsCheck g said = absurd (false≢true g)
        all_said HostStage.AwaitsRequest g said = absurd (false≢true g)
        all_said HostStage.Refused g said = absurd (false≢true g)

        fits_told : is_open c.host.link.phase ≡ true → is_completed c.host.stage ≡ true → (at : ℕ) (section : Section) → slice_get c.host.object at ≡ Some section → section.owes ≡ false
            → told_in d.peer at (network.ends link).server.given ≡ Some (is_occupied section.occupancy)
        fits_told opened done at section there free = choose (t.reports.fits opened at section there free)
            (all_tells d (network.ends link).server.given (all_said c.host.stage done (t.tells.said opened)) at (let a = slice_get_within c.host.object at section there in let long = names_long in omega (arith, a, long)))
          where
            names_long : length c.host.object ≡ length d.names
            names_long = sym (map_length name_of c.host.object) ∙ ap length t.tells.kept_so.object

            choose : Fits section.occupancy (told_in d.peer at (network.ends link).server.given) → (occupied : Bool) × (told_in d.peer at (network.ends link).server.given ≡ Some occupied) → told_in d.peer at (network.ends link).server.given ≡ Some (is_occupied section.occupancy)
            choose (inr is) some = is
            choose (inl none) some = absurd (none-some some.0 (sym none ∙ some.1))

  pub timely_of : (world : WorldState) (has : HasLinks site world) → AreTimely (links site) (names_at site) (links_in has)
  timely_of world has = laws.links_keep_time_run (links site) (names_at site) has.events (begun (names_at site) starts_at_zero) named (laws.links_keep_time_starts (links site) (names_at site) starts_at_zero named) has.may
    where
      named : AreLinks (links site) (names_at site)
      named = laws.layouts_name_their_links site station once

  pub have_reported : (world : WorldState) → IsReached site table world → HaveReported site world
  have_reported world reached = record {
    has = held.has;
    reports = record {
      clients = λ place known e. knows_by world (links_in held.has) (timely_of world held.has) held.has.are held.holds place known e;
      detectors = λ place known c e f. tells_as world (links_in held.has) (timely_of world held.has) held.has.are held.holds place known e c f;
    };
  }
    where
      held : HasHeld laws site table station once Reporting reporting_first reporting_on world
      held = reporting_held world reached
