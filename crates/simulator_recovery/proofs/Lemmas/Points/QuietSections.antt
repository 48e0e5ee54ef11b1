-- What is known of a section stays as it is, event by event, while nothing is told of it: after an event, too, in the midst of a round.
use Rattle.simulator_recovery.proofs.Words.Basics.{◌≡◌, inl, inr, ℕ, ◌<◌, ◌≤◌, ◌==◌, ◌∙◌, Bool, true, false, if◌then◌else◌, List, [], ◌∷◌, ◌++◌, append_assoc, length, Option, Some, None, slice_get, refl, sym, ap, subst, arith, contains, length-append, none-some, same_Some, slice_get_within}
use Rattle.simulator_recovery.proofs.Words.Links.{settled, reading_of, AreLinks, Links, run_links, IsSafe, LinkState, is_up}
use Rattle.simulator_recovery.proofs.Words.Controllers.{Occupancy, Section}
use Rattle.simulator_recovery.proofs.Words.Interlockings.{IsReportedIn, IsTableOf, ClientState, PeerState, told_by_all, Indication, KnownDetectorState, KnownPointState, KnownSignalState, is_told_occupied, Table}
use Rattle.simulator_recovery.proofs.Words.Stations.{Site, Once, IsStation, Event, happens, names_at, detector_link, links, refusal, ClockedControllerState, WorldState, events_of}
use Rattle.simulator_recovery.proofs.Words.Recovery.{IsClientUp, KnowsByReports, LeavesSection, is_occupied, is_told, told_behind, told_in, LawsBelow}
use Rattle.simulator_recovery.proofs.Lemmas.Ground.SectionsEvents.{CanBe}
use Rattle.simulator_recovery.proofs.Lemmas.Ground.AtLink.{mapped, of_third}
use Rattle.simulator_recovery.proofs.Lemmas.Talk.ClientLinks.{up_open}
use Rattle.simulator_recovery.proofs.Lemmas.Ground.LinkCounts.{settled_open}
use Rattle.simulator_recovery.proofs.Lemmas.Ground.EndCalls.{at_place, map_length}
use Rattle.simulator_recovery.proofs.Lemmas.Points.QuietTaken.{HasTaken, taken_on}
use Rattle.simulator_recovery.proofs.Lemmas.Sections.SectionsAlways.{knows_by, safe_up}
use Rattle.simulator_recovery.proofs.Lemmas.Sections.SectionsCalls.{DetectorSays, Fits}
use Rattle.simulator_recovery.proofs.Lemmas.Sections.SectionsNames.{says}
use Rattle.simulator_recovery.proofs.Lemmas.Sections.SectionsOver.{Over, over_on, report_there, taken_fits}
use Rattle.simulator_recovery.proofs.Lemmas.Sections.SectionsClient.{in_both}
use Rattle.simulator_recovery.proofs.Lemmas.Talk.StationTalk.{Talking, took}

-- once a section was told, it stays told, as this or that
behind_some : (place : ℕ) (before : Bool) (list : List Indication) → (behind : Bool) × (told_behind place (Some before) list ≡ Some behind)
behind_some place before [] = (before, refl)
behind_some place before (first ∷ others) = choose (place == first.place) (behind_some place (is_told_occupied first.state) others) (behind_some place before others)
  where
    choose : (b : Bool) → (behind : Bool) × (told_behind place (Some (is_told_occupied first.state)) others ≡ Some behind) → (behind : Bool) × (told_behind place (Some before) others ≡ Some behind)
        → (behind : Bool) × (told_behind place (if b then Some (is_told_occupied first.state) else Some before) others ≡ Some behind)
    choose true so not = so
    choose false so not = not

-- a client that is up by a clock is up
pub up_still : (now : ℕ) (link : LinkState) → is_up (settled now link).phase ≡ true → is_up link.phase ≡ true
up_still now link up = ap (λ (l : LinkState). is_up l.phase) (sym (settled_open now link (up_open _ up)).0) ∙ up

module _ (laws : LawsBelow) (site : Site) (table : Table) (station : IsStation site) (once : Once site) (is_table : IsTableOf site table) (section : ℕ) (reporter : ℕ × ℕ)
    (reported : slice_get table.reporters section ≡ Some reporter) (occupancy : Occupancy) (bound : ℕ) (first : List (List ℕ)) (far : bound ≤ length first) where
  abbrev at : ℕ
  at = reporter.0

  abbrev place : ℕ
  place = reporter.1

  abbrev link : ℕ
  link = detector_link site reporter.0

  abbrev there : IsReportedIn site.detectors section reporter
  there = report_there laws site table station once is_table section reporter reported

  abbrev d : DetectorSays
  d = says laws laws.written_telegram_is_read site table station once reporter.0 there.0 there.1

  -- the section was told in these items
  abbrev pub WasTold : Type 0
  WasTold = (before : Bool) × (told_in d.peer place first ≡ Some before)

  abbrev OverHere : WorldState → Links → Type 0
  OverHere = Over laws site table station once is_table section reporter reported occupancy bound

  -- a station with its links: only this is told of the section, and the interlocking's client, where it is up, has taken these items
  pub record IsTold (world : WorldState) (network : Links) : Type 0 where
    pub over : OverHere world network
    pub taken : HasTaken site reporter.0 first world.interlocking.ixl network

  within : reporter.0 < length site.detectors
  within = slice_get_within site.detectors reporter.0 there.0 there.1

  named : AreLinks (links site) (names_at site)
  named = laws.layouts_name_their_links site station once

  -- ---- the client of the detector

  module _ (world : WorldState) (network : Links) (o : OverHere world network) where
    pub known_there : (k : KnownDetectorState) × (slice_get world.interlocking.ixl.detectors reporter.0 ≡ Some k)
    known_there = at_place world.interlocking.ixl.detectors reporter.0 (let a = within in let b = o.reporting.stands.whole.clients.detectors in omega (arith, a, b))

    pub known_up : IsClientUp link world → is_up (settled (reading_of world.interlocking.clock) known_there.0.client.link).phase ≡ true
    known_up up = ap (λ (c : ClientState). is_up (settled (reading_of world.interlocking.clock) c.link).phase) (same_Some known_there.0.client up.client (sym (of_third _ _ _ (length site.signals)
        (length site.points) reporter.0 known_there.0.client
        (map_length (λ (k : KnownSignalState). k.client) world.interlocking.ixl.known_signals ∙ o.reporting.stands.whole.clients.known_signals)
        (map_length (λ (k : KnownPointState). k.client) world.interlocking.ixl.known_points ∙ o.reporting.stands.whole.clients.known_points)
        (mapped (λ (k : KnownDetectorState). k.client) world.interlocking.ixl.detectors reporter.0 known_there.0 known_there.1)) ∙ up.there)) ∙ up.up

    talking : Talking site world network
    talking = record {
      stands = o.reporting.stands.talking.stands.clients;
      speaks = o.reporting.stands.talking.matching.clients;
      talk = o.reporting.stands.talking.talk;
    }

  -- ---- an event

  pub told_on : (happening : Event) (world : WorldState) (network : Links) → refusal site happening world ≡ None → LeavesSection site table section happening → IsClientUp link world → IsTold world network
      → IsTold (happens site table happening world) (run_links (events_of site table happening world) network)
  told_on happening world network may leaves up t = record {
    over = over_on laws site table station once is_table section reporter reported occupancy bound happening world network may leaves t.over;
    taken = λ one e now_up. joined (grows one e now_up);
  }
    where
      can : CanBe site table happening world network
      can = record {
        named = named;
        whole = t.over.reporting.stands.whole;
        timely = t.over.timely;
        are = t.over.are;
        may = may;
        follows = laws.events_are_those_of_the_links_exactly site table happening world network named t.over.reporting.stands.whole t.over.timely t.over.are may;
      }

      known : (k : KnownDetectorState) × (slice_get world.interlocking.ixl.detectors reporter.0 ≡ Some k)
      known = known_there world network t.over

      grows : HasTaken site reporter.0 (took network link) (happens site table happening world).interlocking.ixl (run_links (events_of site table happening world) network)
      grows = taken_on laws laws site table is_table reporter.0 laws.deliveries_may_come_links happening world network can known.0 known.1 (talking world network t.over)

      before_it : (more : List (List ℕ)) × (took network link ≡ first ++ more)
      before_it = t.taken known.0 known.1 (up_still (reading_of world.interlocking.clock) known.0.client.link (known_up world network t.over up))

      joined : (more : List (List ℕ)) × (took (run_links (events_of site table happening world) network) link ≡ took network link ++ more)
          → (more : List (List ℕ)) × (took (run_links (events_of site table happening world) network) link ≡ first ++ more)
      joined grown = (before_it.0 ++ grown.0, grown.1 ∙ (ap (λ (list : List (List ℕ)). list ++ grown.0) before_it.1 ∙ append_assoc first before_it.0 grown.0))

  -- ---- what is known

  module _ (world : WorldState) (network : Links) (up : IsClientUp link world) (t : IsTold world network) (was_told : WasTold) where
    abbrev known : (k : KnownDetectorState) × (slice_get world.interlocking.ixl.detectors reporter.0 ≡ Some k)
    known = known_there world network t.over

    now_up : is_up (settled (reading_of world.interlocking.clock) known.0.client.link).phase ≡ true
    now_up = known_up world network t.over up

    was_up : is_up known.0.client.link.phase ≡ true
    was_up = up_still (reading_of world.interlocking.clock) known.0.client.link now_up

    abbrev taken : List (List ℕ)
    taken = took network link

    more : (more : List (List ℕ)) × (taken ≡ first ++ more)
    more = t.taken known.0 known.1 was_up

    peer_here : known.0.client.peer ≡ d.peer
    peer_here = t.over.reporting.stands.talking.matching.clients.detectors reporter.0 known.0 known.1 there.0 there.1

    some_told : (behind : Bool) × (told_in d.peer place taken ≡ Some behind)
    some_told =
        let behind = behind_some place was_told.0 (told_by_all d.peer more.0)
        in (behind.0, ap (told_in d.peer place) more.1 ∙ (in_both d.peer place first more.0 ∙ (ap (λ (before : Option Bool). told_behind place before (told_by_all d.peer more.0)) was_told.1 ∙ behind.1)))

    controller : (c : ClockedControllerState (List Section)) × (slice_get world.detectors reporter.0 ≡ Some c)
    controller = at_place world.detectors reporter.0 (let a = within in let b = t.over.reporting.stands.whole.detectors in omega (arith, a, b))

    safe : IsSafe (network.ends link).server (network.ends link).client
    safe = safe_up laws site table station once is_table world network t.over.timely t.over.are t.over.reporting reporter.0 known.0 known.1 now_up

    fits : Fits occupancy (told_in d.peer place taken)
    fits = taken_fits d place occupancy bound controller.0.host.object (network.ends link).server.given taken safe.rest (t.over.stays controller.0 controller.1).stays safe.beginning
        (let all = ap length more.1 in let both = length-append first more.0 in omega (arith, far, all, both))

    told_so : told_in d.peer place taken ≡ Some (is_occupied occupancy)
    told_so = choose fits
      where
        choose : Fits occupancy (told_in d.peer place taken) → told_in d.peer place taken ≡ Some (is_occupied occupancy)
        choose (inr so) = so
        choose (inl none) = absurd (none-some some_told.0 (sym none ∙ some_told.1))

    knows : KnowsByReports (reading_of world.interlocking.clock) known.0 taken
    knows = knows_by laws site table station once is_table world network t.over.timely t.over.are t.over.reporting reporter.0 known.0 known.1

    -- the section is held for occupied where it is
    pub held_so : (one : KnownDetectorState) → slice_get world.interlocking.ixl.detectors reporter.0 ≡ Some one → contains one.occupied place ≡ is_occupied occupancy
    held_so one e = subst (λ (k : KnownDetectorState). contains k.occupied place ≡ is_occupied occupancy) (same_Some known.0 one (sym known.1 ∙ e))
        (knows.last was_up place ∙ (ap (λ (p : PeerState). is_told (told_in p place taken)) peer_here ∙ ap is_told told_so))
