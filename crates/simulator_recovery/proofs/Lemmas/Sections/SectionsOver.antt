-- What was told of a section comes over with the items of its link.
use Rattle.simulator_recovery.proofs.Words.Basics.{◌≡◌, ◌≢◌, ◌⊎◌, inl, inr, ℕ, ◌<◌, ◌≤◌, ◌==◌, ◌∙◌, Bool, true, false, List, [], ◌∷◌, ◌++◌, append_assoc, append-nil, length, map, Option, Some, None, slice_get, slice_index_or, refl, sym, ap, subst, arith, contains, nat_tests, none-some, same_Some, slice_get_within}
use Rattle.simulator_recovery.proofs.Words.Links.{settled, Each, AreTimely, kept, reading_of, AreLinks, Links, run_links, seen, Ends, IsCounted, IsSafe, LinkState, is_open, is_up}
use Rattle.simulator_recovery.proofs.Words.Controllers.{called_all, entering, reading, Occupancy, Clear, Occupied, Protocol, HostSoFar, HostState, items_given, beginning, contacts_of, Input as HostInput, detection_behaviour, Section}
use Rattle.simulator_recovery.proofs.Words.Interlockings.{IsReportedIn, IsTableOf, as_section, ClientState, PeerState, is_ready, told_by, told_by_all, At, KnownDetectorState, KnownPointState, KnownSignalState, Table}
use Rattle.simulator_recovery.proofs.Words.Stations.{DetectorEntry, Site, Once, IsStation, SectionId, Event, step_of, happens, AreLinksOf, ServerEnd, end_of_server, names_at, detector_link, links, refusal, CanHappen, after_all, ClockedControllerState, WorldState, events_of, links_in, client_states, IsReached}
use Rattle.simulator_recovery.proofs.Words.Recovery.{HasHandedOver, AreInOne, IsUpOn, peer_for, section_names, IsReadyOn, IsKnownAs, IsKnownAsItIs, KnowsByReports, LeavesSection, OwesNone, is_occupied, is_told, told_behind, told_in, HasNames, LawsBelow}
use Rattle.simulator_recovery.proofs.Lemmas.Ground.SectionsEvents.{HasHeld}
use Rattle.simulator_recovery.proofs.Lemmas.Ground.AtLink.{mapped, of_third}
use Rattle.simulator_recovery.proofs.Lemmas.Talk.ClientLinks.{up_open}
use Rattle.simulator_recovery.proofs.Lemmas.Talk.ControllerTells.{given_is}
use Rattle.simulator_recovery.proofs.Lemmas.Ground.ControllersOnLinks.{Lists, lists_at, lists_of}
use Rattle.simulator_recovery.proofs.Lemmas.Links.HandedOver.{client_is, server_is}
use Rattle.simulator_recovery.proofs.Lemmas.Links.InOne.{in_one}
use Rattle.simulator_recovery.proofs.Lemmas.Ground.LinkCounts.{settled_open}
use Rattle.simulator_recovery.proofs.Lemmas.Ground.EndCalls.{at_place, map_length}
use Rattle.simulator_recovery.proofs.Lemmas.Ground.MatchedEnds.{detectors_keep, spoken}
use Rattle.simulator_recovery.proofs.Lemmas.Sections.SectionsAlways.{Reporting, knows_by, reporting_first, reporting_held, reporting_on, safe_up, timely_of}
use Rattle.simulator_recovery.proofs.Lemmas.Sections.SectionsCalls.{DetectorSays, Fits, IsElsewhere}
use Rattle.simulator_recovery.proofs.Lemmas.Sections.SectionsController.{TellsSections}
use Rattle.simulator_recovery.proofs.Lemmas.Sections.SectionsHost.{begun_there, items_only, section_stays}
use Rattle.simulator_recovery.proofs.Lemmas.Sections.SectionsInitial.{cut_so}
use Rattle.simulator_recovery.proofs.Lemmas.Sections.SectionsKept.{AllowsAll, Brings, StepKept, event_so}
use Rattle.simulator_recovery.proofs.Lemmas.Sections.SectionsNames.{says}
use Rattle.simulator_recovery.proofs.Lemmas.Sections.SectionsClient.{TellsOnly, in_both, only_both, only_none}
use Rattle.simulator_recovery.proofs.Lemmas.Silence.Shown.{counted_given, counted_taken}
use Rattle.simulator_recovery.proofs.Lemmas.Silence.Spent.{settled_given, settled_taken}
use Rattle.simulator_recovery.proofs.Lemmas.Talk.AlwaysTold.{TellsDetector, keeps as tells_keep}
use Rattle.simulator_recovery.proofs.Lemmas.Talk.Standing.{detectors_tell}

-- ---- a section of which only one thing is told

module _ (d : DetectorSays) (place : ℕ) (occupancy : Occupancy) where
  abbrev pub OnlyTell : List (List ℕ) → Type 0
  OnlyTell items = Each (λ (one : List ℕ). TellsOnly place (is_occupied occupancy) (told_by d.peer (reading one))) items

  -- A section that owes nothing and is so; and after what was given first, which told it right or not at all, only this was told of it.
  pub record StaysTold (bound : ℕ) (object : List Section) (given : List (List ℕ)) : Type 0 where
    pub section : Section
    pub there : slice_get object place ≡ Some section
    pub same : section.occupancy ≡ occupancy
    pub free : section.owes ≡ false
    pub base : List (List ℕ)
    pub more : List (List ℕ)
    pub are : given ≡ base ++ more
    pub few : length base ≤ bound
    pub fits : Fits occupancy (told_in d.peer place base)
    pub only : OnlyTell more

  only_all : (items : List (List ℕ)) → OnlyTell items → TellsOnly place (is_occupied occupancy) (told_by_all d.peer items)
  unfolding told_by_all
  only_all [] each = only_none place (is_occupied occupancy)
  only_all (first ∷ others) each = only_both place (is_occupied occupancy) (told_by d.peer (reading first)) (told_by_all d.peer others) each.0 (only_all others each.1)

  none_told : told_in d.peer place [] ≡ None
  unfolding told_by_all
  none_told = refl

  only_front : (front rest : List (List ℕ)) → OnlyTell (front ++ rest) → OnlyTell front
  only_front [] rest each = tt
  only_front (first ∷ front) rest each = (each.0, only_front front rest each.1)

  only_joined : (one other : List (List ℕ)) → OnlyTell one → OnlyTell other → OnlyTell (one ++ other)
  only_joined [] other first second = second
  only_joined (item ∷ one) other first second = (first.0, only_joined one other first.1 second)

  -- whoever has taken as many items as the bound was told this, if anything
  pub taken_fits : (bound : ℕ) (object : List Section) (given taken rest : List (List ℕ)) → StaysTold bound object given → given ≡ taken ++ rest → bound ≤ length taken → Fits occupancy (told_in d.peer place taken)
  taken_fits bound object given taken rest s begins far = choose s.fits (only_all cut.0 (only_front cut.0 rest (subst OnlyTell cut.2 s.only)) (told_in d.peer place s.base))
    where
      cut : (more : List (List ℕ)) × (taken ≡ s.base ++ more) × (s.more ≡ more ++ rest)
      cut = let few = s.few in cut_so s.base taken s.more rest (sym s.are ∙ begins) (omega (arith, few, far))

      is : told_in d.peer place taken ≡ told_behind place (told_in d.peer place s.base) (told_by_all d.peer cut.0)
      is = ap (told_in d.peer place) cut.1 ∙ in_both d.peer place s.base cut.0

      choose : Fits occupancy (told_in d.peer place s.base) → (told_behind place (told_in d.peer place s.base) (told_by_all d.peer cut.0) ≡ told_in d.peer place s.base)
          ⊎ (told_behind place (told_in d.peer place s.base) (told_by_all d.peer cut.0) ≡ Some (is_occupied occupancy)) → Fits occupancy (told_in d.peer place taken)
      choose before (inr so) = inr (is ∙ so)
      choose before (inl so) = subst (Fits occupancy) (sym (is ∙ so)) before

-- ---- a step of the detector

module _ (laws : LawsBelow) (site : Site) (table : Table) (station : IsStation site) (once : Once site) (is_table : IsTableOf site table) (at : ℕ) (entry : DetectorEntry) (there : slice_get site.detectors at ≡ Some entry) (place : ℕ) (occupancy : Occupancy) (bound : ℕ) where
  abbrev pub d : DetectorSays
  d = says laws laws.written_telegram_is_read site table station once at entry there

  -- no contact of this section
  abbrev pub Allowed : HostInput → Type 0
  Allowed input = Each (IsElsewhere place) (contacts_of input)

  allows : AllowsAll Allowed
  allows = record { ticks = tt; comes = λ bytes. tt }

  pub record Stays (host : HostState (List Section)) (lists : Lists) : Type 0 where
    pub tells : TellsDetector site entry host lists
    pub stays : StaysTold d place occupancy bound host.object lists.given

  module _ (input : HostInput) (connection : ℕ) (c : ClockedControllerState (List Section)) (ends : Ends) (elsewhere : Allowed input) (link_is : ends.server.link ≡ settled (reading_of c.clock) c.host.link) (clock_is : ends.server.clock ≡ c.clock)
      (q : Stays c.host (lists_of ends.server)) where
    abbrev now : ℕ
    now = reading_of c.clock

    abbrev done : HostSoFar (List Section)
    done = step_of detection_behaviour input c

    abbrev after : Lists
    after = lists_of (called_all connection done.calls ends).server

    abbrev given_now : List (List ℕ)
    given_now = items_given now done.calls (settled now c.host.link)

    first : (y : Section) × (slice_get (beginning detection_behaviour now c.host).object place ≡ Some y) × (y.occupancy ≡ q.stays.section.occupancy) × (y.owes ≡ false)
    first = begun_there d now input c.host q.tells.kept_so (laws.detector_step_is_told_to_the_object now input c.host) place q.stays.section q.stays.there q.stays.free

    occupancy_is : first.0.occupancy ≡ occupancy
    occupancy_is = first.2 ∙ q.stays.same

    given_only : OnlyTell d place occupancy given_now
    given_only = subst (λ (o : Occupancy). OnlyTell d place o given_now) occupancy_is (items_only d now input c.host q.tells.kept_so (laws.detector_step_is_told_to_the_object now input c.host) place first.0 first.1 first.3 elsewhere)

    last : (y : Section) × (slice_get done.host.object place ≡ Some y) × (y.occupancy ≡ first.0.occupancy) × (y.owes ≡ false)
    last = section_stays d now input c.host q.tells.kept_so (laws.detector_step_is_told_to_the_object now input c.host) place first.0 first.1 first.3 elsewhere

    given_so : after.given ≡ kept (entering input connection ends) ends.server.given ++ given_now
    given_so = given_is detection_behaviour (HasNames (section_names site entry)) (spoken site) entry.name site.station.name (detectors_keep site (section_names site entry)) detectors_tell laws.detectors input connection c ends link_is clock_is q.tells

    step_stays : StaysTold d place occupancy bound done.host.object after.given
    step_stays = subst (StaysTold d place occupancy bound done.host.object) (sym given_so) (by_entering (entering input connection ends))
      where
        by_entering : (entered : Option ℕ) → StaysTold d place occupancy bound done.host.object (kept entered ends.server.given ++ given_now)
        by_entering None = record {
          section = last.0;
          there = last.1;
          same = last.2 ∙ occupancy_is;
          free = last.3;
          base = q.stays.base;
          more = q.stays.more ++ given_now;
          are = ap (λ (list : List (List ℕ)). list ++ given_now) q.stays.are ∙ append_assoc q.stays.base q.stays.more given_now;
          few = q.stays.few;
          fits = q.stays.fits;
          only = only_joined d place occupancy q.stays.more given_now q.stays.only given_only;
        }
        by_entering (Some entered) = record {
          section = last.0;
          there = last.1;
          same = last.2 ∙ occupancy_is;
          free = last.3;
          base = [];
          more = given_now;
          are = refl;
          few = omega arith;
          fits = inl (none_told d place occupancy);
          only = given_only;
        }

  keeps : StepKept Allowed (λ last. Stays)
  keeps input connection c ends elsewhere link_is clock_is q = record {
    tells = (tells_keep site laws).detectors input connection at c ends link_is clock_is
        (λ x f. subst (λ (y : DetectorEntry). TellsDetector site y c.host (lists_of ends.server)) (same_Some entry x (sym there ∙ f)) q.tells) entry there;
    stays = step_stays input connection c ends elsewhere link_is clock_is q;
  }

-- ---- from one moment to a later one

module _ (laws : LawsBelow) (site : Site) (table : Table) (station : IsStation site) (once : Once site) (is_table : IsTableOf site table) (section : ℕ) (reporter : ℕ × ℕ) (reported : slice_get table.reporters section ≡ Some reporter) where
  abbrev at : ℕ
  at = reporter.0

  abbrev place : ℕ
  place = reporter.1

  abbrev link : ℕ
  link = detector_link site reporter.0

  pub report_there : IsReportedIn site.detectors section reporter
  report_there = is_table.reporters.their section reporter reported

  abbrev entry : DetectorEntry
  entry = report_there.0

  abbrev there : slice_get site.detectors reporter.0 ≡ Some entry
  there = report_there.1

  -- another section is reported elsewhere
  apart : (other : ℕ) (r : ℕ × ℕ) → other ≢ section → slice_get table.reporters other ≡ Some r → reporter.0 ≡ r.0 → (place == r.1) ≡ false
  apart other r differ e same = by_test (place == r.1) refl
    where
      theirs : IsReportedIn site.detectors other r
      theirs = is_table.reporters.their other r e

      one_list : entry ≡ theirs.0
      one_list = same_Some entry theirs.0 (sym there ∙ (ap (slice_get site.detectors) same ∙ theirs.1))

      one_section : place ≡ r.1 → other ≡ section
      one_section f = ap (λ (s : SectionId). s.0) (same_Some (as_section other) (as_section section)
          (sym theirs.2 ∙ (ap (λ (x : DetectorEntry). slice_get x.sections r.1) (sym one_list) ∙ (ap (slice_get entry.sections) (sym f) ∙ report_there.2))))

      by_test : (b : Bool) → (place == r.1) ≡ b → (place == r.1) ≡ false
      by_test false f = f
      by_test true f = absurd (differ (one_section (grind (arith, nat_tests, f))))

  module _ (occupancy : Occupancy) (bound : ℕ) where
    abbrev AllowedHere : HostInput → Type 0
    AllowedHere = Allowed laws site table station once is_table reporter.0 entry there place occupancy bound

    abbrev StaysHere : HostState (List Section) → Lists → Type 0
    StaysHere = Stays laws site table station once is_table reporter.0 entry there place occupancy bound

    leaves_so : (happening : Event) → LeavesSection site table section happening → Brings site table reporter.0 AllowedHere happening
    leaves_so (Event.Occupy other o) leaves = λ r e same. (apart other.0 r leaves e same, tt)
    leaves_so (Event.Restart node clock one) leaves = leaves reporter reported
    leaves_so (Event.Request command) leaves = tt
    leaves_so (Event.Tick node) leaves = tt
    leaves_so (Event.Time elapsed clocks) leaves = tt
    leaves_so (Event.Deliver node bytes) leaves = tt
    leaves_so (Event.Lose bytes) leaves = tt
    leaves_so (Event.Reach point position) leaves = tt

    -- a station with its links, and what is told of the section
    pub record Over (world : WorldState) (network : Links) : Type 0 where
      pub timely : AreTimely (links site) (names_at site) network
      pub are : AreLinksOf site world network
      pub reporting : Reporting laws site table station once is_table world network
      pub stays : (c : ClockedControllerState (List Section)) → slice_get world.detectors reporter.0 ≡ Some c → StaysHere c.host (lists_at network link)

    named : AreLinks (links site) (names_at site)
    named = laws.layouts_name_their_links site station once

    pub over_on : (happening : Event) (world : WorldState) (network : Links) → refusal site happening world ≡ None → LeavesSection site table section happening → Over world network → Over (happens site table happening world) (run_links (events_of site table happening world) network)
    over_on happening world network may leaves o =
        let whole = o.reporting.stands.whole
        in let follows = laws.events_are_those_of_the_links_exactly site table happening world network named whole o.timely o.are may
        in record {
          timely = laws.links_keep_time_run (links site) (names_at site) (events_of site table happening world) network named o.timely follows.may;
          are = follows.are;
          reporting = reporting_on laws site table station once is_table happening world network (record { named = named; whole = whole; timely = o.timely; are = o.are; may = may; follows = follows }) o.reporting;
          stays = event_so laws site table reporter.0 AllowedHere (λ last. StaysHere) (keeps laws site table station once is_table reporter.0 entry there place occupancy bound)
              (allows laws site table station once is_table reporter.0 entry there place occupancy bound) world network whole o.are o.stays happening (leaves_so happening leaves);
        }

    pub all_over : (events : List Event) (world : WorldState) (network : Links) → CanHappen site table events world → Each (LeavesSection site table section) events → Over world network → (after : Links) × Over (after_all site table events world) after
    all_over [] world network can leaves o = (network, o)
    all_over (first ∷ others) world network can leaves o = all_over others (happens site table first world) (run_links (events_of site table first world) network) can.1 leaves.1 (over_on first world network can.0 leaves.0 o)

  -- ---- at a moment

  module _ (world : WorldState) (network : Links) (timely : AreTimely (links site) (names_at site) network) (are : AreLinksOf site world network) (r : Reporting laws site table station once is_table world network) (up : IsUpOn link world) where
    within : reporter.0 < length site.detectors
    within = slice_get_within site.detectors reporter.0 entry there

    below : link < links site
    below = let a = within in omega (arith, a)

    one : AreInOne link network
    one = in_one laws site link world network below timely are up

    counted : IsCounted (network.ends link).client × IsCounted (network.ends link).server
    counted = laws.items_are_counted (names_at site link) (seen link network) (r.stands.ordered link below) one.connection one.client one.server

    pub server_count : up.server.link.given ≡ length (network.ends link).server.given
    server_count = sym (settled_given (reading_of up.server.clock) up.server.link) ∙ (ap (λ (l : LinkState). l.given) (sym is) ∙ counted_given (network.ends link).server counted.1 (ap (λ (l : LinkState). is_open l.phase) is ∙ up_open _ up.server_up))
      where
        is : (network.ends link).server.link ≡ settled (reading_of up.server.clock) up.server.link
        is = server_is site link below world network are up

    pub client_count : up.client.taken ≡ length (network.ends link).client.taken
    client_count = sym (settled_taken (reading_of world.interlocking.clock) up.client) ∙ (ap (λ (l : LinkState). l.taken) (sym is) ∙ counted_taken (network.ends link).client counted.0 (ap (λ (l : LinkState). is_open l.phase) is ∙ up_open _ up.client_up))
      where
        is : (network.ends link).client.link ≡ settled (reading_of world.interlocking.clock) up.client
        is = client_is site link below world network are up

    -- the controller of an end that is up
    pub controller_open : (c : ClockedControllerState (List Section)) → slice_get world.detectors reporter.0 ≡ Some c → is_open c.host.link.phase ≡ true
    controller_open c e = ap (λ (s : ServerEnd). is_open s.link.phase) (sym same) ∙ (settled_open (reading_of up.server.clock) up.server.link (up_open _ up.server_up)).1
      where
        same : up.server ≡ end_of_server c
        same = same_Some up.server (end_of_server c) (sym up.server_there ∙ of_third (map end_of_server world.signals) (map end_of_server world.points) _ (length site.signals) (length site.points) reporter.0 (end_of_server c)
            (map_length _ world.signals ∙ r.stands.whole.signals) (map_length _ world.points ∙ r.stands.whole.points) (mapped end_of_server world.detectors reporter.0 c e))

    -- a section that owes nothing was told as it is
    pub first_over : (c : ClockedControllerState (List Section)) → slice_get world.detectors reporter.0 ≡ Some c → (x : Section) → slice_get c.host.object reporter.1 ≡ Some x → x.owes ≡ false
        → Over x.occupancy (length (network.ends link).server.given) world network
    first_over c e x f free = record {
      timely = timely;
      are = are;
      reporting = r;
      stays = λ other g. subst (λ (z : ClockedControllerState (List Section)). StaysHere x.occupancy (length (network.ends link).server.given) z.host (lists_at network link)) (same_Some c other (sym e ∙ g)) (record {
        tells = told_so.tells;
        stays = record {
          section = x;
          there = f;
          same = refl;
          free = free;
          base = (network.ends link).server.given;
          more = [];
          are = sym (append-nil (network.ends link).server.given);
          few = omega arith;
          fits = told_so.reports.fits (controller_open c e) reporter.1 x f free;
          only = tt;
        };
      });
    }
      where
        told_so : TellsSections laws laws.written_telegram_is_read laws.detector_step_is_told_to_the_object laws site table station once reporter.0 entry there c.host (lists_of (network.ends link).server)
        told_so = r.telling.of_detectors reporter.0 c e entry there

    -- what its client knows
    pub known : (k : KnownDetectorState) × (slice_get world.interlocking.ixl.detectors reporter.0 ≡ Some k)
    known = at_place world.interlocking.ixl.detectors reporter.0 (let a = within in let b = r.stands.whole.clients.detectors in omega (arith, a, b))

    pub client_same : (client : ClientState) → slice_get (client_states world.interlocking.ixl) link ≡ Some client → client ≡ known.0.client
    client_same client e = same_Some client known.0.client (sym e ∙ of_third _ _ _ (length site.signals) (length site.points) reporter.0 known.0.client
        (map_length (λ (k : KnownSignalState). k.client) world.interlocking.ixl.known_signals ∙ r.stands.whole.clients.known_signals)
        (map_length (λ (k : KnownPointState). k.client) world.interlocking.ixl.known_points ∙ r.stands.whole.clients.known_points) (mapped (λ (k : KnownDetectorState). k.client) world.interlocking.ixl.detectors reporter.0 known.0 known.1))

    link_same : up.client ≡ known.0.client.link
    link_same = same_Some up.client known.0.client.link (sym up.client_there ∙ of_third (map (λ (k : KnownSignalState). k.client.link) world.interlocking.ixl.known_signals) (map (λ (k : KnownPointState). k.client.link) world.interlocking.ixl.known_points) _
        (length site.signals) (length site.points) reporter.0 known.0.client.link (map_length _ world.interlocking.ixl.known_signals ∙ r.stands.whole.clients.known_signals) (map_length _ world.interlocking.ixl.known_points ∙ r.stands.whole.clients.known_points)
        (mapped (λ (k : KnownDetectorState). k.client.link) world.interlocking.ixl.detectors reporter.0 known.0 known.1))

    pub known_up : is_up (settled (reading_of world.interlocking.clock) known.0.client.link).phase ≡ true
    known_up = ap (λ (l : LinkState). is_up (settled (reading_of world.interlocking.clock) l).phase) (sym link_same) ∙ up.client_up

    was_up : is_up known.0.client.link.phase ≡ true
    was_up = ap (λ (l : LinkState). is_up l.phase) (sym (settled_open (reading_of world.interlocking.clock) known.0.client.link (up_open _ known_up)).0) ∙ known_up

    knows : KnowsByReports (reading_of world.interlocking.clock) known.0 (network.ends link).client.taken
    knows = knows_by laws site table station once is_table world network timely are r reporter.0 known.0 known.1

    pub peer_here : known.0.client.peer ≡ peer_for Protocol.TrainDetection site entry.name (section_names site entry)
    peer_here = r.stands.talking.matching.clients.detectors reporter.0 known.0 known.1 entry there

    pub place_inside : reporter.1 < length known.0.client.peer.objects
    place_inside =
        let same = ap (λ (p : PeerState). length p.objects) peer_here
        in let names = map_length (λ (s : SectionId). slice_index_or site.sections s.0 []) entry.sections
        in let a = slice_get_within entry.sections reporter.1 (as_section section) report_there.2
        in omega (arith, same, names, a)

    -- where it is told so, if at all, and its client is ready, it is known so
    known_as : (occupancy : Occupancy) → is_ready known.0.client.stage ≡ true → Fits occupancy (told_in (peer_for Protocol.TrainDetection site entry.name (section_names site entry)) reporter.1 (network.ends link).client.taken)
        → IsKnownAs table world.interlocking.ixl section occupancy
    known_as occupancy ready fits = as_told occupancy (knows.last was_up reporter.1 ∙ ap is_told told)
      where
        told : told_in known.0.client.peer reporter.1 (network.ends link).client.taken ≡ Some (is_occupied occupancy)
        told = choose (subst (λ (p : PeerState). Fits occupancy (told_in p reporter.1 (network.ends link).client.taken)) (sym peer_here) fits) (knows.each ready known_up reporter.1 place_inside)
          where
            choose : Fits occupancy (told_in known.0.client.peer reporter.1 (network.ends link).client.taken) → (occupied : Bool) × (told_in known.0.client.peer reporter.1 (network.ends link).client.taken ≡ Some occupied)
                → told_in known.0.client.peer reporter.1 (network.ends link).client.taken ≡ Some (is_occupied occupancy)
            choose (inr so) some = so
            choose (inl none) some = absurd (none-some some.0 (sym none ∙ some.1))

        as_told : (o : Occupancy) → contains known.0.occupied reporter.1 ≡ is_occupied o → IsKnownAs table world.interlocking.ixl section o
        as_told Clear e = (reporter, reported, (known.0, known.1, (ready, e)))
        as_told Occupied e = (reporter, reported, (known.0, known.1, (ready, e)))

    -- what was told before has come over
    pub known_over : (occupancy : Occupancy) (bound : ℕ) → Over occupancy bound world network → bound ≤ up.client.taken → (client : ClientState) → slice_get (client_states world.interlocking.ixl) link ≡ Some client → is_ready client.stage ≡ true
        → IsKnownAsItIs table world section
    known_over occupancy bound o far client e ready = (reporter, reported, (controller.0, controller.1, (stays.section, stays.there, subst (IsKnownAs table world.interlocking.ixl section) (sym stays.same) known_so)))
      where
        controller : (c : ClockedControllerState (List Section)) × (slice_get world.detectors reporter.0 ≡ Some c)
        controller = at_place world.detectors reporter.0 (let a = within in let b = r.stands.whole.detectors in omega (arith, a, b))

        stays : StaysTold (says laws laws.written_telegram_is_read site table station once reporter.0 entry there) reporter.1 occupancy bound controller.0.host.object (network.ends link).server.given
        stays = (o.stays controller.0 controller.1).stays

        safe : IsSafe (network.ends link).server (network.ends link).client
        safe = safe_up laws site table station once is_table world network timely are r reporter.0 known.0 known.1 known_up

        known_so : IsKnownAs table world.interlocking.ixl section occupancy
        known_so = known_as occupancy (ap (λ (c : ClientState). is_ready c.stage) (sym (client_same client e)) ∙ ready)
            (taken_fits (says laws laws.written_telegram_is_read site table station once reporter.0 entry there) reporter.1 occupancy bound controller.0.host.object (network.ends link).server.given (network.ends link).client.taken safe.rest stays safe.beginning
            (let n = client_count in omega (arith, far, n)))

-- ---- the law

module _ (laws : LawsBelow) (site : Site) (table : Table) (station : IsStation site) (once : Once site) (is_table : IsTableOf site table) where
  -- from one moment on, while the section isn't changed
  pub comes_over : (old : WorldState) (events : List Event) (section : ℕ) → IsReached site table old → CanHappen site table events old → Each (LeavesSection site table section) events → OwesNone table old section
      → (reporter : ℕ × ℕ) → slice_get table.reporters section ≡ Some reporter → HasHandedOver (detector_link site reporter.0) old (after_all site table events old) → IsReadyOn site (detector_link site reporter.0) (after_all site table events old)
      → IsKnownAsItIs table (after_all site table events old) section
  comes_over old events section reached can leaves (r, r_there, owes) reporter reported handed ready = by_first (subst (λ (p : ℕ × ℕ). At old.detectors p.0 (λ controller. At controller.host.object p.1 (λ one. one.owes ≡ false))) (same_Some r reporter (sym r_there ∙ reported)) owes)
    where
      held : HasHeld laws site table station once (Reporting laws site table station once is_table) (reporting_first laws site table station once is_table) (reporting_on laws site table station once is_table) old
      held = reporting_held laws site table station once is_table old reached

      timely : AreTimely (links site) (names_at site) (links_in held.has)
      timely = timely_of laws site table station once is_table old held.has

      by_first : At old.detectors reporter.0 (λ controller. At controller.host.object reporter.1 (λ one. one.owes ≡ false)) → IsKnownAsItIs table (after_all site table events old) section
      by_first (c, e, (x, f, free)) =
          let over = all_over laws site table station once is_table section reporter reported x.occupancy (length ((links_in held.has).ends (detector_link site reporter.0)).server.given) events old (links_in held.has) can leaves
          (first_over laws site table station once is_table section reporter reported old (links_in held.has) timely held.has.are held.holds handed.before c e x f free)
          in known_over laws site table station once is_table section reporter reported (after_all site table events old) over.0 over.1.timely over.1.are over.1.reporting handed.behind x.occupancy
          (length ((links_in held.has).ends (detector_link site reporter.0)).server.given) over.1
          (let n = server_count laws site table station once is_table section reporter reported old (links_in held.has) timely held.has.are held.holds handed.before in let m = handed.to_interlocking in omega (arith, n, m))
          ready.client ready.there ready.client_ready
