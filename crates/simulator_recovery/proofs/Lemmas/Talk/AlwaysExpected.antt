-- What comes next to a client is what it expects, after every list of events.
use Rattle.simulator_recovery.proofs.Words.Basics.{◌≡◌, ℕ, ◌∙◌, not, List, [], length, None, refl, sym, ap, subst, arith, false≢true, slice_get_within, ◌+◌, ◌<◌, ◌≤◌, true, ◌∷◌, Some, slice_get, IsTrue, length-append}
use Rattle.simulator_recovery.proofs.Words.Links.{created, Links, MayCallOn, begun as begun_links, run_links, is_open, is_up, Phase, begun, AreOrdered, seen, Names, Ordered, Ends, IsSafe}
use Rattle.simulator_recovery.proofs.Words.Interlockings.{IsTableOf, ClientState, PeerState, is_outside, new_client, Stage, KnownDetectorState, KnownPointState, KnownSignalState, Detector, Node, Point, Signal, Table, reports_changes}
use Rattle.simulator_recovery.proofs.Words.Stations.{Site, Event, NodeId, Beginning, Outset, at_zero, new_detector_of, new_ixl, new_known_point_of, new_known_signal_of, world_at, happens, AreLinksOf, names_at, starts_at_zero, connection_of, copy_of, detector_link, point_link, refusal, WorldState, events_of, IsWhole, Once, IsStation, IsReached, DetectorEntry, Point as PointEntry, Signal as SignalEntry, IsOutsetOf, links, ClockedControllerState, links_in, IsPeer}
use Rattle.simulator_recovery.proofs.Words.Recovery.{ClientSaid, ClientTalks, nothing, EachClient, SpeaksAt, LawsBelow, HaveTalked, AllStandByCounts, ClientHasSaid, commanded, AreMatched, AnswersOnce, GivesAtMostTwoMore, HaveAnswered, HaveNext, NextIsExpected, name_of, peer_for, section_names, Any, HasNames, IndicatesSpoken, SaidSome, SomeAsks}
use Rattle.simulator_recovery.proofs.Words.Controllers.{Behaviour, HostState, item_of, Report, IsName, detection_behaviour, Section, SignalState, signal_behaviour, point_behaviour, PointState, Protocol}
use Rattle.simulator_spec.specs.rasta_core.Ends as ends
use Rattle.simulator_recovery.proofs.Lemmas.Ground.SectionsEvents.{CanBe, event_kept, HasHeld, always_held}
use Rattle.simulator_recovery.proofs.Lemmas.Ground.IxlClients.{mapped_at}
use Rattle.simulator_recovery.proofs.Lemmas.Ground.EndCalls.{at_place, map_length}
use Rattle.simulator_recovery.proofs.Lemmas.Ground.MatchedEnds.{new_peers, Matching, matching_first, matching_on, detectors_keep, points_keep, signals_keep, spoken}
use Rattle.simulator_recovery.proofs.Lemmas.Talk.StationTalk.{same_talk, SameLists, step_talks, Talking, TalkOf, with_lists}
use Rattle.simulator_recovery.proofs.Lemmas.Talk.Standing.{stand_after, stand_first}
use Rattle.simulator_recovery.proofs.Lemmas.Sections.SectionReports.{detector_kind}
use Rattle.simulator_recovery.proofs.Lemmas.Ground.AtLink.{mapped, of_second, of_third}
use Rattle.simulator_recovery.proofs.Lemmas.Ground.ClientItem.{at_front}
use Rattle.simulator_recovery.proofs.Lemmas.Talk.ClientLinks.{not_true, up_open}
use Rattle.simulator_recovery.proofs.Lemmas.Talk.ControllerTells.{Tells, item_is}
use Rattle.simulator_recovery.proofs.Lemmas.Ground.ControllersOnLinks.{lists_of}
use Rattle.simulator_recovery.proofs.Lemmas.Talk.ExpectedItems.{EachExpected, HasBegun, Hears, KindReports, given_at}
use Rattle.simulator_recovery.proofs.Lemmas.Ground.HostKeeps.{ObjectKeeps}
use Rattle.simulator_recovery.proofs.Lemmas.Ground.OwnReports.{asks_none_other, point_kind, signal_kind}
use Rattle.simulator_recovery.proofs.Lemmas.Talk.PointAnswers.{Answering, answering_first, answering_on}
use Rattle.simulator_recovery.proofs.Lemmas.Talk.PointCounts.{waits, within_ever}
use Rattle.simulator_recovery.proofs.Lemmas.Talk.AlwaysTold.{Telling, telling_first, telling_on}

-- ---- what the clients of a station have given is what their stages tell, event by event

-- a client of a controller that was just made, where another was before
anew_talks : (site : Site) (node : Node) (old new : ClientState) (given taken : List (List ℕ)) → new.peer ≡ old.peer → new.stage ≡ Stage.Outside → new.link.phase ≡ Phase.Closed → ClientTalks site node old given taken → ClientTalks site node new given taken
anew_talks site node old new given taken same out shut talks = record {
  outside = ap is_outside out ∙ sym (ap (λ (p : Phase). not (is_up p)) shut);
  acted = λ opened. absurd (false≢true (sym (ap is_open shut) ∙ opened));
  said = λ opened. absurd (false≢true (sym (ap is_open shut) ∙ opened));
  ever = subst (λ (p : PeerState). ClientSaid site node p (length taken) given) (sym same) talks.ever;
}

module _ (laws : LawsBelow) (may_come : (site : Site) (node : NodeId) (bytes : List ℕ) (world : WorldState) (before : Links) → AreLinksOf site world before → refusal site (Event.Deliver node bytes) world ≡ None
    → (link : ℕ) → MayCallOn (names_at site link) (ends.Receives bytes (connection_of (copy_of bytes world))) before) (site : Site) (table : Table) (is_table : IsTableOf site table) where
  -- the interlocking's clients in a new interlocking
  restarted_talks : (begins : Beginning) (world : WorldState) (network new : Links) → IsWhole site world → SameLists network new → Talking site world network → EachClient (SpeaksAt site) (new_ixl site table begins) → TalkOf site (new_ixl site table begins) new
  unfolding new_ixl new_client created
  restarted_talks begins world network new whole same before speaks = record {
    signals = λ place one e.
        let made = mapped_at (new_known_signal_of site begins) site.signals place one e
        in let many = whole.clients.known_signals
        in let w = slice_get_within site.signals place made.0 made.1
        in let old = at_place world.interlocking.ixl.known_signals place (omega (arith, w, many))
        in with_lists site (Signal place) one.client (same.given place) (same.taken place)
        (anew_talks site (Signal place) old.0.client one.client _ _ (speaks.signals place one e made.0 made.1 ∙ sym (before.speaks.signals place old.0 old.1 made.0 made.1))
        (ap (λ (k : KnownSignalState). k.client.stage) made.2) (ap (λ (k : KnownSignalState). k.client.link.phase) made.2) (before.talk.signals place old.0 old.1));
    points = λ place one e.
        let made = mapped_at (new_known_point_of site begins) site.points place one e
        in let many = whole.clients.known_points
        in let w = slice_get_within site.points place made.0 made.1
        in let old = at_place world.interlocking.ixl.known_points place (omega (arith, w, many))
        in with_lists site (Point place) one.client (same.given (point_link site place)) (same.taken (point_link site place))
        (anew_talks site (Point place) old.0.client one.client _ _ (speaks.points place one e made.0 made.1 ∙ sym (before.speaks.points place old.0 old.1 made.0 made.1))
        (ap (λ (k : KnownPointState). k.client.stage) made.2) (ap (λ (k : KnownPointState). k.client.link.phase) made.2) (before.talk.points place old.0 old.1));
    detectors = λ place one e.
        let made = mapped_at (new_detector_of site begins) site.detectors place one e
        in let many = whole.clients.detectors
        in let w = slice_get_within site.detectors place made.0 made.1
        in let old = at_place world.interlocking.ixl.detectors place (omega (arith, w, many))
        in with_lists site (Detector place) one.client (same.given (detector_link site place)) (same.taken (detector_link site place))
        (anew_talks site (Detector place) old.0.client one.client _ _ (speaks.detectors place one e made.0 made.1 ∙ sym (before.speaks.detectors place old.0 old.1 made.0 made.1))
        (ap (λ (k : KnownDetectorState). k.client.stage) made.2) (ap (λ (k : KnownDetectorState). k.client.link.phase) made.2) (before.talk.detectors place old.0 old.1));
  }

  pub event_talks : (happening : Event) (world : WorldState) (network : Links) → CanBe site table happening world network → Talking site world network
      → TalkOf site (happens site table happening world).interlocking.ixl (run_links (events_of site table happening world) network)
  event_talks happening world network can before = event_kept laws may_come site table (Talking site) (TalkOf site) (same_talk site)
      (λ input connection one old links_of step talking talk.
      step_talks laws site table is_table input connection old links_of step.can.named step.can.whole step.can.timely step.can.are step.comes step.may talking.stands talking.speaks talk)
      (λ begins old one new whole same talking talk. restarted_talks begins old one new whole same talking (new_peers site table begins)) happening world network can before before.talk

  -- nothing was given at the beginning
  pub first_talks : (outset : Outset) → TalkOf site (world_at site table outset).interlocking.ixl (begun_links (names_at site) starts_at_zero)
  unfolding world_at new_ixl new_client created
  first_talks outset = record {
    signals = λ place one e. let made = mapped_at (new_known_signal_of site at_zero) site.signals place one e in
        new_talks (Signal place) one.client (ap (λ (k : KnownSignalState). k.client.stage) made.2) (ap (λ (k : KnownSignalState). k.client.link.phase) made.2);
    points = λ place one e. let made = mapped_at (new_known_point_of site at_zero) site.points place one e in
        new_talks (Point place) one.client (ap (λ (k : KnownPointState). k.client.stage) made.2) (ap (λ (k : KnownPointState). k.client.link.phase) made.2);
    detectors = λ place one e. let made = mapped_at (new_detector_of site at_zero) site.detectors place one e in
        new_talks (Detector place) one.client (ap (λ (k : KnownDetectorState). k.client.stage) made.2) (ap (λ (k : KnownDetectorState). k.client.link.phase) made.2);
  }
    where
      new_talks : (node : Node) (client : ClientState) → client.stage ≡ Stage.Outside → client.link.phase ≡ Phase.Closed → ClientTalks site node client [] []
      new_talks node client out shut = record {
        outside = ap is_outside out ∙ sym (ap (λ (p : Phase). not (is_up p)) shut);
        acted = λ opened. absurd (false≢true (sym (ap is_open shut) ∙ opened));
        said = λ opened. absurd (false≢true (sym (ap is_open shut) ∙ opened));
        ever = nothing refl;
      }

-- ---- what the clients of a station have given by their stages, after every list of events

module _ (laws : LawsBelow) (site : Site) (table : Table) (station : IsStation site) (once : Once site) (is_table : IsTableOf site table) where
  pub record AreTalking (world : WorldState) (network : Links) : Type 0 where
    pub stands : AllStandByCounts site world
    pub matching : Matching site table world
    pub talk : TalkOf site world.interlocking.ixl network

  pub talking_on : (happening : Event) (world : WorldState) (network : Links) → CanBe site table happening world network → AreTalking world network
      → AreTalking (happens site table happening world) (run_links (events_of site table happening world) network)
  talking_on happening world network can before =
      let matching = matching_on site table happening world before.matching
      in record {
        stands = stand_after site table station happening world before.stands;
        matching = matching;
        talk = event_talks laws laws.deliveries_may_come_links site table is_table happening world network can (record { stands = before.stands.clients; speaks = before.matching.clients; talk = before.talk });
      }

  pub talking_first : (outset : Outset) → AreTalking (world_at site table outset) (begun (names_at site) starts_at_zero)
  talking_first outset = record { stands = stand_first site table station outset; matching = matching_first site table outset; talk = first_talks laws laws.deliveries_may_come_links site table is_table outset }

  pub have_talked : (world : WorldState) → IsReached site table world → HaveTalked site world
  have_talked world reached = record { has = held.has; talk = record { signals = held.holds.talk.signals; points = held.holds.talk.points; detectors = held.holds.talk.detectors } }
    where
      held : HasHeld laws site table station once AreTalking
          (λ outset lies. talking_first outset) talking_on world
      held = always_held laws site table station once AreTalking
          (λ outset lies. talking_first outset) talking_on world reached

-- ---- what comes next to a client is what it expects, after every list of events

-- ---- one link

pub begun_of : (site : Site) (node : Node) (peer : PeerState) (s : Stage) (count : ℕ) (given : List (List ℕ)) → ClientHasSaid site node peer s count given → HasBegun s count
begun_of site node peer Stage.Outside count given said = tt
begun_of site node peer Stage.AwaitsAnswer count given said = tt
begun_of site node peer Stage.AwaitsStart count given said = tt
begun_of site node peer (Stage.AwaitsStatus left) count given said = said.0
begun_of site node peer Stage.Completed count given said = tt
begun_of site node peer Stage.AwaitsReport count given said = tt

-- each item that a controller has given in a connection that is the last of both ends
abbrev pub EachIsExpected : PeerState → Ends → Type 0
EachIsExpected peer ends = (connection : ℕ) → ends.client.connection ≡ Some connection → ends.server.connection ≡ Some connection → EachExpected peer ends.server.given

-- so the next one
pub next_of : (site : Site) (node : Node) (client : ClientState) (ends : Ends) → ClientTalks site node client ends.client.given ends.client.taken → EachIsExpected client.peer ends
    → ((connection : ℕ) → ends.client.connection ≡ Some connection → ends.server.connection ≡ Some connection → is_up client.link.phase ≡ true → (item : List ℕ) → slice_get ends.server.given (length ends.client.taken) ≡ Some item
    → client.stage ≡ Stage.Completed → IsTrue (reports_changes client.peer.protocol)) → NextIsExpected client ends
next_of site node client ends talks each hears connection of_client of_server up item at =
    let opened = up_open _ up
    in each connection of_client of_server client.stage (length ends.client.taken) item at (talks.acted opened)
    (not_true (is_outside client.stage) (is_up client.link.phase) talks.outside up) (begun_of site node client.peer client.stage (length ends.client.taken) ends.client.given (talks.said opened)) (hears connection of_client of_server up item at)

-- A point's client that awaits no report has taken all: its controller has given no more.
pub none_next : (site : Site) (place : ℕ) (client : ClientState) (ends : Ends) → ClientTalks site (Point place) client ends.client.given ends.client.taken → length client.peer.objects ≡ 1 → is_open client.link.phase ≡ true
    → client.stage ≡ Stage.Completed → length ends.server.given ≤ 2 + length ends.client.given → (item : List ℕ) → slice_get ends.server.given (length ends.client.taken) ≡ Some item → ⊥
none_next site place client ends talks one opened is few item at = by_said (subst (λ (s : Stage). ClientHasSaid site (Point place) client.peer s (length ends.client.taken) ends.client.given) is (talks.said opened))
  where
    by_said : ClientHasSaid site (Point place) client.peer Stage.Completed (length ends.client.taken) ends.client.given → ⊥
    by_said (c, all) =
        let given = ap length c.are in let moves = map_length (commanded client.peer) c.commands in let within = slice_get_within ends.server.given (length ends.client.taken) item at
        in omega (arith, all, one, given, moves, within, few)

module _ (laws : LawsBelow) (site : Site) (node : Node) (client : ClientState) (ends : Ends) (names : Names) (is_peer : IsPeer client.peer) (talks : ClientTalks site node client ends.client.given ends.client.taken) (ordered : Ordered names ends) where
  module _ {Object : Type 0} (does : Behaviour Object) (Fits : Object → Type 0) (own_name peer_name : List ℕ) (keep : ObjectKeeps does Fits (spoken site)) (host : HostState Object) (matched : AreMatched does client.peer host)
      (tells : Tells does Fits (spoken site) own_name peer_name keep host (lists_of ends.server)) (kind : KindReports laws.written_telegram_is_read does Fits client.peer is_peer host matched) where
    version_is : spoken site ≡ client.peer.version
    version_is = sym tells.kept_so.version_is ∙ matched.version

    some_said : SaidSome does Fits (SomeAsks (spoken site) ends.server.taken) (item_of host) host.version ends.server.given
    some_said = subst (λ (n : ℕ). SaidSome does Fits (SomeAsks (spoken site) ends.server.taken) (item_of host) n ends.server.given) (sym tells.kept_so.version_is)
        (subst (λ (item : Report → List ℕ). SaidSome does Fits (SomeAsks (spoken site) ends.server.taken) item (spoken site) ends.server.given) (sym (item_is does Fits (spoken site) own_name peer_name keep host tells.kept_so)) tells.ever)

    one_each : EachIsExpected client.peer ends
    one_each connection of_client of_server s count item at acted inside begun hears =
        given_at laws.written_telegram_is_read does Fits client.peer is_peer host matched kind (SomeAsks (spoken site) ends.server.taken) (λ some. asks_none_other laws.written_telegram_is_read site node client.peer is_peer (length ends.client.taken) ends.client.given safe.rest ends.server.taken talks.ever safe.beginning
        (subst (λ (n : ℕ). SomeAsks n ends.server.taken) version_is some)) ends.server.given count item s some_said at acted inside begun (hears_so s hears)
      where
        safe : IsSafe ends.client ends.server
        safe = (laws.order_is_safe names ends ordered connection of_client of_server).0

        hears_so : (how_far : Stage) → (how_far ≡ Stage.Completed → IsTrue (reports_changes client.peer.protocol)) → Hears laws.written_telegram_is_read does Fits client.peer is_peer host matched kind how_far
        hears_so Stage.Outside h = tt
        hears_so Stage.AwaitsAnswer h = tt
        hears_so Stage.AwaitsStart h = tt
        hears_so (Stage.AwaitsStatus left) h = tt
        hears_so Stage.Completed h = h refl
        hears_so Stage.AwaitsReport h = tt

-- ---- a station

module _ (laws : LawsBelow) (site : Site) (table : Table) (station : IsStation site) (once : Once site) (is_table : IsTableOf site table) where
  pub record Stands (world : WorldState) (network : Links) : Type 0 where
    pub whole : IsWhole site world
    pub talking : AreTalking laws site table station once is_table world network
    pub telling : Telling site laws table world network
    pub answering : Answering laws.points laws site table world network
    pub ordered : AreOrdered (links site) (names_at site) network

  pub stands_first : (outset : Outset) → IsOutsetOf site outset → Stands (world_at site table outset) (begun (names_at site) starts_at_zero)
  stands_first outset lies = record {
    whole = (laws.stations_have_links_first site table outset station lies).whole;
    talking = record { stands = stand_first site table station outset; matching = matching_first site table outset; talk = first_talks laws laws.deliveries_may_come_links site table is_table outset };
    telling = telling_first site laws table outset;
    answering = answering_first laws.points laws site table outset;
    ordered = laws.links_keep_order_starts (links site) (names_at site) starts_at_zero;
  }

  pub stands_on : (happening : Event) (world : WorldState) (network : Links) → CanBe site table happening world network → Stands world network → Stands (happens site table happening world) (run_links (events_of site table happening world) network)
  stands_on happening world network can before = record {
    whole = laws.events_are_those_of_the_links_whole site table happening world network can.named station can.whole can.timely can.are can.may;
    talking = talking_on laws site table station once is_table happening world network can before.talking;
    telling = telling_on site laws table happening world network can.whole can.are before.telling;
    answering = answering_on laws.points laws site table happening world network can.whole can.are before.answering;
    ordered = laws.links_keep_order_run (links site) (names_at site) (events_of site table happening world) network can.named can.timely before.ordered can.follows.may;
  }

  pub same_length : {X Y : Type 0} (one : List X) (other : List Y) → length one ≡ length other → (place : ℕ) (x : X) → slice_get one place ≡ Some x → (y : Y) × (slice_get other place ≡ Some y)
  same_length one other same place x e = at_place other place (subst (λ (n : ℕ). place < n) same (slice_get_within one place x e))

  module _ (world : WorldState) (network : Links) (s : Stands world network) where
    pub each_signal : (place : ℕ) (known : KnownSignalState) → slice_get world.interlocking.ixl.known_signals place ≡ Some known → EachIsExpected known.client.peer (seen place network)
    each_signal place known e =
        let entry = same_length world.interlocking.ixl.known_signals site.signals s.whole.clients.known_signals place known e
        in let server = same_length site.signals world.signals (sym s.whole.signals) place entry.0 entry.1
        in with_entry entry.0 entry.1 server.0 server.1
      where
        is_peer : IsPeer known.client.peer
        is_peer = s.whole.clients.peers place known.client (at_front _ _ place known.client (mapped (λ (k : KnownSignalState). k.client) world.interlocking.ixl.known_signals place known e))

        below : place < links site
        below = let a = slice_get_within world.interlocking.ixl.known_signals place known e in let b = s.whole.clients.known_signals in omega (arith, a, b)

        with_entry : (entry : SignalEntry) → slice_get site.signals place ≡ Some entry → (c : ClockedControllerState SignalState) → slice_get world.signals place ≡ Some c → EachIsExpected known.client.peer (seen place network)
        with_entry entry f c g = one_each laws site (Signal place) known.client (seen place network) (names_at site place) is_peer (s.talking.talk.signals place known e) (s.ordered place below)
            signal_behaviour (IndicatesSpoken site) entry.name site.station.name (signals_keep site) c.host matched tells
            (signal_kind laws.written_telegram_is_read site known.client.peer is_peer (ap (λ (p : PeerState). p.version) peer_is) alone c.host matched)
          where
            peer_is : known.client.peer ≡ peer_for Protocol.LightSignal site entry.name (entry.name ∷ [])
            peer_is = s.talking.matching.clients.signals place known e entry f

            tells : Tells signal_behaviour (IndicatesSpoken site) (spoken site) entry.name site.station.name (signals_keep site) c.host (lists_of (network.ends place).server)
            tells = s.telling.of_signals place c g entry f

            matched : AreMatched signal_behaviour known.client.peer c.host
            matched = subst (λ (p : PeerState). AreMatched signal_behaviour p c.host) (sym peer_is) (record { own_name = tells.kept_so.peer_is; name = tells.kept_so.own_is; version = tells.kept_so.version_is; protocol = refl })

            alone : known.client.peer.objects ≡ known.client.peer.name ∷ []
            alone = subst (λ (p : PeerState). p.objects ≡ p.name ∷ []) (sym peer_is) refl

    pub signal_changes : (place : ℕ) (known : KnownSignalState) → slice_get world.interlocking.ixl.known_signals place ≡ Some known → IsTrue (reports_changes known.client.peer.protocol)
    signal_changes place known e =
        let entry = same_length world.interlocking.ixl.known_signals site.signals s.whole.clients.known_signals place known e
        in ap (λ (p : PeerState). reports_changes p.protocol) (s.talking.matching.clients.signals place known e entry.0 entry.1)

    next_signal : (place : ℕ) (known : KnownSignalState) → slice_get world.interlocking.ixl.known_signals place ≡ Some known → NextIsExpected known.client (seen place network)
    next_signal place known e = next_of site (Signal place) known.client (seen place network) (s.talking.talk.signals place known e) (each_signal place known e) (λ connection of_client of_server up item at completed. signal_changes place known e)

    -- a point's controller gives no more than it is made to
    pub gives_no_more : (place : ℕ) (c : ClockedControllerState PointState) → slice_get world.points place ≡ Some c → GivesAtMostTwoMore (seen (point_link site place) network)
    gives_no_more place c g connection of_client of_server =
        let ever = (s.answering.of_points place c g).ever in let taken = ap length safe.beginning ∙ length-append (network.ends (point_link site place)).server.taken safe.rest in omega (arith, ever, taken)
      where
        below : point_link site place < links site
        below = let a = slice_get_within world.points place c g in let b = s.whole.points in omega (arith, a, b)

        safe : IsSafe (network.ends (point_link site place)).client (network.ends (point_link site place)).server
        safe = (laws.order_is_safe (names_at site (point_link site place)) (seen (point_link site place) network) (s.ordered (point_link site place) below) connection of_client of_server).0

    pub each_point : (place : ℕ) (known : KnownPointState) → slice_get world.interlocking.ixl.known_points place ≡ Some known → EachIsExpected known.client.peer (seen (point_link site place) network)
    each_point place known e =
        let entry = same_length world.interlocking.ixl.known_points site.points s.whole.clients.known_points place known e
        in let server = same_length site.points world.points (sym s.whole.points) place entry.0 entry.1
        in with_entry entry.0 entry.1 server.0 server.1
      where
        is_peer : IsPeer known.client.peer
        is_peer = s.whole.clients.peers (point_link site place) known.client (of_second _ _ _ (length site.signals) place known.client
            (map_length (λ (k : KnownSignalState). k.client) world.interlocking.ixl.known_signals ∙ s.whole.clients.known_signals) (mapped (λ (k : KnownPointState). k.client) world.interlocking.ixl.known_points place known e))

        below : point_link site place < links site
        below = let a = slice_get_within world.interlocking.ixl.known_points place known e in let b = s.whole.clients.known_points in omega (arith, a, b)

        with_entry : (entry : PointEntry) → slice_get site.points place ≡ Some entry → (c : ClockedControllerState PointState) → slice_get world.points place ≡ Some c → EachIsExpected known.client.peer (seen (point_link site place) network)
        with_entry entry f c g = one_each laws site (Point place) known.client (seen (point_link site place) network) (names_at site (point_link site place)) is_peer (s.talking.talk.points place known e) (s.ordered (point_link site place) below)
            point_behaviour Any entry.name site.station.name (points_keep site) c.host matched tells
            (point_kind laws.written_telegram_is_read site known.client.peer is_peer (ap (λ (p : PeerState). p.version) peer_is) alone c.host matched)
          where
            peer_is : known.client.peer ≡ peer_for Protocol.Point site entry.name (entry.name ∷ [])
            peer_is = s.talking.matching.clients.points place known e entry f

            tells : Tells point_behaviour Any (spoken site) entry.name site.station.name (points_keep site) c.host (lists_of (network.ends (point_link site place)).server)
            tells = s.telling.of_points place c g entry f

            matched : AreMatched point_behaviour known.client.peer c.host
            matched = subst (λ (p : PeerState). AreMatched point_behaviour p c.host) (sym peer_is) (record { own_name = tells.kept_so.peer_is; name = tells.kept_so.own_is; version = tells.kept_so.version_is; protocol = refl })

            alone : known.client.peer.objects ≡ known.client.peer.name ∷ []
            alone = subst (λ (p : PeerState). p.objects ≡ p.name ∷ []) (sym peer_is) refl

    next_point : (place : ℕ) (known : KnownPointState) → slice_get world.interlocking.ixl.known_points place ≡ Some known → NextIsExpected known.client (seen (point_link site place) network)
    next_point place known e = next_of site (Point place) known.client (seen (point_link site place) network) (s.talking.talk.points place known e) (each_point place known e) none_completed
      where
        entry : (entry : PointEntry) × (slice_get site.points place ≡ Some entry)
        entry = same_length world.interlocking.ixl.known_points site.points s.whole.clients.known_points place known e

        server : (c : ClockedControllerState PointState) × (slice_get world.points place ≡ Some c)
        server = same_length site.points world.points (sym s.whole.points) place entry.0 entry.1

        none_completed : (connection : ℕ) → (network.ends (point_link site place)).client.connection ≡ Some connection → (network.ends (point_link site place)).server.connection ≡ Some connection → is_up known.client.link.phase ≡ true
            → (item : List ℕ) → slice_get (network.ends (point_link site place)).server.given (length (network.ends (point_link site place)).client.taken) ≡ Some item → known.client.stage ≡ Stage.Completed → IsTrue (reports_changes known.client.peer.protocol)
        none_completed connection of_client of_server up item at completed = absurd (none_next site place known.client (seen (point_link site place) network) (s.talking.talk.points place known e)
            (ap (λ (p : PeerState). length p.objects) (s.talking.matching.clients.points place known e entry.0 entry.1)) (up_open _ up) completed (gives_no_more place server.0 server.1 connection of_client of_server) item at)

  pub each_detector : (world : WorldState) (network : Links) → Stands world network → (place : ℕ) (known : KnownDetectorState) → slice_get world.interlocking.ixl.detectors place ≡ Some known → EachIsExpected known.client.peer (seen (detector_link site place) network)
  each_detector world network s place known e =
      let entry = same_length world.interlocking.ixl.detectors site.detectors s.whole.clients.detectors place known e
      in let server = same_length site.detectors world.detectors (sym s.whole.detectors) place entry.0 entry.1
      in with_entry entry.0 entry.1 server.0 server.1
    where
      is_peer : IsPeer known.client.peer
      is_peer = s.whole.clients.peers (detector_link site place) known.client (of_third _ _ _ (length site.signals) (length site.points) place known.client
          (map_length (λ (k : KnownSignalState). k.client) world.interlocking.ixl.known_signals ∙ s.whole.clients.known_signals)
          (map_length (λ (k : KnownPointState). k.client) world.interlocking.ixl.known_points ∙ s.whole.clients.known_points) (mapped (λ (k : KnownDetectorState). k.client) world.interlocking.ixl.detectors place known e))

      below : detector_link site place < links site
      below = let a = slice_get_within world.interlocking.ixl.detectors place known e in let b = s.whole.clients.detectors in omega (arith, a, b)

      with_entry : (entry : DetectorEntry) → slice_get site.detectors place ≡ Some entry → (c : ClockedControllerState (List Section)) → slice_get world.detectors place ≡ Some c → EachIsExpected known.client.peer (seen (detector_link site place) network)
      with_entry entry f c g = one_each laws site (Detector place) known.client (seen (detector_link site place) network) (names_at site (detector_link site place)) is_peer (s.talking.talk.detectors place known e)
          (s.ordered (detector_link site place) below) detection_behaviour (HasNames (section_names site entry)) entry.name site.station.name (detectors_keep site (section_names site entry)) c.host matched tells
          (detector_kind site station once place entry f laws.written_telegram_is_read known.client.peer is_peer objects named c.host matched)
        where
          peer_is : known.client.peer ≡ peer_for Protocol.TrainDetection site entry.name (section_names site entry)
          peer_is = s.talking.matching.clients.detectors place known e entry f

          objects : known.client.peer.objects ≡ section_names site entry
          objects = ap (λ (p : PeerState). p.objects) peer_is

          tells : Tells detection_behaviour (HasNames (section_names site entry)) (spoken site) entry.name site.station.name (detectors_keep site (section_names site entry)) c.host (lists_of (network.ends (detector_link site place)).server)
          tells = s.telling.of_detectors place c g entry f

          matched : AreMatched detection_behaviour known.client.peer c.host
          matched = subst (λ (p : PeerState). AreMatched detection_behaviour p c.host) (sym peer_is) (record { own_name = tells.kept_so.peer_is; name = tells.kept_so.own_is; version = tells.kept_so.version_is; protocol = refl })

          named : (k : ℕ) (name : List ℕ) → slice_get (section_names site entry) k ≡ Some name → IsName name
          named k name there =
              let found = mapped_at name_of c.host.object k name (ap (λ (names : List (List ℕ)). slice_get names k) tells.kept_so.object ∙ there)
              in subst IsName (sym found.2) (s.whole.sections_named place c g k found.0 found.1)

  pub detector_changes : (world : WorldState) (network : Links) → Stands world network → (place : ℕ) (known : KnownDetectorState) → slice_get world.interlocking.ixl.detectors place ≡ Some known → IsTrue (reports_changes known.client.peer.protocol)
  detector_changes world network s place known e =
      let entry = same_length world.interlocking.ixl.detectors site.detectors s.whole.clients.detectors place known e
      in ap (λ (p : PeerState). reports_changes p.protocol) (s.talking.matching.clients.detectors place known e entry.0 entry.1)

  next_detector : (world : WorldState) (network : Links) → Stands world network → (place : ℕ) (known : KnownDetectorState) → slice_get world.interlocking.ixl.detectors place ≡ Some known → NextIsExpected known.client (seen (detector_link site place) network)
  next_detector world network s place known e = next_of site (Detector place) known.client (seen (detector_link site place) network) (s.talking.talk.detectors place known e) (each_detector world network s place known e) (λ connection of_client of_server up item at completed. detector_changes world network s place known e)

  pub have_next : (world : WorldState) → IsReached site table world → HaveNext site world
  have_next world reached =
      let held = always_held laws site table station once Stands stands_first stands_on world reached
      in record { has = held.has; next = record { signals = next_signal world _ held.holds; points = next_point world _ held.holds; detectors = next_detector world _ held.holds } }

  pub have_answered : (world : WorldState) → IsReached site table world → HaveAnswered site world
  have_answered world reached = record { has = held.has; points = λ place c g. answers place c g }
    where
      held : HasHeld laws site table station once Stands stands_first stands_on world
      held = always_held laws site table station once Stands stands_first stands_on world reached

      answers : (place : ℕ) (c : ClockedControllerState PointState) → slice_get world.points place ≡ Some c → AnswersOnce c.host (seen (point_link site place) (links_in held.has))
      answers place c g =
          let counted = held.holds.answering.of_points place c g
          in record {
            waits = λ e. within_ever c.host.stage _ _ (waits c.host.object) (counted.inside e);
            ever = counted.ever;
            no_more = gives_no_more world (links_in held.has) held.holds place c g;
          }
