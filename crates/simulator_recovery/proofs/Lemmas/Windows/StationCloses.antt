-- No event of a station closes a client's link but for its own full window.
use Rattle.simulator_recovery.proofs.Words.Basics.{◌≡◌, ◌⊎◌, inl, inr, ℕ, ◌+◌, ◌<◌, ◌≤◌, ◌∙◌, Bool, true, false, List, [], ◌∷◌, ◌++◌, length, map, Option, Some, None, slice_get, if◌then◌else◌, refl, sym, ap, subst, arith, IsTrue}
use Rattle.simulator_recovery.proofs.Words.Links.{receiving, Each, AreTimely, Call, reading_of, Calls, Elsewhere, May, MayRun, AreLinks, CallsOn, Links, LinksEvent, MayRunLinks, begun as begun_links, seen, sent_by, calls_of, restarts_of, OutboxState, LinkState, is_client, is_open, is_up, Role}
use Rattle.simulator_recovery.proofs.Words.Controllers.{as_call as host_call, Behaviour, Input as HostInput, Sense, Aspect, point_behaviour, signal_behaviour, detection_behaviour}
use Rattle.simulator_recovery.proofs.Words.Interlockings.{IsTableOf, ClientState, PeerState, Closes, LinkCall, Opens, Receives, Sends, Ticks, as_call, begun, reports_changes, clocked, commanding, hearing, ticking, Stage, Detector, Node, Point, Signal, StepSoFar, begun_with, empty_outbox, Table}
use Rattle.simulator_recovery.proofs.Words.Stations.{Site, Once, IsStation, Event, NodeId, step_of, coming, interlocking_step, AreLinksOf, names_at, starts_at_zero, connection_of, copy_of, detector_link, key_of, links, node_at, partners, point_link, refusal, ClockedControllerState, WorldState, AreOfNodes, IsNodeOf, link_at, node_call, anew_events, contact_events, delivery_events, events_of, host_events, interlocking_events, numbers_below, restart_events, tick_events, links_in, MayComeWith, IsReached}
use Rattle.simulator_recovery.proofs.Words.Recovery.{ClientHasSaid, ClientTalks, commanded, LeavesClientOpen, EachClient, GivesAtMostTwoMore, LawsBelow}
use Rattle.simulator_spec.specs.rasta_core.Ends as ends
use Rattle.simulator_spec.specs.ixl_client.declared.command.Command.{Command}
use Rattle.simulator_spec.specs.ixl_spec.Step as ixl
use Rattle.simulator_spec.specs.Nodes as nodes
use Rattle.simulator_recovery.proofs.Lemmas.Ground.ClientItem.{partners_length}
use Rattle.simulator_recovery.proofs.Lemmas.Talk.AlwaysExpected.{EachIsExpected, Stands, begun_of, detector_changes, each_detector, each_point, each_signal, gives_no_more, signal_changes, stands_first, stands_on}
use Rattle.simulator_recovery.proofs.Lemmas.Ground.SectionsEvents.{CanBe, HasHeld, always_held}
use Rattle.simulator_recovery.proofs.Lemmas.Windows.ClientCloses.{ByWindow, ComesNext, IsFew, commanding_closes_none, hearing_closes_none, ticking_closes_none}
use Rattle.simulator_recovery.proofs.Lemmas.Talk.ClientLinks.{ClockedStands, clocked_peer, clocked_stands}
use Rattle.simulator_recovery.proofs.Lemmas.Ground.ComesWith.{none_comes, one_comes}
use Rattle.simulator_recovery.proofs.Lemmas.Ground.IxlSoFar.{All, SoFarKeeps, at_node, is_itself, is_node, same_place, step_held}
use Rattle.simulator_recovery.proofs.Lemmas.Ground.EndCalls.{at_place, each_both, map_length}
use Rattle.simulator_recovery.proofs.Lemmas.Links.NextItems.{GoesOnInOne, of_client}
use Rattle.simulator_recovery.proofs.Lemmas.Talk.StationTalk as talk
use Rattle.simulator_recovery.proofs.Lemmas.Talk.StationTalk.{client_comes, clocked_link, clocked_talks}
use Rattle.simulator_recovery.proofs.Lemmas.Ground.Steps.{Stays, step_stays}

-- ---- the calls at each node are all calls

each_at_nodes : (site : Site) (P : Node → LinkCall → Type 0) (calls : List (Node × LinkCall)) → AreOfNodes site calls → ((node : Node) → IsNodeOf site node → Each (P node) (at_node node calls)) → Each (λ made. P made.0 made.1) calls
unfolding at_node
each_at_nodes site P [] of each = tt
each_at_nodes site P (first ∷ others) of each = (here, each_at_nodes site P others of.1 behind)
  where
    here : P first.0 first.1
    here = (subst (λ (b : Bool). Each (P first.0) (if b then first.1 ∷ at_node first.0 others else at_node first.0 others)) (is_itself first.0) (each first.0 of.0)).0

    later : (node : Node) (b : Bool) → Each (P node) (if b then first.1 ∷ at_node node others else at_node node others) → Each (P node) (at_node node others)
    later node true all = all.1
    later node false all = all

    behind : (node : Node) → IsNodeOf site node → Each (P node) (at_node node others)
    behind node there = later node (is_node node first.0) (each node there)

link_below : (site : Site) (node : Node) → IsNodeOf site node → link_at site node < links site
link_below site (Signal place) there = omega (arith, there)
link_below site (Point place) there = omega (arith, there)
link_below site (Detector place) there = omega (arith, there)

-- ---- a client of a point is told nothing that it doesn't await

few_at : (site : Site) (place : ℕ) (peer : PeerState) → length peer.objects ≡ 1 → (given : List (List ℕ)) (s : Stage) (count : ℕ) (items : List (List ℕ)) → length given ≤ 2 + length items
    → ClientHasSaid site (Point place) peer s count items → IsFew peer given s count
few_at site place peer alone given Stage.Outside count items few said = let none = ap length said in omega (arith, few, none)
few_at site place peer alone given Stage.AwaitsAnswer count items few said = let one = ap length said in omega (arith, few, one)
few_at site place peer alone given Stage.AwaitsStart count items few said = let two = ap length said in omega (arith, few, two, alone)
few_at site place peer alone given (Stage.AwaitsStatus left) count items few (some, said) = let two = ap length said in omega (arith, few, two, alone)
few_at site place peer alone given Stage.Completed count items few (c, all) = let many = ap length c.are in let same = map_length (commanded peer) c.commands in omega (arith, few, many, same, all, alone)
few_at site place peer alone given Stage.AwaitsReport count items few (c, one) = let many = ap length c.are in let same = map_length (commanded peer) c.commands in omega (arith, few, many, same, one, alone)

-- ---- a step of the interlocking

module _ (laws : LawsBelow) (site : Site) (table : Table) (station : IsStation site) (once : Once site) (is_table : IsTableOf site table) where
  abbrev pub StandsSo : WorldState → Links → Type 0
  StandsSo = Stands laws site table station once is_table

  module _ (world : WorldState) (network : Links) (named : AreLinks (links site) (names_at site)) (timely : AreTimely (links site) (names_at site) network) (are : AreLinksOf site world network) (s : StandsSo world network) where
    abbrev now : ℕ
    now = reading_of world.interlocking.clock

    abbrev link_of : Node → LinkState
    link_of node = (network.ends (link_at site node)).client.link

    no_more : (place : ℕ) → place < length site.points → GivesAtMostTwoMore (seen (point_link site place) network)
    no_more place there = let many = s.whole.points in let c = at_place world.points place (omega (arith, there, many)) in gives_no_more laws site table station once is_table world network s place c.0 c.1

    -- a point's client hears of one object, and each other of changes
    abbrev HearsAt : Node → PeerState → Type 0
    HearsAt (Point place) peer = length peer.objects ≡ 1
    HearsAt _ peer = IsTrue (reports_changes peer.protocol)

    module _ (input : ixl.Input) (connection : ℕ) (comes : MayComeWith site input connection network) (may : MayRunLinks (links site) (names_at site) (interlocking_events site table input connection world.interlocking) network) where
      abbrev IsBefore : Node → ClientState → Type 0
      IsBefore = talk.Before laws site table is_table input connection world network named s.whole timely are comes may s.talking.stands.clients s.talking.matching.clients s.talking.talk

      abbrev given_at : Node → List (List ℕ)
      given_at node = (network.ends (link_at site node)).server.given

      -- a client before the step
      record Before (node : Node) (client : ClientState) : Type 0 where
        is : IsBefore node client
        expected : EachIsExpected client.peer (seen (link_at site node) network)
        hears : HearsAt node client.peer

      -- with its link settled
      record Settled (node : Node) (client : ClientState) (calls : List LinkCall) : Type 0 where
        none : calls ≡ []
        there : IsNodeOf site node
        counts : ClockedStands now client
        asks : is_client client.link.identity.role ≡ true
        link_is : client.link ≡ link_of node
        talks : ClientTalks site node client (network.ends (link_at site node)).client.given (network.ends (link_at site node)).client.taken
        expected : EachIsExpected client.peer (seen (link_at site node) network)
        hears : HearsAt node client.peer

      -- and after each part
      abbrev Holds : Node → ClientState → List LinkCall → Type 0
      Holds node client calls = Each ByWindow calls

      settles : (node : Node) (client : ClientState) → Before node client → Settled node (clocked now client) []
      settles node client b = record {
        none = refl;
        there = b.is.there;
        counts = clocked_stands now client b.is.counts;
        asks = ap (λ (l : LinkState). is_client l.identity.role) (clocked_link now client ∙ b.is.link_is) ∙ b.is.asks;
        link_is = clocked_link now client ∙ b.is.link_is;
        talks = clocked_talks site node now client _ _ b.is.talks;
        expected = subst (λ (p : PeerState). EachIsExpected p (seen (link_at site node) network)) (sym (clocked_peer now client)) b.expected;
        hears = subst (HearsAt node) (sym (clocked_peer now client)) b.hears;
      }

      -- ---- a datagram

      module _ (node : Node) (bytes : List ℕ) (is_input : input ≡ ixl.Datagram bytes) (client : ClientState) (calls : List LinkCall) (c : Settled node client calls) where
        abbrev here : ℕ
        here = link_at site node

        below : here < links site
        below = link_below site node c.there

        clock_is : reading_of (network.ends here).client.clock ≡ now
        clock_is = let id = at_place (partners site) here (subst (λ (n : ℕ). here < n) (sym (partners_length site)) below) in ap reading_of (are.clients here id.0 id.1).clock_is

        may_come : May (names_at site here) (Calls Role.Client (ends.Receives bytes connection)) (seen here network)
        may_come = (subst (λ (b : Bool). MayRun (names_at site here) (if b then Calls Role.Client (ends.Receives bytes connection) ∷ [] else Elsewhere (length (sent_by Role.Client (ends.Receives bytes connection) (seen here network))) ∷ []) (seen here network)) (same_place here)
            (laws.each_link_sees_its_events_may_happen (links site) (names_at site) (CallsOn here Role.Client (ends.Receives bytes connection)) network named timely (below, comes bytes is_input here below) here below)).0

        abbrev items : List (List ℕ)
        items = (receiving now bytes client.link).items

        items_are : (receiving (reading_of (network.ends here).client.clock) bytes (network.ends here).client.link).items ≡ items
        items_are = ap (λ (n : ℕ). (receiving n bytes (link_of node)).items) clock_is ∙ ap (λ (l : LinkState). (receiving now bytes l).items) (sym c.link_is)

        abbrev GoesOn : List (List ℕ) → Type 0
        GoesOn list = (list ≡ []) ⊎ GoesOnInOne laws (names_at site here) (named.each here below) (seen here network) (timely.each here below) (s.ordered here below) bytes connection list

        goes_on : is_open client.link.phase ≡ true → GoesOn items
        goes_on opened = subst GoesOn items_are (of_client laws (names_at site here) (named.each here below) (seen here network) (timely.each here below) (s.ordered here below) bytes connection may_come
            (ap (λ (l : LinkState). is_open l.phase) (sym c.link_is) ∙ opened))

        hears_so : (n : Node) → HearsAt n client.peer → IsNodeOf site n → ClientHasSaid site n client.peer client.stage (length (network.ends (link_at site n)).client.taken) (network.ends (link_at site n)).client.given
            → (last : ℕ) → (network.ends (link_at site n)).client.connection ≡ Some last → (network.ends (link_at site n)).server.connection ≡ Some last
            → IsTrue (reports_changes client.peer.protocol) ⊎ IsFew client.peer (given_at n) client.stage (length (network.ends (link_at site n)).client.taken)
        hears_so (Signal place) hears there said last of_client_so of_server_so = inl hears
        hears_so (Point place) hears there said last of_client_so of_server_so = inr (few_at site place client.peer hears _ client.stage _ _ (no_more place there last of_client_so of_server_so) said)
        hears_so (Detector place) hears there said last of_client_so of_server_so = inl hears

        -- what comes goes on where the client stands
        next_at : is_open client.link.phase ≡ true → is_up (receiving now bytes client.link).link.phase ≡ true
            → GoesOnInOne laws (names_at site here) (named.each here below) (seen here network) (timely.each here below) (s.ordered here below) bytes connection items → ComesNext now bytes client
        next_at opened up on = record {
          up = up;
          given = given_at node;
          front = (network.ends here).client.taken;
          rest = on.on.rest;
          are = on.on.are;
          expected = c.expected on.last on.of_client on.of_server;
          stands = record {
            acted = c.talks.acted opened;
            begun = begun_of site node client.peer client.stage _ _ (c.talks.said opened);
            hears = hears_so node c.hears c.there (c.talks.said opened) on.last on.of_client on.of_server;
          };
        }

        comes_so : is_open (receiving now bytes client.link).link.phase ≡ true → (items ≡ []) ⊎ ComesNext now bytes client
        comes_so opened = let so = client_comes now bytes client c.counts c.asks opened in choose so.0 so.1 (goes_on so.0)
          where
            choose : is_open client.link.phase ≡ true → (items ≡ []) ⊎ (is_up (receiving now bytes client.link).link.phase ≡ true) → GoesOn items → (items ≡ []) ⊎ ComesNext now bytes client
            choose was (inl none) on = inl none
            choose was (inr up) (inl none) = inl none
            choose was (inr up) (inr on) = inr (next_at was up on)

        heard : (outbox : OutboxState) → Each ByWindow (calls ++ (hearing now bytes (begun client outbox)).calls)
        heard outbox = each_both ByWindow calls (hearing now bytes (begun client outbox)).calls (subst (Each ByWindow) (sym c.none) tt) (hearing_closes_none now bytes client outbox comes_so)

      -- ---- the step

      abbrev IsInput : List ℕ → Type 0
      IsInput bytes = input ≡ ixl.Datagram bytes

      abbrev Any : ℕ → Aspect → Type 0
      Any place aspect = Unit {0}

      keep : SoFarKeeps now Any IsInput Before Settled Holds
      keep = record {
        clock = settles;
        weaker = λ node client calls c. subst (Each ByWindow) (sym c.none) tt;
        hears = λ node bytes client outbox calls is_input c. heard node bytes is_input client calls c outbox;
        aspects = λ place aspect client outbox calls gives ready h. each_both ByWindow calls (commanding now (Command.Indicate aspect) (begun client outbox)).calls h (commanding_closes_none now (Command.Indicate aspect) client outbox);
        moves = λ place side client outbox calls available h. each_both ByWindow calls (commanding now (Command.Move side) (begun client outbox)).calls h (commanding_closes_none now (Command.Move side) client outbox);
        ticks = λ node client outbox calls h. each_both ByWindow calls (ticking now (begun client outbox)).calls h (ticking_closes_none now client outbox);
      }

      all_before : EachClient IsBefore world.interlocking.ixl
      all_before = talk.before laws site table is_table input connection world network named s.whole timely are comes may s.talking.stands.clients s.talking.matching.clients s.talking.talk

      before : EachClient Before world.interlocking.ixl
      before = record {
        signals = λ place known e. record {
          is = all_before.signals place known e;
          expected = each_signal laws site table station once is_table world network s place known e;
          hears = signal_changes laws site table station once is_table world network s place known e;
        };
        points = λ place known e. let entry = at_place site.points place (all_before.points place known e).there in record {
          is = all_before.points place known e;
          expected = each_point laws site table station once is_table world network s place known e;
          hears = ap (λ (p : PeerState). length p.objects) (s.talking.matching.clients.points place known e entry.0 entry.1);
        };
        detectors = λ place known e. record {
          is = all_before.detectors place known e;
          expected = each_detector laws site table station once is_table world network s place known e;
          hears = detector_changes laws site table station once is_table world network s place known e;
        };
      }

      abbrev done : StepSoFar
      done = interlocking_step site table input world.interlocking

      held : All now Any IsInput Before Settled Holds keep Holds done
      held = step_held now Any IsInput Before Settled Holds keep table (λ signal. tt) (λ number row e. tt) (key_of site) input (begun_with world.interlocking.ixl empty_outbox) (λ bytes e. e) refl before

      stays : Stays (begun_with world.interlocking.ixl empty_outbox) done
      stays = step_stays now table (key_of site) (begun_with world.interlocking.ixl empty_outbox) input

      -- at each node
      at_each : (node : Node) → IsNodeOf site node → Each ByWindow (at_node node done.calls)
      at_each (Signal place) below = let many = s.whole.clients.known_signals in let same = stays.signals in let known = at_place done.ixl.known_signals place (omega (arith, below, many, same)) in held.signals place known.0 known.1
      at_each (Point place) below = let many = s.whole.clients.known_points in let same = stays.points in let known = at_place done.ixl.known_points place (omega (arith, below, many, same)) in held.points place known.0 known.1
      at_each (Detector place) below = let many = s.whole.clients.detectors in let same = stays.detectors in let known = at_place done.ixl.detectors place (omega (arith, below, many, same)) in held.detectors place known.0 known.1

      called_nodes : AreOfNodes site done.calls
      called_nodes = laws.interlockings_call_their_nodes site table input connection world network named s.whole timely are comes

      one_leaves : (node : Node) (call : LinkCall) → ByWindow call → LeavesClientOpen (CallsOn (link_at site node) Role.Client (as_call connection call))
      one_leaves node Opens closes = tt
      one_leaves node Ticks closes = tt
      one_leaves node (Closes why) closes = closes
      one_leaves node (Sends item) closes = tt
      one_leaves node (Receives bytes) closes = tt

      all_leave : (calls : List (Node × LinkCall)) → Each (λ made. ByWindow made.1) calls → Each LeavesClientOpen (calls_of Role.Client (map (node_call site connection) calls))
      all_leave [] each = tt
      all_leave (first ∷ others) each = (one_leaves first.0 first.1 each.0, all_leave others each.1)

      pub step_leaves : Each LeavesClientOpen (interlocking_events site table input connection world.interlocking)
      step_leaves = all_leave done.calls (each_at_nodes site (λ node call. ByWindow call) done.calls called_nodes at_each)

    -- ---- an event

    abbrev Leaves : List LinksEvent → Type 0
    Leaves = Each LeavesClientOpen

    host_leaves : {Object : Type 0} (does : Behaviour Object) (input : HostInput) (connection link : ℕ) (found : Option (ClockedControllerState Object)) → Leaves (host_events does input connection link found)
    host_leaves does input connection link None = tt
    host_leaves does input connection link (Some c) = each (map (host_call connection) (step_of does input c).calls)
      where
        each : (calls : List Call) → Leaves (map (λ call. CallsOn link Role.Server call) calls)
        each [] = tt
        each (first ∷ others) = (tt, each others)

    contact_leaves : (found : Option (ℕ × ℕ)) (input : ℕ → HostInput) → Leaves (contact_events site found input world.detectors)
    contact_leaves None input = tt
    contact_leaves (Some reporter) input = host_leaves detection_behaviour (input reporter.1) 0 (detector_link site reporter.0) (slice_get world.detectors reporter.0)

    anew_leaves : {Entry : Type 0} (clock first link : ℕ) (found : Option Entry) → Leaves (anew_events clock first link found)
    anew_leaves clock first link None = tt
    anew_leaves clock first link (Some entry) = (tt, tt)

    restart_leaves : (clock first : ℕ) (at : Option nodes.Node) → Leaves (restart_events site clock first at)
    restart_leaves clock first None = tt
    restart_leaves clock first (Some nodes.Interlocking) = each (numbers_below (links site))
      where
        each : (numbers : List ℕ) → Leaves (restarts_of Role.Client clock (λ link. first) numbers)
        each [] = tt
        each (number ∷ others) = (tt, each others)
    restart_leaves clock first (Some (nodes.Signal place)) = anew_leaves clock first place (slice_get site.signals place)
    restart_leaves clock first (Some (nodes.Point place)) = anew_leaves clock first (point_link site place) (slice_get site.points place)
    restart_leaves clock first (Some (nodes.Detector place)) = anew_leaves clock first (detector_link site place) (slice_get site.detectors place)

    tick_leaves : (node : NodeId) (at : Option nodes.Node) → node_at site node.0 ≡ at → CanBe site table (Event.Tick node) world network → Leaves (tick_events site table at world)
    unfolding events_of
    tick_leaves node None e can = tt
    tick_leaves node (Some nodes.Interlocking) e can = step_leaves ixl.Tick 0 (none_comes site network ixl.Tick (λ bytes f. absurd (cc f))) (subst (λ (n : Option nodes.Node). MayRunLinks (links site) (names_at site) (tick_events site table n world) network) e can.follows.may)
    tick_leaves node (Some (nodes.Signal place)) e can = host_leaves signal_behaviour HostInput.Tick 0 place (slice_get world.signals place)
    tick_leaves node (Some (nodes.Point place)) e can = host_leaves point_behaviour HostInput.Tick 0 (point_link site place) (slice_get world.points place)
    tick_leaves node (Some (nodes.Detector place)) e can = host_leaves detection_behaviour HostInput.Tick 0 (detector_link site place) (slice_get world.detectors place)

    come_leaves : (node : NodeId) (bytes : List ℕ) (at : Option nodes.Node) → node_at site node.0 ≡ at → CanBe site table (Event.Deliver node bytes) world network → Leaves (delivery_events site table bytes (connection_of (copy_of bytes world)) at world)
    unfolding events_of
    come_leaves node bytes None e can = tt
    come_leaves node bytes (Some nodes.Interlocking) e can = step_leaves (ixl.Datagram bytes) (connection_of (copy_of bytes world))
        (one_comes site network bytes (connection_of (copy_of bytes world)) (laws.deliveries_may_come_links site node bytes world network are can.may))
        (subst (λ (n : Option nodes.Node). MayRunLinks (links site) (names_at site) (delivery_events site table bytes (connection_of (copy_of bytes world)) n world) network) e can.follows.may)
    come_leaves node bytes (Some (nodes.Signal place)) e can = host_leaves signal_behaviour (coming bytes) (connection_of (copy_of bytes world)) place (slice_get world.signals place)
    come_leaves node bytes (Some (nodes.Point place)) e can = host_leaves point_behaviour (coming bytes) (connection_of (copy_of bytes world)) (point_link site place) (slice_get world.points place)
    come_leaves node bytes (Some (nodes.Detector place)) e can = host_leaves detection_behaviour (coming bytes) (connection_of (copy_of bytes world)) (detector_link site place) (slice_get world.detectors place)

    pub event_leaves : (happening : Event) → CanBe site table happening world network → Leaves (events_of site table happening world)
    unfolding events_of
    event_leaves (Event.Request command) can = step_leaves (ixl.Commands command) 0 (none_comes site network (ixl.Commands command) (λ bytes f. absurd (cc f))) can.follows.may
    event_leaves (Event.Occupy section occupancy) can = contact_leaves (slice_get table.reporters section.0) (λ place. HostInput.Sense (Sense.Section place occupancy))
    event_leaves (Event.Tick node) can = tick_leaves node (node_at site node.0) refl can
    event_leaves (Event.Time elapsed clocks) can = (tt, tt)
    event_leaves (Event.Deliver node bytes) can = come_leaves node bytes (node_at site node.0) refl can
    event_leaves (Event.Lose bytes) can = (tt, tt)
    event_leaves (Event.Reach point position) can = host_leaves point_behaviour (HostInput.Sense (Sense.Position position)) 0 (point_link site point.0) (slice_get world.points point.0)
    event_leaves (Event.Restart node clock first) can = restart_leaves clock first (node_at site node.0)

  -- ---- every event

  pub stay_open : (world : WorldState) → IsReached site table world → (happening : Event) → refusal site happening world ≡ None → Each LeavesClientOpen (events_of site table happening world)
  stay_open world reached happening may = event_leaves world network named timely held.has.are held.holds happening can_be
    where
      held : HasHeld laws site table station once StandsSo (stands_first laws site table station once is_table) (stands_on laws site table station once is_table) world
      held = always_held laws site table station once StandsSo (stands_first laws site table station once is_table) (stands_on laws site table station once is_table) world reached

      network : Links
      network = links_in held.has

      named : AreLinks (links site) (names_at site)
      named = laws.layouts_name_their_links site station once

      timely : AreTimely (links site) (names_at site) network
      timely = laws.links_keep_time_run (links site) (names_at site) held.has.events (begun_links (names_at site) starts_at_zero) named (laws.links_keep_time_starts (links site) (names_at site) starts_at_zero named) held.has.may

      can_be : CanBe site table happening world network
      can_be = record {
        named = named;
        whole = held.holds.whole;
        timely = timely;
        are = held.has.are;
        may = may;
        follows = laws.events_are_those_of_the_links_exactly site table happening world network named held.holds.whole timely held.has.are may;
      }
