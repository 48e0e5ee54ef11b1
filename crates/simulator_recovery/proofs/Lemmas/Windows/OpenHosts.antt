-- No controller of a station closes its link, in any event after any list of events.
use Rattle.simulator_recovery.proofs.Words.Basics.{◌≡◌, ◌⊎◌, inl, inr, ℕ, ◌+◌, ◌<◌, ◌≤◌, ◌∙◌, Bool, true, false, List, [], ◌∷◌, ◌++◌, length, map, Option, Some, None, slice_get, refl, sym, ap, subst, arith, false≢true, length-append}
use Rattle.simulator_recovery.proofs.Words.Links.{receiving, settled, Each, AreTimely, Receives, reading_of, MayCall, Timely, AreLinks, CallsOn, Links, MayCallOn, begun, seen, AreNames, Names, NodeCall, calls_of, restarts_of, Receipt, Ends, IsSafe, LinkState, is_open, Role}
use Rattle.simulator_recovery.proofs.Words.Controllers.{as_call, reading, Behaviour, Closes, HostState, LinkCall, Sends, items_given, acting, acting_all, beginning, received, Input, Sense, Stage, SignalState, signal_behaviour, point_behaviour, PointState, detection_behaviour, Section}
use Rattle.simulator_recovery.proofs.Words.Interlockings.{IsTableOf, ClientState, Detector, Node, Point, Signal, Table}
use Rattle.simulator_recovery.proofs.Words.Stations.{Site, Once, IsStation, Event, step_of, coming, interlocking_step, AreLinksOf, names_at, starts_at_zero, connection_of, copy_of, detector_link, links, node_at, point_link, refusal, ClockedControllerState, WorldState, node_call, anew_events, contact_events, delivery_events, events_of, host_events, interlocking_events, numbers_below, restart_events, tick_events, links_in, IsReached}
use Rattle.simulator_recovery.proofs.Words.Recovery.{IsGivenTo, commanded, LeavesServerOpen, AreMatched, HostExpectsItem, HostGives, HostHasActedOn, GoOn, LawsBelow}
use Rattle.simulator_spec.specs.object_host.Host.{Ticks}
use Rattle.simulator_spec.specs.object_host.Host as hosts
use Rattle.simulator_spec.specs.ixl_client.declared.command.Command.{Command}
use Rattle.simulator_spec.specs.ixl_spec.Step as ixl
use Rattle.simulator_spec.specs.Nodes as nodes
use Rattle.simulator_recovery.proofs.Lemmas.Talk.AlwaysExpected.{Stands, stands_first, stands_on}
use Rattle.simulator_recovery.proofs.Lemmas.Talk.AlwaysFits.{acted_there, detector_fits, point_fits, refuses_none, signal_fits, was_open, none_waits}
use Rattle.simulator_recovery.proofs.Lemmas.Ground.SectionsEvents.{HasHeld, always_held}
use Rattle.simulator_recovery.proofs.Lemmas.Ground.AtLink.{of_second}
use Rattle.simulator_recovery.proofs.Lemmas.Talk.BothEnds.{DetectorJoined, Joined, PointJoined, SignalJoined, detector_joined, point_joined, signal_joined}
use Rattle.simulator_recovery.proofs.Lemmas.Talk.HostCounts.{risen_has}
use Rattle.simulator_recovery.proofs.Lemmas.Ground.HostKeeps.{ObjectKeeps}
use Rattle.simulator_recovery.proofs.Lemmas.Windows.HostOpen.{IsReady, StaysOpen, all_give, datagram_open, finds, receipt_matched, risen_link, risen_talks, sense_open, shut_acts, tick_open}
use Rattle.simulator_recovery.proofs.Lemmas.Ground.LinkCounts.{AfterReceipt, comes_in, receipt_counts, stays_in}
use Rattle.simulator_recovery.proofs.Lemmas.Ground.MatchedEnds.{spoken}
use Rattle.simulator_recovery.proofs.Lemmas.Talk.PointCounts as points
use Rattle.simulator_recovery.proofs.Lemmas.Talk.PointCounts.{Within, begins_so, waits, within_ever}
use Rattle.simulator_recovery.proofs.Lemmas.Links.NextItems.{goes_on}

-- ---- one link

module _ (laws : LawsBelow) (site : Site) (node : Node) {Object : Type 0} (does : Behaviour Object) (Fits : Object → Type 0) (own_name : List ℕ) (keep : ObjectKeeps does Fits (spoken site)) (c : ClockedControllerState Object) (client : ClientState) (names : Names) (ends : Ends)
    (j : Joined site node does Fits own_name keep c client names ends) (are_names : AreNames names) (timely : Timely names ends) (bytes : List ℕ) (connection : ℕ) (may : MayCall names Role.Server (Receives bytes connection) ends) where
  abbrev now : ℕ
  now = reading_of c.clock

  -- the host as the datagram finds it, and what it takes
  abbrev pub found : HostState Object
  found = beginning does now c.host

  abbrev receipt : Receipt
  receipt = receiving now bytes found.link

  abbrev pub rises : HostState Object
  rises = (received now bytes receipt found).host

  link_same : ends.server.link ≡ found.link
  link_same = j.link_is ∙ sym (finds does now c.host).link

  items_same : (receiving (reading_of ends.server.clock) bytes ends.server.link).items ≡ receipt.items
  items_same = ap (λ (n : ℕ). (receiving n bytes ends.server.link).items) (ap reading_of j.clock_is) ∙ ap (λ (l : LinkState). (receiving now bytes l).items) link_same

  -- what else its client's commands need, with all that is known of the two ends while the link is open
  module _ (More : ℕ → HostState Object → Type 0)
      (more : (in_connection : ℕ) → ends.client.connection ≡ Some in_connection → ends.server.connection ≡ Some in_connection → is_open ends.server.link.phase ≡ true → More (length ends.server.taken) rises)
      (fits : (count : ℕ) (host : HostState Object) → More count host → AreMatched does client.peer host → 2 ≤ count → (item : List ℕ) → slice_get ends.client.given count ≡ Some item → host.stage ≡ Stage.Completed → (command : Command) → IsGivenTo site node command
      → HostExpectsItem does now host (reading (commanded client.peer command)))
      (more_on : (count : ℕ) (item : List ℕ) (host : HostState Object) → More count host → (acting does now item (reading item) host).acted ≡ item ∷ [] → More (count + 1) (acting does now item (reading item) host).host) where
    abbrev Gives : Type 0
    Gives = Each HostGives (acting_all does now receipt.items rises).calls

    gives_none : receipt.items ≡ [] → Gives
    unfolding acting_all
    gives_none e = subst (λ (items : List (List ℕ)). Each HostGives (acting_all does now items rises).calls) (sym e) tt

    -- inside, it goes on where it stands
    inside_gives : is_open receipt.link.phase ≡ true → is_open ends.server.link.phase ≡ true → Gives
    unfolding received
    inside_gives opened_then opened = by_items (goes_on laws names are_names ends timely j.ordered bytes connection Role.Server may opened)
      where
        some : (in_connection : ℕ) × (ends.server.connection ≡ Some in_connection)
        some = laws.one_connection_some names ends Role.Server timely opened

        of_client : ends.client.connection ≡ Some some.0
        of_client = sym (laws.one_connection_server names ends timely opened) ∙ some.1

        at : HostState Object
        at = record found { link = receipt.link }

        stage_same : found.stage ≡ c.host.stage
        stage_same = (finds does now c.host).inside (ap (λ (l : LinkState). is_open l.phase) (sym j.link_is) ∙ opened)

        ready : IsReady does now laws.written_telegram_is_read site node client.peer j.is_peer (length ends.client.taken) ends.client.given j.talks.ever More fits more_on (length ends.server.taken) rises
        ready = record {
          matched = receipt_matched does now client.peer bytes c.host j.matched;
          acted = risen_has does now (length ends.server.taken) at (subst (λ (s : Stage). HostHasActedOn s (length ends.server.taken)) (sym stage_same)
              (acted_there laws site node does Fits own_name keep c client names ends j some.0 of_client some.1 opened));
          talks = risen_talks does now at opened_then (λ e. refuses_none laws site node does Fits own_name keep c client names ends j some.0 of_client some.1 opened (sym stage_same ∙ e));
          more = more some.0 of_client some.1 opened;
        }

        by_items : ((receiving (reading_of ends.server.clock) bytes ends.server.link).items ≡ []) ⊎ GoOn Role.Server ends (receiving (reading_of ends.server.clock) bytes ends.server.link).items → Gives
        by_items (inl none) = gives_none (sym items_same ∙ none)
        by_items (inr go) = all_give does now laws.written_telegram_is_read site node client.peer j.is_peer (length ends.client.taken) ends.client.given j.talks.ever More fits more_on receipt.items (length ends.server.taken) rises ready
            (λ k item e. ap (λ (list : List (List ℕ)). slice_get list (length ends.server.taken + k)) (go.are ∙ ap (λ (items : List (List ℕ)). ends.server.taken ++ (items ++ go.rest)) items_same)
            ∙ of_second ends.server.taken receipt.items go.rest (length ends.server.taken) k item refl e)

    -- one that enters a connection takes no item
    entering_gives : is_open receipt.link.phase ≡ true → is_open found.link.phase ≡ false → Gives
    entering_gives opened_then shut = by_receipt (receipt_counts now bytes 0 0 found.link opened_then (λ e. absurd (false≢true (sym shut ∙ e))))
      where
        by_receipt : AfterReceipt now bytes 0 0 found.link → Gives
        by_receipt (stays_in is_in counts up stays_up) = absurd (false≢true (sym shut ∙ is_in))
        by_receipt (comes_in was none counts) = gives_none none

    receipt_gives : Gives
    unfolding received
    receipt_gives = by_links (is_open receipt.link.phase) refl (is_open found.link.phase) refl
      where
        same_link : rises.link ≡ receipt.link
        same_link = risen_link does now (record found { link = receipt.link })

        by_links : (b : Bool) → is_open receipt.link.phase ≡ b → (d : Bool) → is_open found.link.phase ≡ d → Gives
        by_links false e d f = shut_acts does now receipt.items rises (ap (λ (l : LinkState). is_open l.phase) same_link ∙ e)
        by_links true e true f = inside_gives e (ap (λ (l : LinkState). is_open l.phase) link_same ∙ f)
        by_links true e false f = entering_gives e f

    pub receipt_open : Each StaysOpen (step_of does (coming bytes) c).calls
    receipt_open = datagram_open does now bytes c.host receipt_gives

-- ---- the calls of a step

all_open : (connection link : ℕ) (calls : List LinkCall) → Each StaysOpen calls → Each LeavesServerOpen (map (λ call. CallsOn link Role.Server call) (map (as_call connection) calls))
all_open connection link [] each = tt
all_open connection link (Ticks ∷ others) each = (tt, all_open connection link others each.1)
all_open connection link (Closes why ∷ others) each = absurd each.0
all_open connection link (Sends item ∷ others) each = (tt, all_open connection link others each.1)
all_open connection link (hosts.Receives bytes ∷ others) each = (tt, all_open connection link others each.1)

host_open : {Object : Type 0} (does : Behaviour Object) (input : Input) (connection link : ℕ) (found : Option (ClockedControllerState Object)) → ((c : ClockedControllerState Object) → found ≡ Some c → Each StaysOpen (step_of does input c).calls)
    → Each LeavesServerOpen (host_events does input connection link found)
host_open does input connection link None each = tt
host_open does input connection link (Some c) each = all_open connection link (step_of does input c).calls (each c refl)

clients_open : (calls : List NodeCall) → Each LeavesServerOpen (calls_of Role.Client calls)
clients_open [] = tt
clients_open (first ∷ others) = (tt, clients_open others)

clients_anew : (clock : ℕ) (firsts : ℕ → ℕ) (numbers : List ℕ) → Each LeavesServerOpen (restarts_of Role.Client clock firsts numbers)
clients_anew clock firsts [] = tt
clients_anew clock firsts (first ∷ others) = (tt, clients_anew clock firsts others)

anew_open : {Entry : Type 0} (clock first link : ℕ) (found : Option Entry) → Each LeavesServerOpen (anew_events clock first link found)
anew_open clock first link None = tt
anew_open clock first link (Some entry) = (tt, tt)

-- ---- a station

-- what a point's host has given in the middle of its step, of which its client has taken so much
record Counts (taken count : ℕ) (host : HostState PointState) : Type 0 where
  given : ℕ
  within : Within host.stage given count (waits host.object)
  some : taken ≤ given

module _ (laws : LawsBelow) (site : Site) (table : Table) (station : IsStation site) (once : Once site) (is_table : IsTableOf site table) (world : WorldState) (network : Links) (are : AreLinksOf site world network)
    (s : Stands laws site table station once is_table world network) (named : AreLinks (links site) (names_at site)) (timely : AreTimely (links site) (names_at site) network) where
  interlocking_open : (input : ixl.Input) (connection : ℕ) → Each LeavesServerOpen (interlocking_events site table input connection world.interlocking)
  interlocking_open input connection = clients_open (map (node_call site connection) (interlocking_step site table input world.interlocking).calls)

  -- a datagram that may come to each link
  module _ (bytes : List ℕ) (connection : ℕ) (may : (link : ℕ) → MayCallOn (names_at site link) (Receives bytes connection) network) where
    may_call : (link : ℕ) → link < links site → MayCall (names_at site link) Role.Server (Receives bytes connection) (seen link network)
    may_call link below = laws.deliveries_may_come_ends site Role.Server bytes connection network named timely link below (may link)

    signal_open : (place : ℕ) (c : ClockedControllerState SignalState) → slice_get world.signals place ≡ Some c → Each StaysOpen (step_of signal_behaviour (coming bytes) c).calls
    signal_open place c g = receipt_open laws site (Signal place) signal_behaviour _ k.entry.name _ c k.known.client (names_at site place) (seen place network) k.joined (named.each place k.below) (timely.each place k.below) bytes connection (may_call place k.below)
        (λ count host. Unit {0}) (λ in_connection of_client of_server opened. tt)
        (λ count host more matched far item at completed. signal_fits laws.written_telegram_is_read site place k.known.client.peer host k.joined.is_peer matched (matched.version ∙ sym version_is) completed (reading_of c.clock)) (λ count item host more acts. tt)
      where
        k : SignalJoined laws site table station once is_table world network are s place c
        k = signal_joined laws site table station once is_table world network are s place c g

        version_is : spoken site ≡ k.known.client.peer.version
        version_is = sym k.joined.tells.kept_so.version_is ∙ k.joined.matched.version

    point_open : (place : ℕ) (c : ClockedControllerState PointState) → slice_get world.points place ≡ Some c → Each StaysOpen (step_of point_behaviour (coming bytes) c).calls
    point_open place c g = receipt_open laws site (Point place) point_behaviour _ k.entry.name _ c k.known.client (names_at site (point_link site place)) ends k.joined (named.each (point_link site place) k.below) (timely.each (point_link site place) k.below)
        bytes connection (may_call (point_link site place) k.below) (Counts (length ends.client.taken)) counts_first
        (λ count host more matched far item at completed. point_fits laws.written_telegram_is_read site place k.known.client.peer host k.joined.is_peer matched
        (none_waits site place k.known.client.peer (length ends.client.taken) ends.client.given k.joined.talks.ever k.one count more.given (waits host.object) far more.some (within_ever host.stage more.given count (waits host.object) more.within) item at)
        completed (reading_of c.clock)) counts_on
      where
        ends : Ends
        ends = seen (point_link site place) network

        now : ℕ
        now = reading_of c.clock

        k : PointJoined laws site table station once is_table world network are s place c
        k = point_joined laws site table station once is_table world network are s place c g

        counts_on : (count : ℕ) (item : List ℕ) (host : HostState PointState) → Counts (length ends.client.taken) count host → (acting point_behaviour now item (reading item) host).acted ≡ item ∷ [] → Counts (length ends.client.taken) (count + 1) (acting point_behaviour now item (reading item) host).host
        counts_on count item host more acts = record {
          given = more.given + length (items_given now (acting point_behaviour now item (reading item) host).calls host.link);
          within = subst (λ (l : List (List ℕ)). Within (acting point_behaviour now item (reading item) host).host.stage (more.given + length (items_given now (acting point_behaviour now item (reading item) host).calls host.link)) (count + length l)
              (waits (acting point_behaviour now item (reading item) host).host.object)) acts (points.acts now more.given count item (reading item) host more.within).within;
          some = let few = more.some in omega (arith, few);
        }

        counts_first : (in_connection : ℕ) → ends.client.connection ≡ Some in_connection → ends.server.connection ≡ Some in_connection → is_open ends.server.link.phase ≡ true
            → Counts (length ends.client.taken) (length ends.server.taken) (received now bytes (receiving now bytes (beginning point_behaviour now c.host).link) (beginning point_behaviour now c.host)).host
        counts_first in_connection of_client of_server opened = record {
          given = length ends.server.given;
          within = risen_received (begins_so now c.host) ((s.answering.of_points place c g).inside (was_open laws site (Point place) point_behaviour _ k.entry.name _ c k.known.client (names_at site (point_link site place)) ends k.joined opened).1);
          some = let all = ap length safe.beginning ∙ length-append ends.client.taken safe.rest in omega (arith, all);
        }
          where
            safe : IsSafe ends.server ends.client
            safe = (laws.order_is_safe (names_at site (point_link site place)) ends k.joined.ordered in_connection of_client of_server).1

            open_so : is_open (settled now c.host.link).phase ≡ true
            open_so = ap (λ (l : LinkState). is_open l.phase) (sym k.joined.link_is) ∙ opened

            risen_received : points.IsFoundSo now c.host (beginning point_behaviour now c.host) → Within c.host.stage (length ends.server.given) (length ends.server.taken) (waits c.host.object)
                → Within (received now bytes (receiving now bytes (beginning point_behaviour now c.host).link) (beginning point_behaviour now c.host)).host.stage (length ends.server.given) (length ends.server.taken)
                (waits (received now bytes (receiving now bytes (beginning point_behaviour now c.host).link) (beginning point_behaviour now c.host)).host.object)
            risen_received b within = points.received_within now (length ends.server.given) (length ends.server.taken) bytes (beginning point_behaviour now c.host)
                (subst (λ (x : Stage). Within x (length ends.server.given) (length ends.server.taken) (waits (beginning point_behaviour now c.host).object)) (sym (b.inside open_so).0)
                (subst (λ (n : ℕ). Within c.host.stage (length ends.server.given) (length ends.server.taken) n) (sym (b.inside open_so).1) within))

    detector_open : (place : ℕ) (c : ClockedControllerState (List Section)) → slice_get world.detectors place ≡ Some c → Each StaysOpen (step_of detection_behaviour (coming bytes) c).calls
    detector_open place c g = receipt_open laws site (Detector place) detection_behaviour _ k.entry.name _ c k.known.client (names_at site (detector_link site place)) (seen (detector_link site place) network) k.joined
        (named.each (detector_link site place) k.below) (timely.each (detector_link site place) k.below) bytes connection (may_call (detector_link site place) k.below)
        (λ count host. Unit {0}) (λ in_connection of_client of_server opened. tt) (λ count host more matched far item at completed. detector_fits site place k.known.client.peer host (reading_of c.clock)) (λ count item host more acts. tt)
      where
        k : DetectorJoined laws site table station once is_table world network are s place c
        k = detector_joined laws site table station once is_table world network are s place c g

    comes_open : (node : Option nodes.Node) → Each LeavesServerOpen (delivery_events site table bytes connection node world)
    comes_open None = tt
    comes_open (Some nodes.Interlocking) = interlocking_open (ixl.Datagram bytes) connection
    comes_open (Some (nodes.Signal place)) = host_open signal_behaviour (coming bytes) connection place (slice_get world.signals place) (signal_open place)
    comes_open (Some (nodes.Point place)) = host_open point_behaviour (coming bytes) connection (point_link site place) (slice_get world.points place) (point_open place)
    comes_open (Some (nodes.Detector place)) = host_open detection_behaviour (coming bytes) connection (detector_link site place) (slice_get world.detectors place) (detector_open place)

  ticks_open : (node : Option nodes.Node) → Each LeavesServerOpen (tick_events site table node world)
  ticks_open None = tt
  ticks_open (Some nodes.Interlocking) = interlocking_open ixl.Tick 0
  ticks_open (Some (nodes.Signal place)) = host_open signal_behaviour Input.Tick 0 place (slice_get world.signals place) (λ c e. tick_open signal_behaviour (reading_of c.clock) c.host)
  ticks_open (Some (nodes.Point place)) = host_open point_behaviour Input.Tick 0 (point_link site place) (slice_get world.points place) (λ c e. tick_open point_behaviour (reading_of c.clock) c.host)
  ticks_open (Some (nodes.Detector place)) = host_open detection_behaviour Input.Tick 0 (detector_link site place) (slice_get world.detectors place) (λ c e. tick_open detection_behaviour (reading_of c.clock) c.host)

  contacts_open : (reporter : Option (ℕ × ℕ)) (contact : ℕ → Sense) → Each LeavesServerOpen (contact_events site reporter (λ place. Input.Sense (contact place)) world.detectors)
  contacts_open None contact = tt
  contacts_open (Some reporter) contact = host_open detection_behaviour (Input.Sense (contact reporter.1)) 0 (detector_link site reporter.0) (slice_get world.detectors reporter.0) (λ c e. sense_open detection_behaviour (reading_of c.clock) (contact reporter.1) c.host)

  restarts_open : (clock first : ℕ) (node : Option nodes.Node) → Each LeavesServerOpen (restart_events site clock first node)
  restarts_open clock first None = tt
  restarts_open clock first (Some nodes.Interlocking) = clients_anew clock (λ link. first) (numbers_below (links site))
  restarts_open clock first (Some (nodes.Signal place)) = anew_open clock first place (slice_get site.signals place)
  restarts_open clock first (Some (nodes.Point place)) = anew_open clock first (point_link site place) (slice_get site.points place)
  restarts_open clock first (Some (nodes.Detector place)) = anew_open clock first (detector_link site place) (slice_get site.detectors place)

  pub event_open : (happening : Event) → refusal site happening world ≡ None → Each LeavesServerOpen (events_of site table happening world)
  unfolding events_of
  event_open (Event.Request command) can = interlocking_open (ixl.Commands command) 0
  event_open (Event.Occupy section occupancy) can = contacts_open (slice_get table.reporters section.0) (λ place. Sense.Section place occupancy)
  event_open (Event.Tick node) can = ticks_open (node_at site node.0)
  event_open (Event.Time elapsed clocks) can = (tt, tt)
  event_open (Event.Deliver node bytes) can = comes_open bytes (connection_of (copy_of bytes world)) (laws.deliveries_may_come_links site node bytes world network are can) (node_at site node.0)
  event_open (Event.Lose bytes) can = (tt, tt)
  event_open (Event.Reach point position) can = host_open point_behaviour (Input.Sense (Sense.Position position)) 0 (point_link site point.0) (slice_get world.points point.0) (λ c e. sense_open point_behaviour (reading_of c.clock) (Sense.Position position) c.host)
  event_open (Event.Restart node clock first) can = restarts_open clock first (node_at site node.0)

module _ (laws : LawsBelow) (site : Site) (table : Table) (station : IsStation site) (once : Once site) (is_table : IsTableOf site table) where
  pub close_none : (world : WorldState) → IsReached site table world → (happening : Event) → refusal site happening world ≡ None → Each LeavesServerOpen (events_of site table happening world)
  close_none world reached = event_open laws site table station once is_table world (links_in held.has) held.has.are held.holds named
      (laws.links_keep_time_run (links site) (names_at site) held.has.events (begun (names_at site) starts_at_zero) named (laws.links_keep_time_starts (links site) (names_at site) starts_at_zero named) held.has.may)
    where
      named : AreLinks (links site) (names_at site)
      named = laws.layouts_name_their_links site station once

      held : HasHeld laws site table station once (Stands laws site table station once is_table) (stands_first laws site table station once is_table) (stands_on laws site table station once is_table) world
      held = always_held laws site table station once (Stands laws site table station once is_table) (stands_first laws site table station once is_table) (stands_on laws site table station once is_table) world reached
