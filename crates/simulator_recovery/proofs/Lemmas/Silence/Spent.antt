-- A controller's connection over a list of events in which it takes nothing that was made later.
use Rattle.simulator_recovery.proofs.Words.Basics.{◌≡◌, ℕ, zero, suc, ◌+◌, ◌<◌, ◌≤◌, Bool, true, false, ◌&&◌, nat_le, List, [], ◌∷◌, length, Option, Some, None, slice_get, refl, sym, ap, subst, ◌∙◌, arith, if◌then◌else◌, none-some}
use Rattle.simulator_recovery.proofs.Words.Links.{created, deadline, settled, AreTimely, reading_of, AreLinks, Links, begun, run_links, run_on, seen, LinkState, is_open, Phase}
use Rattle.simulator_recovery.proofs.Words.Controllers.{SignalState, PointState}
use Rattle.simulator_recovery.proofs.Words.Interlockings.{Table}
use Rattle.simulator_recovery.proofs.Words.Stations.{Site, Once, IsStation, Event, NodeId, IsOutsetOf, Outset, world_at, happens, AreLinksOf, names_at, starts_at_zero, connection_of, copy_of, Node, Interlocking, Detector, links, node_at, point_link, refusal, CanHappen, after_all, ClockedControllerState, WorldState, events_of, IsEndOfServer, IsWhole}
use Rattle.simulator_recovery.proofs.Words.Recovery.{IsSpent, TakesNone, TakesNoneLater, LawsBelow}
use Rattle.simulator_spec.specs.Nodes.{Signal, Point}
use Rattle.simulator_recovery.proofs.Lemmas.Silence.Network.{ServerIsOfThen, all_kept}
use Rattle.simulator_recovery.proofs.Lemmas.Silence.Fresh.{is_inside, own_stamp_in}
use Rattle.simulator_recovery.proofs.Lemmas.Silence.World.{HeardAt, HeardIn, deliverable, event_hears, hears_by}

-- the laws that this stands on
pub within_some : {A : Type 0} (list : List A) (place : ℕ) (one : A) → slice_get list place ≡ Some one → place < length list
within_some [] place one is = absurd (none-some one is)
within_some (first ∷ others) zero one is = omega arith
within_some (first ∷ others) (suc place) one is = let h = within_some others place one is in omega arith

pub settled_taken : (now : ℕ) (l : LinkState) → (settled now l).taken ≡ l.taken
unfolding settled
settled_taken now l = choose (is_open l.phase && nat_le (deadline l) now)
  where
    choose : (b : Bool) → (if b then record l { phase = Phase.Closed; closed_at = deadline l; clock = now } else record l { clock = now }).taken ≡ l.taken
    choose true = refl
    choose false = refl

module _ (laws : LawsBelow) (site : Site) (table : Table) (station : IsStation site) (once : Once site) where
  abbrev are_links : AreLinks (links site) (names_at site)
  are_links = laws.layouts_name_their_links site station once

  -- a world with its links, as they always are
  record IsLinked (world : WorldState) (network : Links) : Type 0 where
    are : AreLinksOf site world network
    whole : IsWhole site world
    timely : AreTimely (links site) (names_at site) network

  record IsCarried (made link : ℕ) (world : WorldState) (network : Links) : Type 0 where
    linked : IsLinked world network
    kept : ServerIsOfThen made (seen link network)

  -- ---- what the controller of a link hears in an event

  module _ (made : ℕ) (world : WorldState) (network : Links) (is : IsLinked world network) where
    -- of a signal

    module _ (place : ℕ) (below : place < length site.signals) (bytes : List ℕ) (node : NodeId) (takes : TakesNoneLater site (Signal place) made (Event.Deliver node bytes) world)
        (none : refusal site (Event.Deliver node bytes) world ≡ None) where
      within : place < links site
      within = omega (arith, below)

      signal_heard : (at : Option Node) → node_at site node.0 ≡ at → HeardAt laws.each_link_sees_its_events_event laws site table place made network world bytes (connection_of (copy_of bytes world)) at
      signal_heard None at = tt
      signal_heard (Some Interlocking) at = tt
      signal_heard (Some (Signal other)) at = λ controller there e.
          let here : slice_get world.signals place ≡ Some controller = ap (slice_get world.signals) (sym e) ∙ there
          in let end = laws.ends_are_those_of_the_nodes_signal site world network is.whole is.are place controller here
          in hears_by laws site are_links world network is.are is.timely place made within controller bytes end.1 (deliverable site node bytes world none)
          (λ taken. takes (at ∙ ap (λ (n : ℕ). Some (Signal n)) e) (controller, here, taken))
      signal_heard (Some (Point other)) at = λ controller there e. absurd (omega (arith, e, below))
      signal_heard (Some (Detector other)) at = λ controller there e. absurd (omega (arith, e, below))

    -- of a point

    module _ (place : ℕ) (below : place < length site.points) (bytes : List ℕ) (node : NodeId) (takes : TakesNoneLater site (Point place) made (Event.Deliver node bytes) world)
        (none : refusal site (Event.Deliver node bytes) world ≡ None) where
      within_points : point_link site place < links site
      within_points = omega (arith, below)

      point_heard : (at : Option Node) → node_at site node.0 ≡ at → HeardAt laws.each_link_sees_its_events_event laws site table (point_link site place) made network world bytes (connection_of (copy_of bytes world)) at
      point_heard None at = tt
      point_heard (Some Interlocking) at = tt
      point_heard (Some (Signal other)) at = λ controller there e.
          let inside = within_some world.signals other controller there
          in let count = is.whole.signals
          in absurd (omega (arith, e, inside, count))
      point_heard (Some (Point other)) at = λ controller there e.
          let same : other ≡ place = omega (arith, e)
          in let here : slice_get world.points place ≡ Some controller = ap (slice_get world.points) (sym same) ∙ there
          in let end = laws.ends_are_those_of_the_nodes_point site world network is.whole is.are place controller here
          in hears_by laws site are_links world network is.are is.timely (point_link site place) made within_points controller bytes end.1 (deliverable site node bytes world none)
          (λ taken. takes (at ∙ ap (λ (n : ℕ). Some (Point n)) same) (controller, here, taken))
      point_heard (Some (Detector other)) at = λ controller there e. absurd (omega (arith, e, below))

    signal_hears : (place : ℕ) → place < length site.signals → (happening : Event) → refusal site happening world ≡ None → TakesNoneLater site (Signal place) made happening world
        → HeardIn laws.each_link_sees_its_events_event laws site table place made network world happening
    signal_hears place below (Event.Deliver node bytes) none takes = signal_heard place below bytes node takes none (node_at site node.0) refl
    signal_hears place below (Event.Request command) none takes = tt
    signal_hears place below (Event.Occupy section occupancy) none takes = tt
    signal_hears place below (Event.Tick node) none takes = tt
    signal_hears place below (Event.Time elapsed clocks) none takes = tt
    signal_hears place below (Event.Lose bytes) none takes = tt
    signal_hears place below (Event.Reach point position) none takes = tt
    signal_hears place below (Event.Restart node clock first) none takes = tt

    point_hears : (place : ℕ) → place < length site.points → (happening : Event) → refusal site happening world ≡ None → TakesNoneLater site (Point place) made happening world
        → HeardIn laws.each_link_sees_its_events_event laws site table (point_link site place) made network world happening
    point_hears place below (Event.Deliver node bytes) none takes = point_heard place below bytes node takes none (node_at site node.0) refl
    point_hears place below (Event.Request command) none takes = tt
    point_hears place below (Event.Occupy section occupancy) none takes = tt
    point_hears place below (Event.Tick node) none takes = tt
    point_hears place below (Event.Time elapsed clocks) none takes = tt
    point_hears place below (Event.Lose bytes) none takes = tt
    point_hears place below (Event.Reach point position) none takes = tt
    point_hears place below (Event.Restart node clock first) none takes = tt

  -- ---- a list of events

  module _ (who : Node) (made link : ℕ) (within : link < links site)
      (hears : (world : WorldState) (network : Links) → IsLinked world network → (happening : Event) → refusal site happening world ≡ None → TakesNoneLater site who made happening world
      → HeardIn laws.each_link_sees_its_events_event laws site table link made network world happening) where
    one_carried : (happening : Event) (world : WorldState) (network : Links) → IsCarried made link world network → refusal site happening world ≡ None → TakesNoneLater site who made happening world
        → IsCarried made link (happens site table happening world) (run_links (events_of site table happening world) network)
    one_carried happening world network is none takes =
        let by = laws.events_are_those_of_the_links_exactly site table happening world network are_links is.linked.whole is.linked.timely is.linked.are none
        in record {
          linked = record {
            are = by.are;
            whole = laws.events_are_those_of_the_links_whole site table happening world network are_links station is.linked.whole is.linked.timely is.linked.are none;
            timely = laws.links_keep_time_run (links site) (names_at site) (events_of site table happening world) network are_links is.linked.timely by.may;
          };
          kept = subst (ServerIsOfThen made) (sym (laws.each_link_sees_its_events_run link (events_of site table happening world) network))
              (all_kept laws.own_connection made (names_at site link) (are_links.each link within) (λ one ends. laws.every_event_keeps_time (names_at site link) one ends (are_links.each link within))
              (run_on link (events_of site table happening world) network) (seen link network) (is.linked.timely.each link within) is.kept
              (laws.each_link_sees_its_events_may_run (links site) (names_at site) (events_of site table happening world) network are_links is.linked.timely by.may link within)
              (event_hears laws.each_link_sees_its_events_event laws site table link made network world happening (hears world network is.linked happening none takes)));
        }

    carried : (events : List Event) (world : WorldState) (network : Links) → IsCarried made link world network → CanHappen site table events world → TakesNone site table who made events world
        → (last : Links) × IsCarried made link (after_all site table events world) last
    carried [] world network is can takes = (network, is)
    carried (first ∷ others) world network is can takes =
        carried others (happens site table first world) (run_links (events_of site table first world) network) (one_carried first world network is can.0 takes.0) can.1 takes.1

    module _ (outset : Outset) (lies : IsOutsetOf site outset) where
      begins_so : ServerIsOfThen made (seen link (begun (names_at site) starts_at_zero))
      unfolding created
      begins_so = λ opened some. absurd (cc opened)

      from_first : (events : List Event) → CanHappen site table events (world_at site table outset) → TakesNone site table who made events (world_at site table outset)
          → (last : Links) × IsCarried made link (after_all site table events (world_at site table outset)) last
      from_first events = carried events (world_at site table outset) (begun (names_at site) starts_at_zero) (record {
        linked = record {
          are = laws.a_station_begins_its_links site table outset lies;
          whole = (laws.stations_have_links_first site table outset station lies).whole;
          timely = laws.links_keep_time_starts (links site) (names_at site) starts_at_zero are_links;
        };
        kept = begins_so;
      })

    -- ---- after it

    spent : {Object : Type 0} (world : WorldState) (network : Links) → IsCarried made link world network → made + 1802000 ≤ world.time → (controller : ClockedControllerState Object)
        → IsEndOfServer controller (network.ends link).server → IsSpent controller
    spent world network is late controller end opened = none (network.ends link).server.link.taken refl
      where
        l : LinkState
        l = (network.ends link).server.link

        opened_there : is_open l.phase ≡ true
        opened_there = ap (λ (k : LinkState). is_open k.phase) end.link_is ∙ opened

        count : l.taken ≡ controller.host.link.taken
        count = ap (λ (k : LinkState). k.taken) end.link_is ∙ settled_taken (reading_of controller.clock) controller.host.link

        none : (n : ℕ) → l.taken ≡ n → controller.host.link.taken ≡ 0
        none zero e = sym count ∙ e
        none (suc n) e =
            let read = is.kept opened_there (omega (arith, e))
            in let young = (is.linked.timely.each link within).ends_timed.server.young (is_inside l opened_there)
            in let stamp = own_stamp_in l opened_there
            in let time = is.linked.are.time_is
            in absurd (omega (arith, read, young, stamp, time, late))

  -- ---- signals and points

  pub signal_spent : (outset : Outset) (events : List Event) (place made : ℕ) (signal : ClockedControllerState SignalState) → IsOutsetOf site outset → CanHappen site table events (world_at site table outset)
      → TakesNone site table (Signal place) made events (world_at site table outset) → made + 1802000 ≤ (after_all site table events (world_at site table outset)).time
      → slice_get (after_all site table events (world_at site table outset)).signals place ≡ Some signal → IsSpent signal
  signal_spent outset events place made signal lies can takes late there =
      let whole = (laws.stations_have_links_run site table outset events station once lies can).whole
      in let inside = within_some (after_all site table events (world_at site table outset)).signals place signal there
      in let count = whole.signals
      in let below : place < length site.signals = omega (arith, inside, count)
      in let within : place < links site = omega (arith, below)
      in let last = from_first (Signal place) made place within (λ world network is. signal_hears made world network is place below) outset lies events can takes
      in spent (Signal place) made place within (λ world network is. signal_hears made world network is place below) (after_all site table events (world_at site table outset)) last.0 last.1 late signal
      (laws.ends_are_those_of_the_nodes_signal site (after_all site table events (world_at site table outset)) last.0 last.1.linked.whole last.1.linked.are place signal there).1

  pub point_spent : (outset : Outset) (events : List Event) (place made : ℕ) (point : ClockedControllerState PointState) → IsOutsetOf site outset → CanHappen site table events (world_at site table outset)
      → TakesNone site table (Point place) made events (world_at site table outset) → made + 1802000 ≤ (after_all site table events (world_at site table outset)).time
      → slice_get (after_all site table events (world_at site table outset)).points place ≡ Some point → IsSpent point
  point_spent outset events place made point lies can takes late there =
      let whole = (laws.stations_have_links_run site table outset events station once lies can).whole
      in let inside = within_some (after_all site table events (world_at site table outset)).points place point there
      in let count = whole.points
      in let below : place < length site.points = omega (arith, inside, count)
      in let within : point_link site place < links site = omega (arith, below)
      in let last = from_first (Point place) made (point_link site place) within (λ world network is. point_hears made world network is place below) outset lies events can takes
      in spent (Point place) made (point_link site place) within (λ world network is. point_hears made world network is place below) (after_all site table events (world_at site table outset)) last.0 last.1 late point
      (laws.ends_are_those_of_the_nodes_point site (after_all site table events (world_at site table outset)) last.0 last.1.linked.whole last.1.linked.are place point there).1

pub settled_given : (now : ℕ) (l : LinkState) → (settled now l).given ≡ l.given
unfolding settled
settled_given now l = choose (is_open l.phase && nat_le (deadline l) now)
  where
    choose : (b : Bool) → (if b then record l { phase = Phase.Closed; closed_at = deadline l; clock = now } else record l { clock = now }).given ≡ l.given
    choose true = refl
    choose false = refl
