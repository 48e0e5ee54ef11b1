-- The windows of a station's points, event by event.
use Rattle.simulator_recovery.proofs.Words.Basics.{◌≡◌, ◌⊎◌, inl, inr, ℕ, ◌∙◌, ◌+◌, ◌<◌, ◌≤◌, Bool, true, false, List, [], ◌∷◌, ◌++◌, length, map, Option, Some, None, slice_get, refl, sym, ap, subst, arith, false≢true, length-append}
use Rattle.simulator_recovery.proofs.Words.Links.{Answers, created, receiving, Each, AreTimely, Receives, end_after, entered_by, kept, outcome, reading_of, Calls, May, happened, AreLinks, Links, MayRunLinks, begun, run_links, seen, AreNames, Names, window_size, Ends, called, LinkState, is_client, is_open, Role}
use Rattle.simulator_recovery.proofs.Words.Controllers.{Aspect, PointState}
use Rattle.simulator_recovery.proofs.Words.Interlockings.{IsTableOf, ClientState, LinkCall, KnownPointState, Node, Point, begun_with, empty_outbox, Table}
use Rattle.simulator_recovery.proofs.Words.Stations.{Site, Once, IsStation, Event, Beginning, IsOutsetOf, Outset, at_zero, new_ixl, new_known_point_of, world_at, happens, interlocking_step, AreLinksOf, names_at, starts_at_zero, key_of, links, partners, point_link, refusal, ClockedControllerState, WorldState, events_of, interlocking_events, links_in, MayComeWith, HasClients, IsWhole, IsReached}
use Rattle.simulator_recovery.proofs.Words.Recovery.{ClientSaid, asked, checked, commanded, nothing, EachClient, FillsNoWindowOn, LawsBelow}
use Rattle.simulator_spec.specs.ixl_spec.Step as ixl
use Rattle.simulator_recovery.proofs.Lemmas.Ground.ClientItem.{partners_length}
use Rattle.simulator_recovery.proofs.Lemmas.Talk.AlwaysExpected.{Stands, gives_no_more, stands_first, stands_on}
use Rattle.simulator_recovery.proofs.Lemmas.Ground.SectionsEvents.{CanBe, HasHeld, always_held}
use Rattle.simulator_recovery.proofs.Lemmas.Talk.ClientLinks.{up_open}
use Rattle.simulator_recovery.proofs.Lemmas.Windows.EachThrough.{each_through}
use Rattle.simulator_recovery.proofs.Lemmas.Windows.FewItems.{GivesFew, LeavesWindow, new_client_few}
use Rattle.simulator_recovery.proofs.Lemmas.Ground.IxlClients.{mapped_at}
use Rattle.simulator_recovery.proofs.Lemmas.Ground.IxlSoFar.{All, at_node, step_held}
use Rattle.simulator_recovery.proofs.Lemmas.Ground.EndCalls.{at_place, map_length}
use Rattle.simulator_recovery.proofs.Lemmas.Windows.PointConfirms.{Good, Guarded, count_none, quiet_guards}
use Rattle.simulator_recovery.proofs.Lemmas.Windows.PointEvents.{by_event}
use Rattle.simulator_recovery.proofs.Lemmas.Windows.PointStep.{AnyAspect, BeforeAt, Comes, HoldsAt, SettledAt, points_keep}
use Rattle.simulator_recovery.proofs.Lemmas.Windows.PointTally.{Tally}
use Rattle.simulator_recovery.proofs.Lemmas.Talk.StationTalk.{Before, before, gave, stays_shut, took}
use Rattle.simulator_recovery.proofs.Lemmas.Windows.WindowEvents.{event_leaves}

-- ---- one link

module _ (laws : LawsBelow) (names : Names) (are : AreNames names) where
  abbrev HasFew : Ends → Type 0
  HasFew ends = Tally 6 ends.client.link ends.client.given ends.client.taken

  tally_of : (ends : Ends) → Guarded names 2 4 ends → HasFew ends
  tally_of ends g up = by_server (is_open ends.server.link.phase) refl
    where
      opened : is_open ends.client.link.phase ≡ true
      opened = up_open ends.client.link.phase up

      same : ends.server.connection ≡ ends.client.connection
      same = laws.one_connection_up names ends g.timely up

      by_server : (b : Bool) → is_open ends.server.link.phase ≡ b → length ends.client.taken + length ends.client.link.waiting ≤ length ends.client.given + 6
      by_server true e = let f = laws.what_is_taken_confirms_few names ends 2 g.confirming (record { client = opened; server = e }) in omega (arith, f)
      by_server false e =
          let left = g.left (record { client = opened; server = e; same = same })
          in let one = laws.one_connection_some names ends Role.Client g.timely opened
          in let safe = (laws.order_is_safe names ends g.ordered one.0 one.1 (same ∙ one.1)).1
          in let taken = ap length safe.beginning ∙ length-append ends.client.taken safe.rest
          in omega (arith, left, taken)

  received_of : (ends : Ends) → Guarded names 2 4 ends → Answers 2 ends → (bytes : List ℕ) (connection : ℕ) → May names (Calls Role.Client (Receives bytes connection)) ends → is_client ends.client.link.identity.role ≡ true
      → Tally 6 (receiving (reading_of ends.client.clock) bytes ends.client.link).link ends.client.given (ends.client.taken ++ (receiving (reading_of ends.client.clock) bytes ends.client.link).items)
  unfolding called outcome end_after
  received_of ends g answers bytes connection may asks up = by_open (is_open ends.client.link.phase) refl
    where
      came : LinkState
      came = (receiving (reading_of ends.client.clock) bytes ends.client.link).link

      items : List (List ℕ)
      items = (receiving (reading_of ends.client.clock) bytes ends.client.link).items

      after : HasFew (happened (Calls Role.Client (Receives bytes connection)) ends)
      after = tally_of (happened (Calls Role.Client (Receives bytes connection)) ends) (quiet_guards laws names are 2 4 (Calls Role.Client (Receives bytes connection) ∷ []) ends (tt, tt) (may, tt) g answers)

      by_open : (b : Bool) → is_open ends.client.link.phase ≡ b → length (ends.client.taken ++ items) + length came.waiting ≤ length ends.client.given + 6
      by_open false e = absurd (false≢true (sym (stays_shut (reading_of ends.client.clock) bytes ends.client.link e asks) ∙ up_open came.phase up))
      by_open true e =
          let none : entered_by ends.client.link (receiving (reading_of ends.client.clock) bytes ends.client.link).verdict connection ≡ None = rw e refl
          in let t = subst (λ (o : Option ℕ). length (kept o ends.client.taken ++ items) + length came.waiting ≤ length (kept o ends.client.given ++ []) + 6) none (after up)
          in let g_none = count_none ends.client.given
          in omega (arith, t, g_none)

-- ---- a station

abbrev FewAt : Node → ClientState → Type 0
FewAt (Point place) client = GivesFew true client
FewAt _ client = Unit {0}

-- a client of a point gives at most two items more than it has taken
pub given_few : (site : Site) (place : ℕ) (client : ClientState) (given taken : List (List ℕ)) → ClientSaid site (Point place) client.peer (length taken) given → length given ≤ length taken + 2
given_few site place client given taken (nothing none) = let n = ap length none in omega (arith, n)
given_few site place client given taken (checked one) = let n = ap length one in omega (arith, n)
given_few site place client given taken (asked c) = let n = ap length c.are in let m = map_length (commanded client.peer) c.commands in by_waits (omega (arith, n)) m c.waits
  where
    by_waits : length given ≡ 2 + length (map (commanded client.peer) c.commands) → length (map (commanded client.peer) c.commands) ≡ length c.commands → (length c.commands ≡ 0) ⊎ (3 + length client.peer.objects + length c.commands ≤ length taken + 1) → length given ≤ length taken + 2
    by_waits n m (inl none) = omega (arith, n, m, none)
    by_waits n m (inr some) = omega (arith, n, m, some)

module _ (laws : LawsBelow) (site : Site) (table : Table) (station : IsStation site) (once : Once site) (is_table : IsTableOf site table) where
  abbrev StandsAt : WorldState → Links → Type 0
  StandsAt world network = Stands laws site table station once is_table world network

  named : AreLinks (links site) (names_at site)
  named = laws.layouts_name_their_links site station once

  below_of : (place : ℕ) → place < length site.points → point_link site place < links site
  below_of place below = omega (arith, below)

  good_of : (world : WorldState) (network : Links) → StandsAt world network → (place : ℕ) → place < length site.points → Good 2 4 (seen (point_link site place) network)
  good_of world network s place below = record {
    answers = let e = (s.answering.of_points place server.0 server.1).ever in omega (arith, e);
    owes = λ connection e f.
        let more = gives_no_more laws site table station once is_table world network s place server.0 server.1 connection e f
        in let few = given_few site place client.0.client _ _ (s.talking.talk.points place client.0 client.1).ever
        in omega (arith, more, few);
  }
    where
      server : (c : ClockedControllerState PointState) × (slice_get world.points place ≡ Some c)
      server = let many = s.whole.points in at_place world.points place (omega (arith, below, many))

      client : (c : KnownPointState) × (slice_get world.interlocking.ixl.known_points place ≡ Some c)
      client = let many = s.whole.clients.known_points in at_place world.interlocking.ixl.known_points place (omega (arith, below, many))

  pub record Guarding (world : WorldState) (network : Links) : Type 0 where
    pub stands : StandsAt world network
    pub guards : (place : ℕ) → place < length site.points → Guarded (names_at site (point_link site place)) 2 4 (seen (point_link site place) network)
    pub few : EachClient FewAt world.interlocking.ixl

  new_few : (begins : Beginning) → EachClient FewAt (new_ixl site table begins)
  unfolding new_ixl
  new_few begins = record {
    signals = λ place known e. tt;
    points = λ place known e. let found = mapped_at (new_known_point_of site begins) site.points place known e in
        subst (λ (k : KnownPointState). GivesFew true k.client) (sym found.2) (new_client_few true _ _ _ _);
    detectors = λ place known e. tt;
  }

  -- ---- a step of the interlocking

  module _ (world : WorldState) (network : Links) (whole : IsWhole site world) (timely : AreTimely (links site) (names_at site) network) (are_of : AreLinksOf site world network) (g : Guarding world network) (input : ixl.Input) (connection : ℕ)
      (comes : MayComeWith site input connection network) (may : MayRunLinks (links site) (names_at site) (interlocking_events site table input connection world.interlocking) network) where
    abbrev now : ℕ
    now = reading_of world.interlocking.clock

    few_spare : 6 < window_size
    few_spare = omega arith

    tallies : (place : ℕ) → place < length site.points → Tally 6 (network.ends (point_link site place)).client.link (gave network (point_link site place)) (took network (point_link site place))
    tallies place below = tally_of laws (names_at site (point_link site place)) (named.each (point_link site place) (below_of place below)) (seen (point_link site place) network) (g.guards place below)

    received : (place : ℕ) → place < length site.points → (bytes : List ℕ) → input ≡ ixl.Datagram bytes
        → Tally 6 (receiving now bytes (network.ends (point_link site place)).client.link).link (gave network (point_link site place)) (took network (point_link site place) ++ (receiving now bytes (network.ends (point_link site place)).client.link).items)
    received place below bytes e = subst (λ (n : ℕ). Tally 6 (receiving n bytes (network.ends (point_link site place)).client.link).link (gave network (point_link site place)) (took network (point_link site place) ++ (receiving n bytes (network.ends (point_link site place)).client.link).items)) clock_is
        (received_of laws (names_at site (point_link site place)) (named.each (point_link site place) under) (seen (point_link site place) network) (g.guards place below) (good_of world network g.stands place below).answers bytes connection
        (laws.deliveries_may_come_ends site Role.Client bytes connection network named timely (point_link site place) under (comes bytes e (point_link site place) under))
        (ap (λ i. is_client i.role) (timely.each (point_link site place) under).client.identity))
      where
        under : point_link site place < links site
        under = below_of place below

        clock_is : reading_of (network.ends (point_link site place)).client.clock ≡ now
        clock_is = let id = at_place (partners site) (point_link site place) (subst (λ (n : ℕ). point_link site place < n) (sym (partners_length site)) under) in ap reading_of (are_of.clients (point_link site place) id.0 id.1).clock_is

    abbrev BeforeStep : Node → ClientState → Type 0
    BeforeStep node client = BeforeAt site now connection 6 network input few_spare tallies received node client

    abbrev SettledStep : Node → ClientState → List LinkCall → Type 0
    SettledStep node client calls = SettledAt site now connection 6 network input few_spare tallies received node client calls

    abbrev HoldsStep : Node → ClientState → List LinkCall → Type 0
    HoldsStep node client calls = HoldsAt site now connection 6 network input few_spare tallies received node client calls

    abbrev AnyStep : ℕ → Aspect → Type 0
    AnyStep place aspect = AnyAspect site now connection 6 network input few_spare tallies received place aspect

    abbrev ComesStep : List ℕ → Type 0
    ComesStep bytes = Comes site now connection 6 network input few_spare tallies received bytes

    all_before : EachClient BeforeStep world.interlocking.ixl
    all_before = record {
      signals = λ place known e. tt;
      points = λ place known e. let b = was.points place known e in record { there = b.there; counts = b.counts; of = b.of; link_is = b.link_is; asks = b.asks; talks = b.talks; few = g.few.points place known e };
      detectors = λ place known e. tt;
    }
      where
        was : EachClient (Before laws site table is_table input connection world network named whole timely are_of comes may g.stands.talking.stands.clients g.stands.talking.matching.clients g.stands.talking.talk) world.interlocking.ixl
        was = before laws site table is_table input connection world network named whole timely are_of comes may g.stands.talking.stands.clients g.stands.talking.matching.clients g.stands.talking.talk

    held : All now AnyStep ComesStep BeforeStep SettledStep HoldsStep (points_keep site now connection 6 network input few_spare tallies received) HoldsStep (interlocking_step site table input world.interlocking)
    held = step_held now AnyStep ComesStep BeforeStep SettledStep HoldsStep (points_keep site now connection 6 network input few_spare tallies received) table (λ signal. tt) (λ number row e. tt) (key_of site) input (begun_with world.interlocking.ixl empty_outbox) (λ bytes e. e) refl all_before

    step_few : EachClient FewAt (interlocking_step site table input world.interlocking).ixl
    step_few = record { signals = λ place known e. tt; points = λ place known e. (held.points place known e).few.few; detectors = λ place known e. tt }

    step_leaves : (place : ℕ) → place < length site.points → HasClients site (interlocking_step site table input world.interlocking).ixl → Each LeavesWindow (at_node (Point place) (interlocking_step site table input world.interlocking).calls)
    step_leaves place below clients =
        let many = clients.known_points
        in let there = at_place (interlocking_step site table input world.interlocking).ixl.known_points place (omega (arith, below, many))
        in (held.points place there.0 there.1).few.leaves

  -- ---- an event

  guard_first : (outset : Outset) → IsOutsetOf site outset → Guarding (world_at site table outset) (begun (names_at site) starts_at_zero)
  unfolding created world_at
  guard_first outset lies = record {
    stands = stands_first laws site table station once is_table outset lies;
    guards = λ place below. record {
      timely = (laws.links_keep_time_starts (links site) (names_at site) starts_at_zero named).each (point_link site place) (below_of place below);
      ordered = laws.links_keep_order_starts (links site) (names_at site) starts_at_zero (point_link site place) (below_of place below);
      confirming = λ are_in. absurd (false≢true are_in.client);
      left = λ has_left. absurd (false≢true has_left.client);
    };
    few = new_few at_zero;
  }

  guard_on : (happening : Event) (world : WorldState) (network : Links) → CanBe site table happening world network → Guarding world network → Guarding (happens site table happening world) (run_links (events_of site table happening world) network)
  guard_on happening world network can g = record {
    stands = then_stands;
    guards = λ place below. by_event laws site table named 2 4 (point_link site place) (below_of place below) network can.timely (g.guards place below) (good_of world network g.stands place below) world happening can.follows.may
        (good_of (happens site table happening world) (run_links (events_of site table happening world) network) then_stands place below);
    few = each_through site table FewAt new_few world network (λ events. MayRunLinks (links site) (names_at site) events network) (λ node bytes intact link. laws.deliveries_may_come_links site node bytes world network can.are intact link)
        (λ input connection comes may. step_few world network can.whole can.timely can.are g input connection comes may) g.few happening can.may can.follows.may;
  }
    where
      then_stands : StandsAt (happens site table happening world) (run_links (events_of site table happening world) network)
      then_stands = stands_on laws site table station once is_table happening world network can g.stands

  pub point_leaves : (place : ℕ) → place < length site.points → (world : WorldState) → IsReached site table world → (happening : Event) → refusal site happening world ≡ None → Each (FillsNoWindowOn (point_link site place)) (events_of site table happening world)
  point_leaves place below world reached happening intact = event_leaves laws site table (Point place) below world network named held_so.holds.stands.whole timely held_so.has.are
      (λ other fits. laws.events_are_those_of_the_links_whole site table other world network named station held_so.holds.stands.whole timely held_so.has.are fits) (λ events. MayRunLinks (links site) (names_at site) events network)
      (λ input connection comes may clients. step_leaves world network held_so.holds.stands.whole timely held_so.has.are held_so.holds input connection comes may place below clients) happening intact
      (laws.events_are_those_of_the_links_exactly site table happening world network named held_so.holds.stands.whole timely held_so.has.are intact).may
    where
      held_so : HasHeld laws site table station once Guarding guard_first guard_on world
      held_so = always_held laws site table station once Guarding guard_first guard_on world reached

      network : Links
      network = links_in held_so.has

      timely : AreTimely (links site) (names_at site) network
      timely = laws.links_keep_time_run (links site) (names_at site) held_so.has.events (begun (names_at site) starts_at_zero) named (laws.links_keep_time_starts (links site) (names_at site) starts_at_zero named) held_so.has.may
