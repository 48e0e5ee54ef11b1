-- In a good round a signal is given nothing where a route proceeds from it before and after the round; so its lamp shows the aspect of the route.
use Rattle.simulator_recovery.proofs.Words.Basics.{◌≡◌, ◌⊎◌, inl, inr, ℕ, true, false, List, [], ◌∷◌, map, Option, Some, None, slice_get, refl, sym, ap, subst, ◌∙◌, false≢true, ◌≢◌, suc, ◌+◌, ◌<◌, ◌≤◌, not, ◌++◌, length, arith, same_Some}
use Rattle.simulator_recovery.proofs.Words.Links.{reading_of, settled, Each, LinkState, is_up}
use Rattle.simulator_recovery.proofs.Words.Controllers.{Occupancy, Aspect}
use Rattle.simulator_recovery.proofs.Words.Interlockings.{IsTableOf, ClientState, IsClient, is_outside, clocked, is_proceeding, IxlState, KnownSignalState, RouteState, Commands, Datagram, Input, Tick, clocked_known_signal, begun_with, empty_outbox, known_signal_after, Row, Table, Command, begun, ticking, come_to, is_waiting, changed, SitedTable, is_set, Phase}
use Rattle.simulator_recovery.proofs.Words.Stations.{DetectorEntry, Site, Once, IsStation, Point as PointEntry, Signal as SignalEntry, Event, NodeId, Beginning, Outset, at_zero, new_ixl, new_route_of, world_at, delivered_to, detector_anew, detector_stepped, happens, interlocking_stepped, made_anew, passed, point_anew, point_stepped, sensed_by, signal_anew, signal_stepped, ticked_at, connection_of, copy_of, Detector, Interlocking, Node, key_of, node_at, CanHappen, after_all, WorldState, IsReached, Represents, given_in, RoundEvent, Flowing, all_did, did, due, round, Played, after}
use Rattle.simulator_recovery.proofs.Words.Machine.{Machine, KnownSignalFits, SeesSignal}
use Rattle.simulator_recovery.proofs.Words.Recovery.{LawsBelow, HasHandedOver, GivesNoMore, IsGivenNoMore, IsUpOn, StaysBelowLimit, link_rounds, HasTime, IsWork, all_tried, good_rounds, RouteProceeds, Shows, StaysGiven}
use Rattle.simulator_spec.specs.Nodes.{Point, Signal}
use Rattle.simulator_recovery.proofs.Lemmas.Lamps.ConfirmedStops.{new_stands, standing_then}
use Rattle.simulator_recovery.proofs.Lemmas.Ground.IxlClients.{mapped_at, changed_at, signal_is}
use Rattle.simulator_recovery.proofs.Lemmas.Lamps.ProceedsGiven.{AspectsGiven, IsOut, OutsSo, after_client, step_gives, quiet_proceeds, withdrawn_not}
use Rattle.simulator_recovery.proofs.Lemmas.Lamps.ProceedsHearing.{IsOutside, clocked_outside}
use Rattle.simulator_recovery.proofs.Lemmas.Lamps.SeenSignals.{seen_then, client_same, controller_there}
use Rattle.simulator_recovery.proofs.Lemmas.Ground.SignalParts.{AtRoute, IsQuiet, PartsKeep, new_signal, step_held}
use Rattle.simulator_recovery.proofs.Lemmas.Windows.SignalWindows.{had_aspect}
use Rattle.simulator_recovery.proofs.Lemmas.Talk.ClientLinks.{up_open}
use Rattle.simulator_recovery.proofs.Lemmas.Lamps.GivenNoMore.{AreOfRound, IsOfRound, due_of, over_rests}
use Rattle.simulator_recovery.proofs.Lemmas.Links.HandedOver.{hands_over}
use Rattle.simulator_recovery.proofs.Lemmas.Ground.IxlSoFar.{set_at}
use Rattle.simulator_recovery.proofs.Lemmas.Ground.LinkCounts.{settled_open}
use Rattle.simulator_recovery.proofs.Lemmas.Ground.EndCalls.{each_both}
use Rattle.simulator_recovery.proofs.Lemmas.Links.Ready.{count_front}
use Rattle.simulator_recovery.proofs.Lemmas.Rounds.Rounds.{IsAt, rounds_reached, tried_keeps}
use Rattle.simulator_recovery.proofs.Lemmas.Lamps.ShowsGiven.{shows_given}
use Rattle.simulator_recovery.proofs.Lemmas.Lamps.StopComes.{entry_there, last_round}
use Rattle.simulator_recovery.proofs.Lemmas.Lamps.StopsGiven.{StopsStand, proceeding_set, stand_keep, waiting_set}

-- ---- after every list of events a route that proceeds has given its aspect to its signal, where the client of the signal isn't outside

-- ---- what an event does to the interlocking

-- an input commands what the event asks for
abbrev pub AsksSo : Event → Input → Type 0
AsksSo happening input = (command : Command) → input ≡ Commands command → happening ≡ Event.Request command

-- An event leaves an interlocking as it is, or is a step of it, or makes it anew.
pub data IxlGoes (site : Site) (table : Table) (happening : Event) (world new : WorldState) : Type 0 where
  stays : new.interlocking.ixl ≡ world.interlocking.ixl → IxlGoes site table happening world new
  steps : (input : Input) → AsksSo happening input → new.interlocking.ixl ≡ (interlocking_stepped site table input world).interlocking.ixl → IxlGoes site table happening world new
  anew : (node : NodeId) (clock first : ℕ) → happening ≡ Event.Restart node clock first → new.interlocking.ixl ≡ new_ixl site table (record { clock = clock; first = first }) → IxlGoes site table happening world new

module _ (site : Site) (table : Table) where
  ticked_goes : (happening : Event) (at : Option Node) (world : WorldState) → IxlGoes site table happening world (ticked_at site table at world)
  unfolding signal_stepped point_stepped detector_stepped
  ticked_goes happening None world = stays refl
  ticked_goes happening (Some Interlocking) world = steps Tick (λ command e. absurd (cc e)) refl
  ticked_goes happening (Some (Signal place)) world = stays refl
  ticked_goes happening (Some (Point place)) world = stays refl
  ticked_goes happening (Some (Detector place)) world = stays refl

  delivered_goes : (happening : Event) (bytes : List ℕ) (connection : ℕ) (at : Option Node) (world : WorldState) → IxlGoes site table happening world (delivered_to site table bytes connection at world)
  unfolding signal_stepped point_stepped detector_stepped
  delivered_goes happening bytes connection None world = stays refl
  delivered_goes happening bytes connection (Some Interlocking) world = steps (Datagram bytes) (λ command e. absurd (cc e)) refl
  delivered_goes happening bytes connection (Some (Signal place)) world = stays refl
  delivered_goes happening bytes connection (Some (Point place)) world = stays refl
  delivered_goes happening bytes connection (Some (Detector place)) world = stays refl

  sensed_same : (occupancy : Occupancy) (reporter : Option (ℕ × ℕ)) (world : WorldState) → (sensed_by site occupancy reporter world).interlocking.ixl ≡ world.interlocking.ixl
  unfolding detector_stepped
  sensed_same occupancy None world = refl
  sensed_same occupancy (Some reporter) world = refl

  signal_same : (begins : Beginning) (place : ℕ) (entry : Option SignalEntry) (world : WorldState) → (signal_anew site begins place entry world).interlocking.ixl ≡ world.interlocking.ixl
  signal_same begins place None world = refl
  signal_same begins place (Some entry) world = refl

  point_same : (begins : Beginning) (place : ℕ) (entry : Option PointEntry) (world : WorldState) → (point_anew site begins place entry world).interlocking.ixl ≡ world.interlocking.ixl
  point_same begins place None world = refl
  point_same begins place (Some entry) world = refl

  detector_same : (begins : Beginning) (place : ℕ) (entry : Option DetectorEntry) (world : WorldState) → (detector_anew site begins place entry world).interlocking.ixl ≡ world.interlocking.ixl
  detector_same begins place None world = refl
  detector_same begins place (Some entry) world = refl

  anew_goes : (node : NodeId) (clock first : ℕ) (at : Option Node) (world : WorldState) → IxlGoes site table (Event.Restart node clock first) world (made_anew site table (record { clock = clock; first = first }) at world)
  anew_goes node clock first None world = stays refl
  anew_goes node clock first (Some Interlocking) world = anew node clock first refl refl
  anew_goes node clock first (Some (Signal place)) world = stays (signal_same (record { clock = clock; first = first }) place (slice_get site.signals place) world)
  anew_goes node clock first (Some (Point place)) world = stays (point_same (record { clock = clock; first = first }) place (slice_get site.points place) world)
  anew_goes node clock first (Some (Detector place)) world = stays (detector_same (record { clock = clock; first = first }) place (slice_get site.detectors place) world)

  pub event_goes : (happening : Event) (world : WorldState) → IxlGoes site table happening world (happens site table happening world)
  unfolding happens passed point_stepped
  event_goes (Event.Time elapsed clocks) world = stays refl
  event_goes (Event.Deliver node bytes) world = delivered_goes (Event.Deliver node bytes) bytes (connection_of (copy_of bytes world)) (node_at site node.0) world
  event_goes (Event.Tick node) world = ticked_goes (Event.Tick node) (node_at site node.0) world
  event_goes (Event.Reach point position) world = stays refl
  event_goes (Event.Request command) world = steps (Commands command) (λ other e. cc e) refl
  event_goes (Event.Occupy section occupancy) world = stays (sensed_same occupancy (slice_get table.reporters section.0) _)
  event_goes (Event.Lose bytes) world = stays refl
  event_goes (Event.Restart node clock first) world = anew_goes node clock first (node_at site node.0) world

-- ---- every list of events

-- what is known of a signal's client in a world that is reached
pub client_steady : LawsBelow → (site : Site) (table : Table) → Once site → IsStation site → IsTableOf site table → (world : WorldState) → IsReached site table world → (place : ℕ) (known : KnownSignalState)
    → slice_get world.interlocking.ixl.known_signals place ≡ Some known → IsClient known.client
client_steady laws site table once station is_table world reached place known there = fits.client.steady
  where
    seen : (machine : Machine) × Represents site table world machine
    seen = seen_then laws site table once station is_table world reached

    now : ℕ
    now = reading_of world.interlocking.clock

    fits : KnownSignalFits now known ((given_in site seen.1.network).signals place) (seen.0.signals place)
    fits = (subst (λ (found : Option KnownSignalState). SeesSignal now world.interlocking.ixl found ((given_in site seen.1.network).signals place) (seen.0.signals place)) there (seen.1.station.sees.signals place)).fits

module _ (laws : LawsBelow) (site : Site) (table : Table) (once : Once site) (station : IsStation site) (is_table : IsTableOf site table) where
  abbrev Gives : IxlState → Type 0
  Gives ixl = AspectsGiven table IsOut ixl.routes ixl.known_signals

  new_gives : (begins : Beginning) → Gives (new_ixl site table begins)
  unfolding new_ixl
  new_gives begins = record {
    stand = new_stands site table begins;
    given = λ number row route known there proceeds e. let found = mapped_at new_route_of table.rows number route there.there in absurd (false≢true (ap (λ (r : RouteState). is_proceeding r.phase) (sym found.2) ∙ proceeds));
  }

  -- the clients that are outside by the clock
  outs_so : (world : WorldState) → IsReached site table world → OutsSo (reading_of world.interlocking.clock) table (map (clocked_known_signal (reading_of world.interlocking.clock)) world.interlocking.ixl.known_signals)
  outs_so world reached place known e out = subst (λ (k : KnownSignalState). IsOutside k.client) (sym found.2)
      (after_client IsOutside was.aspect was.number was.indicated (clocked now was.client)
      (clocked_outside now was.client (client_steady laws site table once station is_table world reached place was found.1) (client_out (subst IsOut found.2 out))))
    where
      now : ℕ
      now = reading_of world.interlocking.clock

      found : (x : KnownSignalState) × (slice_get world.interlocking.ixl.known_signals place ≡ Some x) × (known ≡ clocked_known_signal now x)
      found = mapped_at (clocked_known_signal now) world.interlocking.ixl.known_signals place known e

      was : KnownSignalState
      was = found.0

      client_out : IsOut (clocked_known_signal now was) → is_outside (clocked now was.client).stage ≡ true
      client_out is = of_client was.aspect was.number was.indicated (clocked now was.client) is
        where
          of_client : (aspect : _) (number : ℕ) (indicated : _) (client : ClientState) → IsOut (known_signal_after aspect number indicated client) → is_outside client.stage ≡ true
          of_client aspect number indicated client o = after_client (λ (c : ClientState). is_outside c.stage ≡ true → is_outside client.stage ≡ true) aspect number indicated client (λ same. same) o

  step_on : (input : Input) (world : WorldState) → IsReached site table world → Gives world.interlocking.ixl → Gives (interlocking_stepped site table input world).interlocking.ixl
  unfolding interlocking_stepped
  step_on input world reached is = step_gives (reading_of world.interlocking.clock) table (key_of site) input (begun_with world.interlocking.ixl empty_outbox) (outs_so world reached) is

  event_on : (happening : Event) (world : WorldState) → IsReached site table world → Gives world.interlocking.ixl → Gives (happens site table happening world).interlocking.ixl
  event_on happening world reached is = by (event_goes site table happening world)
    where
      by : IxlGoes site table happening world (happens site table happening world) → Gives (happens site table happening world).interlocking.ixl
      by (stays same) = subst Gives (sym same) is
      by (steps input asks same) = subst Gives (sym same) (step_on input world reached is)
      by (anew node clock first restart same) = subst Gives (sym same) (new_gives (record { clock = clock; first = first }))

  events_on : (events : List Event) (world : WorldState) → IsReached site table world → CanHappen site table events world → Gives world.interlocking.ixl → Gives (after_all site table events world).interlocking.ixl
  events_on [] world reached can is = is
  events_on (first ∷ others) world reached can is = events_on others (happens site table first world) (laws.reached_worlds_are_safe_on site table first world reached can.0) can.1 (event_on first world reached is)

  first_gives : (outset : Outset) → Gives (world_at site table outset).interlocking.ixl
  unfolding world_at
  first_gives outset = new_gives at_zero

  pub always_given : (world : WorldState) → IsReached site table world → Gives world.interlocking.ixl
  always_given world reached = subst (λ (w : WorldState). Gives w.interlocking.ixl) (sym reached.after)
      (events_on reached.events (world_at site table reached.outset) (laws.reached_worlds_are_safe_at site table reached.outset reached.lies) reached.can (first_gives reached.outset))

-- the aspect that a route that proceeds gave last, where its signal's client is in a connection
pub gave_its_aspect : LawsBelow → (site : Site) (table : Table) (world : WorldState) (number : ℕ) (row : Row) (route : RouteState) (known : KnownSignalState) → Once site → IsStation site → IsTableOf site table → IsReached site table world
    → AtRoute table number row route world.interlocking.ixl.routes → is_proceeding route.phase ≡ true → slice_get world.interlocking.ixl.known_signals row.entry ≡ Some known → is_outside known.client.stage ≡ false → known.aspect ≡ Some row.aspect
gave_its_aspect laws site table world number row route known once station is_table reached there proceeds e inside = choose ((always_given laws site table once station is_table world reached).given number row route known there proceeds e)
  where
    choose : (known.aspect ≡ Some row.aspect) ⊎ IsOut known → known.aspect ≡ Some row.aspect
    choose (inl given) = given
    choose (inr out) = absurd (false≢true (sym inside ∙ out))

-- ---- in a good round a signal is given nothing where a route proceeds from it before and after the round; so its lamp shows the aspect of the route

-- ---- what is kept of one route and its signal

-- a signal whose client is another was given no more
no_more_after : (before known : KnownSignalState) (indicated : Option Aspect) (client : ClientState) → IsGivenNoMore before known → IsGivenNoMore before (known_signal_after known.aspect known.number indicated client)
no_more_after before known indicated client is = signal_is (IsGivenNoMore before) known.aspect known.number indicated client (λ outside. inl refl) (λ inside. is)

-- A route doesn't wait, and where it proceeds its signal was given no more.
record GoesOnSo (table : Table) (number : ℕ) (row : Row) (before : KnownSignalState) (routes : List RouteState) (signals : List KnownSignalState) : Type 0 where
  stand : StopsStand table routes signals
  waits_not : (route : RouteState) → slice_get routes number ≡ Some route → is_waiting route.phase ≡ true → ⊥
  no_more : (route : RouteState) (known : KnownSignalState) → slice_get routes number ≡ Some route → is_proceeding route.phase ≡ true → slice_get signals row.entry ≡ Some known → IsGivenNoMore before known

-- no command comes
abbrev Never : Command → Type 0
Never command = ⊥

proceeds_not_waiting : (p : Phase) → is_waiting p ≡ true → is_proceeding p ≡ true → ⊥
proceeds_not_waiting Phase.Free f g = false≢true f
proceeds_not_waiting Phase.Waiting f g = false≢true g
proceeds_not_waiting Phase.Proceeding f g = false≢true f
proceeds_not_waiting Phase.Withdrawn f g = false≢true f
proceeds_not_waiting (Phase.Ended clock done) f g = false≢true f

quiet_waits : (old new : RouteState) → IsQuiet old new → is_waiting new.phase ≡ true → is_waiting old.phase ≡ true
quiet_waits old new (inl (same, cancelled)) waits = ap is_waiting (sym same) ∙ waits
quiet_waits old new (inr (over, undone, set, still)) waits = absurd (false≢true (sym (over_rests new.phase over).0 ∙ waits))

module _ (now : ℕ) (table : Table) (number : ℕ) (row : Row) (row_there : slice_get table.rows number ≡ Some row) (before : KnownSignalState) where
  abbrev Goes : List RouteState → List KnownSignalState → Type 0
  Goes = GoesOnSo table number row before

  abbrev Found : (RouteState → RouteState) → ℕ → List RouteState → RouteState → Type 0
  Found change place routes route = ((number ≡ place) × (was : RouteState) × (slice_get routes place ≡ Some was) × (route ≡ change was)) ⊎ (slice_get routes number ≡ Some route)

  at_number : (route : RouteState) (routes : List RouteState) → slice_get routes number ≡ Some route → AtRoute table number row route routes
  at_number route routes there = record { row_there = row_there; there = there }

  -- another client of some signal
  client_goes : (place : ℕ) (known : KnownSignalState) (indicated : Option Aspect) (client : ClientState) (routes : List RouteState) (signals : List KnownSignalState) → slice_get signals place ≡ Some known → Goes routes signals
      → (route : RouteState) (later : KnownSignalState) → slice_get routes number ≡ Some route → is_proceeding route.phase ≡ true
      → slice_get (changed (λ old. known_signal_after known.aspect known.number indicated client) place signals) row.entry ≡ Some later → IsGivenNoMore before later
  client_goes place known indicated client routes signals there is route later route_there proceeds e = choose (set_at place (known_signal_after known.aspect known.number indicated client) signals row.entry later e)
    where
      choose : ((row.entry ≡ place) × (later ≡ known_signal_after known.aspect known.number indicated client)) ⊎ ((row.entry ≢ place) × (slice_get signals row.entry ≡ Some later)) → IsGivenNoMore before later
      choose (inl (same, so)) = subst (IsGivenNoMore before) (sym so) (no_more_after before known indicated client (is.no_more route known route_there proceeds (ap (slice_get signals) same ∙ there)))
      choose (inr (differ, f)) = is.no_more route later route_there proceeds f

  -- a route of another number is given an aspect, or stop, where it is set: that is at another signal
  other_signal : (place : ℕ) (other : Row) (other_route route : RouteState) (new later : KnownSignalState) (routes : List RouteState) (signals : List KnownSignalState) → AtRoute table place other other_route routes → (number ≡ place → ⊥)
      → is_set other_route.phase ≡ true → slice_get routes number ≡ Some route → is_proceeding route.phase ≡ true → slice_get (changed (λ old. new) other.entry signals) row.entry ≡ Some later → Goes routes signals → IsGivenNoMore before later
  other_signal place other other_route route new later routes signals there differ set route_there proceeds e is = choose (set_at other.entry new signals row.entry later e)
    where
      choose : ((row.entry ≡ other.entry) × (later ≡ new)) ⊎ ((row.entry ≢ other.entry) × (slice_get signals row.entry ≡ Some later)) → IsGivenNoMore before later
      choose (inl (same, so)) = absurd (differ (is.stand.apart number place row other route other_route (at_number route routes route_there) there same (proceeding_set route.phase proceeds) set))
      choose (inr (apart, f)) = is.no_more route later route_there proceeds f

  goes_keep : PartsKeep now table Never Goes
  goes_keep = record {
    rules = record {
      quiet = λ place change routes signals quiet is. record {
        stand = (stand_keep now table).rules.quiet place change routes signals quiet is.stand;
        waits_not = λ route e waits. quiet_waits_not place change routes signals quiet is route waits (changed_at change place routes number route e);
        no_more = λ route known e proceeds f. let was = had_aspect table place number change row route routes (λ one g h. quiet_proceeds one (change one) (quiet one g) h) (at_number route (changed change place routes) e) proceeds in is.no_more was.was known was.at.there was.proceeds f;
      };
      proceeds = λ place other other_route known items client change routes signals there waits goes_on changes e so is. record {
        stand = (stand_keep now table).rules.proceeds place other other_route known items client change routes signals there waits goes_on changes e so is.stand;
        waits_not = λ route f route_waits. is.waits_not route (elsewhere place other other_route change routes signals there waits is route (changed_at change place routes number route f)) route_waits;
        no_more = λ route later f proceeds g. let route_there = elsewhere place other other_route change routes signals there waits is route (changed_at change place routes number route f)
            in other_signal place other other_route route (new_signal other.aspect items client known) later routes signals there (not_it place other_route routes signals there.there waits is) (waiting_set other_route.phase waits) route_there proceeds g is;
      };
      ticks = λ place known outbox routes signals there is. record {
        stand = (stand_keep now table).rules.ticks place known outbox routes signals there is.stand;
        waits_not = is.waits_not;
        no_more = client_goes place known known.indicated (ticking now (begun known.client outbox)).client routes signals there is;
      };
    };
    clock = λ routes signals is. record {
      stand = (stand_keep now table).clock routes signals is.stand;
      waits_not = is.waits_not;
      no_more = λ route known e proceeds f. let was = mapped_at (clocked_known_signal now) signals row.entry known f
          in subst (IsGivenNoMore before) (sym was.2) (no_more_after before was.0 was.0.indicated (clocked now was.0.client) (is.no_more route was.0 e proceeds was.1));
    };
    client = λ place known client indicated routes signals there goes is. record {
      stand = (stand_keep now table).client place known client indicated routes signals there goes is.stand;
      waits_not = is.waits_not;
      no_more = client_goes place known indicated client routes signals there is;
    };
    withdraws = λ place other other_route known items client routes signals there proceeds e so is. record {
      stand = (stand_keep now table).withdraws place other other_route known items client routes signals there proceeds e so is.stand;
      waits_not = λ route f waits. withdrawn_waits_not place routes signals is route waits (changed_at (come_to Phase.Withdrawn) place routes number route f);
      no_more = λ route later f route_proceeds g. let was = had_aspect table place number (come_to Phase.Withdrawn) row route routes (λ one h i. absurd (false≢true i)) (at_number route (changed (come_to Phase.Withdrawn) place routes) f) route_proceeds
          in other_signal place other other_route was.was (new_signal Aspect.Stop items client known) later routes signals there
          (λ same. withdrawn_not place number other_route route routes same there.there f route_proceeds) (proceeding_set other_route.phase proceeds) was.at.there was.proceeds g is;
    };
    falls = λ place other other_route routes signals there proceeds unready is. record {
      stand = (stand_keep now table).falls place other other_route routes signals there proceeds unready is.stand;
      waits_not = λ route f waits. withdrawn_waits_not place routes signals is route waits (changed_at (come_to Phase.Withdrawn) place routes number route f);
      no_more = λ route known f route_proceeds g. let was = had_aspect table place number (come_to Phase.Withdrawn) row route routes (λ one h i. absurd (false≢true i)) (at_number route (changed (come_to Phase.Withdrawn) place routes) f) route_proceeds
          in is.no_more was.was known was.at.there was.proceeds g;
    };
    sets = λ route ixl never none is. absurd never;
  }
    where
      quiet_waits_not : (place : ℕ) (change : RouteState → RouteState) (routes : List RouteState) (signals : List KnownSignalState) → ((route : RouteState) → slice_get routes place ≡ Some route → IsQuiet route (change route)) → Goes routes signals
          → (route : RouteState) → is_waiting route.phase ≡ true → Found change place routes route → ⊥
      quiet_waits_not place change routes signals quiet is route waits (inl (same, was, f, so)) =
          is.waits_not was (ap (slice_get routes) same ∙ f) (quiet_waits was (change was) (quiet was f) (ap (λ (r : RouteState). is_waiting r.phase) (sym so) ∙ waits))
      quiet_waits_not place change routes signals quiet is route waits (inr f) = is.waits_not route f waits

      withdrawn_waits_not : (place : ℕ) (routes : List RouteState) (signals : List KnownSignalState) → Goes routes signals → (route : RouteState) → is_waiting route.phase ≡ true → Found (come_to Phase.Withdrawn) place routes route → ⊥
      withdrawn_waits_not place routes signals is route waits (inl (same, was, f, so)) = false≢true (ap (λ (r : RouteState). is_waiting r.phase) (sym so) ∙ waits)
      withdrawn_waits_not place routes signals is route waits (inr f) = is.waits_not route f waits

      -- a route that waits is another
      not_it : (place : ℕ) (other_route : RouteState) (routes : List RouteState) (signals : List KnownSignalState) → slice_get routes place ≡ Some other_route → is_waiting other_route.phase ≡ true → Goes routes signals → number ≡ place → ⊥
      not_it place other_route routes signals there waits is same = is.waits_not other_route (ap (slice_get routes) same ∙ there) waits

      elsewhere : (place : ℕ) (other : Row) (other_route : RouteState) (change : RouteState → RouteState) (routes : List RouteState) (signals : List KnownSignalState) → AtRoute table place other other_route routes → is_waiting other_route.phase ≡ true → Goes routes signals
          → (route : RouteState) → Found change place routes route → slice_get routes number ≡ Some route
      elsewhere place other other_route change routes signals there waits is route (inl (same, was, f, so)) = absurd (not_it place other_route routes signals there.there waits is same)
      elsewhere place other other_route change routes signals there waits is route (inr f) = f

-- ---- the events of a round

module _ (site : Site) (table : Table) (number : ℕ) (row : Row) (row_there : slice_get table.rows number ≡ Some row) (before : KnownSignalState) where
  abbrev GoingOn : IxlState → Type 0
  GoingOn ixl = GoesOnSo table number row before ixl.routes ixl.known_signals

  stepped_goes : (input : Input) (world : WorldState) → ((command : Command) → input ≡ Commands command → ⊥) → GoingOn world.interlocking.ixl → GoingOn (interlocking_stepped site table input world).interlocking.ixl
  unfolding interlocking_stepped
  stepped_goes input world none is = step_held (reading_of world.interlocking.clock) table Never (GoesOnSo table number row before) (goes_keep (reading_of world.interlocking.clock) table number row row_there before) (key_of site) input
      (begun_with world.interlocking.ixl empty_outbox) none is

  event_goes_on : (happening : Event) (world : WorldState) → IsOfRound happening → GoingOn world.interlocking.ixl → GoingOn (happens site table happening world).interlocking.ixl
  event_goes_on happening world of is = by (event_goes site table happening world)
    where
      by : IxlGoes site table happening world (happens site table happening world) → GoingOn (happens site table happening world).interlocking.ixl
      by (stays same) = subst GoingOn (sym same) is
      by (steps input asks same) = subst GoingOn (sym same) (stepped_goes input world (λ command e. subst IsOfRound (asks command e) of) is)
      by (anew node clock first restart same) = absurd (subst IsOfRound restart of)

-- a station of this data in which it goes on
record GoesOnAt (sited : SitedTable) (number : ℕ) (row : Row) (before : KnownSignalState) (world : Played) : Type 0 where
  same : world.sited ≡ sited
  goes : GoesOnSo sited.table number row before world.run.interlocking.ixl.routes world.run.interlocking.ixl.known_signals

module _ (sited : SitedTable) (number : ℕ) (row : Row) (row_there : slice_get sited.table.rows number ≡ Some row) (before : KnownSignalState) where
  tried_goes : (world : Played) (one : Event) → IsOfRound one → GoesOnAt sited number row before world → GoesOnAt sited number row before (after world one)
  tried_goes world one of is = tried_keeps (GoesOnAt sited number row before) world one is (λ none. record {
    same = is.same;
    goes = subst (λ (s : SitedTable). GoesOnSo sited.table number row before (happens s.site s.table one world.run).interlocking.ixl.routes (happens s.site s.table one world.run).interlocking.ixl.known_signals) (sym is.same)
        (event_goes_on sited.site sited.table number row row_there before one world.run of is.goes);
  })

  all_go : (list : List RoundEvent) (flowing : Flowing) → AreOfRound list → GoesOnAt sited number row before flowing.state → GoesOnAt sited number row before (all_did list flowing).state
  unfolding all_did
  all_go [] flowing of is = is
  all_go (first ∷ others) flowing of is = all_go others (did first flowing) of.1 (tried_goes flowing.state first.event of.0 is)

pub round_gives_nothing : (flowing : Flowing) (number : ℕ) (row : Row) → IsReached flowing.state.sited.site flowing.state.sited.table flowing.state.run → RouteProceeds flowing.state.sited.table flowing.state.run.interlocking.ixl number row
    → RouteProceeds flowing.state.sited.table (round flowing).state.run.interlocking.ixl number row → GivesNoMore row.entry flowing.state.run.interlocking.ixl (round flowing).state.run.interlocking.ixl
round_gives_nothing flowing number row reached was is before behind there later =
    (all_go sited number row row_there before (due flowing) flowing (due_of flowing) start).goes.no_more is.0 behind is.1.1 (ap is_proceeding is.2) later
  where
    sited : SitedTable
    sited = flowing.state.sited

    row_there : slice_get sited.table.rows number ≡ Some row
    row_there = was.1.0

    start : GoesOnAt sited number row before flowing.state
    start = record {
      same = refl;
      goes = record {
        stand = standing_then sited.site sited.table flowing.state.run reached;
        waits_not = λ route e waits. proceeds_not_waiting route.phase waits (ap (λ (r : RouteState). is_proceeding r.phase) (same_Some route was.0 (sym e ∙ was.1.1)) ∙ ap is_proceeding was.2);
        no_more = λ route known e proceeds f. let same = same_Some known before (sym f ∙ there) in inr (ap (λ (k : KnownSignalState). k.aspect) same, ap (λ (k : KnownSignalState). k.number) same);
      };
    }

-- ---- the lamp

-- a signal whose link is up has a client that isn't outside
inside_on : (laws : LawsBelow) (site : Site) (table : Table) → Once site → IsStation site → IsTableOf site table → (world : WorldState) → IsReached site table world → (place : ℕ) → place < length site.signals → IsUpOn place world
    → (known : KnownSignalState) → slice_get world.interlocking.ixl.known_signals place ≡ Some known → is_outside known.client.stage ≡ false
inside_on laws site table once station is_table world reached place few up known there =
    let seen = seen_then laws site table once station is_table world reached
    in let controller = controller_there site table world seen.0 seen.1 place few
    in let same = client_same laws site table world seen.0 seen.1 place (omega (arith, few)) up known there controller.0 controller.1
    in let steady = client_steady laws site table once station is_table world reached place known there
    in steady.outside ∙ ap not (ap (λ (l : LinkState). is_up l.phase) (sym same) ∙ still_up (reading_of world.interlocking.clock) up.client up.client_up)
  where
    still_up : (now : ℕ) (l : LinkState) → is_up (settled now l).phase ≡ true → is_up l.phase ≡ true
    still_up now l so = sym (ap (λ (x : LinkState). is_up x.phase) (settled_open now l (up_open (settled now l).phase so)).0) ∙ so

module _ (laws : LawsBelow) (site : Site) (table : Table) (once : Once site) (station : IsStation site) (is_table : IsTableOf site table) where
  -- a route that proceeds at both moments gave its aspect by the first, where its signal was given no more
  stays_given : (old new : WorldState) (number : ℕ) (row : Row) → IsReached site table old → IsReached site table new → row.entry < length site.signals → IsUpOn row.entry old → IsUpOn row.entry new
      → RouteProceeds table old.interlocking.ixl number row → RouteProceeds table new.interlocking.ixl number row → GivesNoMore row.entry old.interlocking.ixl new.interlocking.ixl → StaysGiven row.entry row.aspect old.interlocking.ixl new.interlocking.ixl
  stays_given old new number row reached_old reached_new few up_old up_new was is no_more before behind there later = (given old reached_old up_old was before there, given new reached_new up_new is behind later, number_same (no_more before behind there later))
    where
      given : (world : WorldState) → IsReached site table world → IsUpOn row.entry world → RouteProceeds table world.interlocking.ixl number row → (known : KnownSignalState) → slice_get world.interlocking.ixl.known_signals row.entry ≡ Some known → known.aspect ≡ Some row.aspect
      given world reached up proceeds known e = gave_its_aspect laws site table world number row proceeds.0 known once station is_table reached (record { row_there = proceeds.1.0; there = proceeds.1.1 }) (ap is_proceeding proceeds.2) e
          (inside_on laws site table once station is_table world reached row.entry few up known e)

      number_same : IsGivenNoMore before behind → behind.number ≡ before.number
      number_same (inl none) = absurd (cc (sym none ∙ given new reached_new up_new is behind later))
      number_same (inr (same, number_is)) = number_is

pub route_shows : LawsBelow → (between : List Event) (later_rounds : List (List Event)) (flowing : Flowing) (number : ℕ) (row : Row) → Once flowing.state.sited.site → IsStation flowing.state.sited.site
    → IsTableOf flowing.state.sited.site flowing.state.sited.table → IsReached flowing.state.sited.site flowing.state.sited.table flowing.state.run → Each IsWork between → Each (Each IsWork) later_rounds
    → HasTime (suc (1 + length later_rounds)) flowing.state.run → link_rounds ≤ suc (length later_rounds)
    → StaysBelowLimit flowing.state.sited.site row.entry (later_rounds ++ [] ∷ []) (all_tried between (round flowing))
    → RouteProceeds flowing.state.sited.table (good_rounds (between ∷ later_rounds) flowing).state.run.interlocking.ixl number row
    → RouteProceeds flowing.state.sited.table (good_rounds (between ∷ (later_rounds ++ [] ∷ [])) flowing).state.run.interlocking.ixl number row
    → Shows row.entry row.aspect (good_rounds (between ∷ (later_rounds ++ [] ∷ [])) flowing).state.run
route_shows laws between later_rounds flowing number row once station is_table reached work works can long below was is =
    shows_given laws sited.site sited.table old.state.run new.state.run row.entry row.aspect once station is_table at_old.reached at_new.reached few over
    (stays_given laws sited.site sited.table once station is_table old.state.run new.state.run number row at_old.reached at_new.reached few over.before over.behind was is no_more)
  where
    sited : SitedTable
    sited = flowing.state.sited

    old : Flowing
    old = good_rounds (between ∷ later_rounds) flowing

    new : Flowing
    new = good_rounds (between ∷ (later_rounds ++ [] ∷ [])) flowing

    at_old : IsAt sited old.state
    at_old = rounds_reached laws sited (between ∷ later_rounds) flowing (record { same = refl; reached = reached })

    at_new : IsAt sited new.state
    at_new = rounds_reached laws sited (between ∷ (later_rounds ++ [] ∷ [])) flowing (record { same = refl; reached = reached })

    few : row.entry < length sited.site.signals
    few = entry_there sited.site sited.table station is_table number row was.1.0

    time : HasTime (suc (length (later_rounds ++ [] ∷ []))) flowing.state.run
    time = let count = count_front later_rounds [] in subst (λ (n : ℕ). HasTime n flowing.state.run) (omega (arith, count)) can

    over : HasHandedOver row.entry old.state.run new.state.run
    over = hands_over laws between later_rounds [] flowing row.entry once station is_table reached work (each_both (Each IsWork) later_rounds ([] ∷ []) works (tt, tt)) time (omega (arith, few)) long below

    then_is : new ≡ round old
    then_is = last_round (between ∷ later_rounds) [] flowing

    no_more : GivesNoMore row.entry old.state.run.interlocking.ixl new.state.run.interlocking.ixl
    no_more = subst (λ (f : Flowing). GivesNoMore row.entry old.state.run.interlocking.ixl f.state.run.interlocking.ixl) (sym then_is)
        (round_gives_nothing old number row (subst (λ (s : SitedTable). IsReached s.site s.table old.state.run) (sym at_old.same) at_old.reached)
        (subst (λ (s : SitedTable). RouteProceeds s.table old.state.run.interlocking.ixl number row) (sym at_old.same) was)
        (subst (λ (f : Flowing). RouteProceeds old.state.sited.table f.state.run.interlocking.ixl number row) then_is (subst (λ (s : SitedTable). RouteProceeds s.table new.state.run.interlocking.ixl number row) (sym at_old.same) is)))
