-- A route that proceeds has given its aspect to its signal in the present connection: what a step of an interlocking does to that.
use Rattle.simulator_recovery.proofs.Words.Basics.{◌≡◌, ◌≢◌, ◌⊎◌, inl, inr, ℕ, zero, suc, ◌<◌, ◌==◌, ◌&&◌, Bool, true, false, not, if◌then◌else◌, List, map, Option, Some, None, slice_get, refl, sym, ap, subst, ◌∙◌, arith, ◌||◌, false≢true, nat_tests, none-some, same_Some}
use Rattle.simulator_recovery.proofs.Words.Links.{OutboxState, reading, Key}
use Rattle.simulator_recovery.proofs.Words.Controllers.{Aspect, Side}
use Rattle.simulator_recovery.proofs.Words.Interlockings.{ClientState, is_outside, is_ready, begun, clocked, hearing, ticking, commanded_by, obeyed, refusal, set_anew, come_to, count, ending_authority, is_proceeding, is_stop_due, is_waiting, stopped, withdrawing, withdrawn, IxlState, KnownSignalState, RouteState, changed, Commands, Datagram, Input, Tick, addressed, all_clocked, clocked_known_signal, detector_hearing, given, known_point_hearing, known_signal_hearing, looking, looks, node_hearing, occupied_heard, stepped, watching, Detector, Node, Point, Signal, StepSoFar, at_route, detector_after, giving_aspect, known_signal_after, noted, over, with_detector, with_one, with_route, Row, Table, at, all_clear, all_known, is_signal_ready, Command, Refusal, Phase, released_at, giving_move}
use Rattle.simulator_recovery.proofs.Words.Stations.{RouteId}
use Rattle.simulator_recovery.proofs.Lemmas.Windows.SignalWindows.{had_aspect}
use Rattle.simulator_recovery.proofs.Lemmas.Ground.DueShapes.{along_keeps, one_keeps, over_keeps}
use Rattle.simulator_recovery.proofs.Lemmas.Lamps.GivenNoMore.{over_rests}
use Rattle.simulator_recovery.proofs.Lemmas.Ground.IxlClients.{changed_at, mapped_at, signal_is}
use Rattle.simulator_recovery.proofs.Lemmas.Ground.IxlSoFar.{set_at, test_of}
use Rattle.simulator_recovery.proofs.Lemmas.Lamps.ProceedsHearing.{IsOutside, outside_clocked, outside_hears, outside_ticks, outside_unready}
use Rattle.simulator_recovery.proofs.Lemmas.Ground.SignalParts.{AtRoute, IsGiven, IsQuiet, RulesKeep, behind_ending, ending_held, hears, new_signal, none_passes, over_held, ticked_held, watching_keeps, looking_keeps}
use Rattle.simulator_recovery.proofs.Lemmas.Silence.Spent.{within_some}
use Rattle.simulator_recovery.proofs.Lemmas.Lamps.StopsGiven.{StopsStand, changed_here, is_equal, proceeding_set, stand_keep, waiting_set}
use Rattle.simulator_recovery.proofs.Lemmas.Ground.DueTests.{first_true}
use Rattle.simulator_recovery.proofs.Lemmas.Ground.MovedAtOnce.{moved_keeps}

-- ---- what is kept

-- Each route that proceeds gave its aspect last to its signal in the present connection, but where something else is so of the signal.
pub record AspectsGiven (table : Table) (Else : KnownSignalState → Type 0) (routes : List RouteState) (signals : List KnownSignalState) : Type 0 where
  pub stand : StopsStand table routes signals
  pub given : (number : ℕ) (row : Row) (route : RouteState) (known : KnownSignalState) → AtRoute table number row route routes → is_proceeding route.phase ≡ true → slice_get signals row.entry ≡ Some known
      → (known.aspect ≡ Some row.aspect) ⊎ Else known

-- the client of a signal is outside, or not ready
abbrev pub IsOut : KnownSignalState → Type 0
IsOut known = is_outside known.client.stage ≡ true

abbrev pub IsUnready : KnownSignalState → Type 0
IsUnready known = is_ready known.client.stage ≡ false

out_unready : (known : KnownSignalState) → IsOut known → IsUnready known
out_unready known out = outside_unready known.client.stage out

-- ---- a signal with another client

pub after_client : (P : ClientState → Type 0) (aspect : Option Aspect) (number : ℕ) (indicated : Option Aspect) (client : ClientState) → P client → P (known_signal_after aspect number indicated client).client
after_client P aspect number indicated client is = signal_is (λ (known : KnownSignalState). P known.client) aspect number indicated client (λ outside. is) (λ inside. is)

-- what was given is given still, or the client is outside
aspect_after : (was : Option Aspect) (aspect : Aspect) (number : ℕ) (indicated : Option Aspect) (client : ClientState) → was ≡ Some aspect
    → ((known_signal_after was number indicated client).aspect ≡ Some aspect) ⊎ IsOut (known_signal_after was number indicated client)
aspect_after was aspect number indicated client is =
    signal_is (λ (known : KnownSignalState). (known.aspect ≡ Some aspect) ⊎ IsOut known) was number indicated client (λ outside. inr outside) (λ inside. inl is)

or_unready : (known : KnownSignalState) (aspect : Aspect) → (known.aspect ≡ Some aspect) ⊎ IsOut known → (known.aspect ≡ Some aspect) ⊎ IsUnready known
or_unready known aspect (inl e) = inl e
or_unready known aspect (inr out) = inr (out_unready known out)

-- a client that stays outside
stays_so : (known : KnownSignalState) (aspect : Aspect) (indicated : Option Aspect) (client : ClientState) → (IsOut known → is_outside client.stage ≡ true) → (known.aspect ≡ Some aspect) ⊎ IsOut known
    → ((known_signal_after known.aspect known.number indicated client).aspect ≡ Some aspect) ⊎ IsOut (known_signal_after known.aspect known.number indicated client)
stays_so known aspect indicated client stays (inl e) = aspect_after known.aspect aspect known.number indicated client e
stays_so known aspect indicated client stays (inr out) = inr (after_client (λ (c : ClientState). is_outside c.stage ≡ true) known.aspect known.number indicated client (stays out))

-- ---- routes

pub quiet_proceeds : (old new : RouteState) → IsQuiet old new → is_proceeding new.phase ≡ true → is_proceeding old.phase ≡ true
quiet_proceeds old new (inl (same, cancelled)) proceeds = ap is_proceeding (sym same) ∙ proceeds
quiet_proceeds old new (inr (over, undone, set, still)) proceeds = absurd (false≢true (sym (over_rests new.phase over).1 ∙ proceeds))

-- a route that is withdrawn doesn't proceed
pub withdrawn_not : (number k : ℕ) (route other : RouteState) (routes : List RouteState) → k ≡ number → slice_get routes number ≡ Some route → slice_get (changed (come_to Phase.Withdrawn) number routes) k ≡ Some other → is_proceeding other.phase ≡ true → ⊥
withdrawn_not number k route other routes same there e proceeds =
    let is = same_Some other (come_to Phase.Withdrawn route) (sym e ∙ (ap (slice_get (changed (come_to Phase.Withdrawn) number routes)) same ∙ changed_here (come_to Phase.Withdrawn) number routes route there))
    in false≢true (ap (λ (r : RouteState). is_proceeding r.phase) (sym is) ∙ proceeds)

module _ (now : ℕ) (table : Table) (Else : KnownSignalState → Type 0) where
  abbrev Given : List RouteState → List KnownSignalState → Type 0
  Given = AspectsGiven table Else

  quiet_given : (number : ℕ) (change : RouteState → RouteState) (routes : List RouteState) (signals : List KnownSignalState) → ((route : RouteState) → slice_get routes number ≡ Some route → IsQuiet route (change route)) → Given routes signals
      → Given (changed change number routes) signals
  quiet_given number change routes signals quiet is = record {
    stand = (stand_keep now table).rules.quiet number change routes signals quiet is.stand;
    given = λ k row route known there proceeds e. let was = had_aspect table number k change row route routes (λ one f g. quiet_proceeds one (change one) (quiet one f) g) there proceeds in is.given k row was.was known was.at was.proceeds e;
  }

  sets_given : (route : RouteId) (ixl : IxlState) → refusal now table (Command.Request route) ixl ≡ None → Given ixl.routes ixl.known_signals → Given (changed set_anew route.0 ixl.routes) ixl.known_signals
  sets_given route ixl none is = record {
    stand = (stand_keep now table).sets route ixl tt none is.stand;
    given = λ k row other known there proceeds e. let was = had_aspect table route.0 k set_anew row other ixl.routes (λ one f g. absurd (false≢true g)) there proceeds in is.given k row was.was known was.at was.proceeds e;
  }

  falls_given : (number : ℕ) (row : Row) (route : RouteState) (routes : List RouteState) (signals : List KnownSignalState) → AtRoute table number row route routes → is_proceeding route.phase ≡ true
      → at signals row.entry (λ known. is_ready known.client.stage) ≡ false → Given routes signals → Given (changed (come_to Phase.Withdrawn) number routes) signals
  falls_given number row route routes signals there proceeds unready is = record {
    stand = (stand_keep now table).falls number row route routes signals there proceeds unready is.stand;
    given = λ k other other_route known other_there other_proceeds e.
        let was = had_aspect table number k (come_to Phase.Withdrawn) other other_route routes (λ one f g. absurd (false≢true g)) other_there other_proceeds in is.given k other was.was known was.at was.proceeds e;
  }

  -- where a signal is given stop, another route from it doesn't proceed
  withdraws_given : (number : ℕ) (row : Row) (route : RouteState) (known : KnownSignalState) (items : ℕ) (client : ClientState) (routes : List RouteState) (signals : List KnownSignalState) → AtRoute table number row route routes
      → is_proceeding route.phase ≡ true → slice_get signals row.entry ≡ Some known → IsGiven now Aspect.Stop known.client client → Given routes signals
      → Given (changed (come_to Phase.Withdrawn) number routes) (changed (λ old. new_signal Aspect.Stop items client known) row.entry signals)
  withdraws_given number row route known items client routes signals there proceeds e so is = record {
    stand = (stand_keep now table).withdraws number row route known items client routes signals there proceeds e so is.stand;
    given = λ k other other_route later other_there other_proceeds f. by_signal k other other_route later other_there other_proceeds (set_at row.entry (new_signal Aspect.Stop items client known) signals other.entry later f);
  }
    where
      by_signal : (k : ℕ) (other : Row) (other_route : RouteState) (later : KnownSignalState) → AtRoute table k other other_route (changed (come_to Phase.Withdrawn) number routes) → is_proceeding other_route.phase ≡ true
          → ((other.entry ≡ row.entry) × (later ≡ new_signal Aspect.Stop items client known)) ⊎ ((other.entry ≢ row.entry) × (slice_get signals other.entry ≡ Some later)) → (later.aspect ≡ Some other.aspect) ⊎ Else later
      by_signal k other other_route later other_there other_proceeds (inl (same, so_is)) =
          let was = had_aspect table number k (come_to Phase.Withdrawn) other other_route routes (λ one f g. absurd (false≢true g)) other_there other_proceeds
          in let one = is.stand.apart k number other row was.was route was.at there same (proceeding_set was.was.phase was.proceeds) (proceeding_set route.phase proceeds)
          in absurd (withdrawn_not number k route other_route routes one there.there other_there.there other_proceeds)
      by_signal k other other_route later other_there other_proceeds (inr (differ, f)) =
          let was = had_aspect table number k (come_to Phase.Withdrawn) other other_route routes (λ one g h. absurd (false≢true h)) other_there other_proceeds in is.given k other was.was later was.at was.proceeds f

-- ---- between two steps, and from the second rule on

module _ (now : ℕ) (table : Table) where
  abbrev Given_out : List RouteState → List KnownSignalState → Type 0
  Given_out = AspectsGiven table IsOut

  weaker : (routes : List RouteState) (signals : List KnownSignalState) → Given_out routes signals → AspectsGiven table IsUnready routes signals
  weaker routes signals is = record { stand = is.stand; given = λ number row route known there proceeds e. or_unready known row.aspect (is.given number row route known there proceeds e) }

  clock_given : (routes : List RouteState) (signals : List KnownSignalState) → Given_out routes signals → Given_out routes (map (clocked_known_signal now) signals)
  clock_given routes signals is = record {
    stand = (stand_keep now table).clock routes signals is.stand;
    given = λ number row route known there proceeds e. let was = mapped_at (clocked_known_signal now) signals row.entry known e
        in subst (λ (k : KnownSignalState). (k.aspect ≡ Some row.aspect) ⊎ IsOut k) (sym was.2)
        (stays_so was.0 row.aspect was.0.indicated (clocked now was.0.client) (outside_clocked now was.0.client) (is.given number row route was.0 there proceeds was.1));
  }

  ticks_given : (place : ℕ) (known : KnownSignalState) (outbox : OutboxState) (routes : List RouteState) (signals : List KnownSignalState) → slice_get signals place ≡ Some known → Given_out routes signals
      → Given_out routes (changed (λ old. known_signal_after known.aspect known.number known.indicated (ticking now (begun known.client outbox)).client) place signals)
  ticks_given place known outbox routes signals there is = record {
    stand = (stand_keep now table).rules.ticks place known outbox routes signals there is.stand;
    given = λ number row route later route_there proceeds e. by_signal number row route later route_there proceeds (set_at place new signals row.entry later e);
  }
    where
      new : KnownSignalState
      new = known_signal_after known.aspect known.number known.indicated (ticking now (begun known.client outbox)).client

      by_signal : (number : ℕ) (row : Row) (route : RouteState) (later : KnownSignalState) → AtRoute table number row route routes → is_proceeding route.phase ≡ true
          → ((row.entry ≡ place) × (later ≡ new)) ⊎ ((row.entry ≢ place) × (slice_get signals row.entry ≡ Some later)) → (later.aspect ≡ Some row.aspect) ⊎ IsOut later
      by_signal number row route later route_there proceeds (inl (same, so)) = subst (λ (k : KnownSignalState). (k.aspect ≡ Some row.aspect) ⊎ IsOut k) (sym so)
          (stays_so known row.aspect known.indicated (ticking now (begun known.client outbox)).client (outside_ticks now known.client outbox) (is.given number row route known route_there proceeds (ap (slice_get signals) same ∙ there)))
      by_signal number row route later route_there proceeds (inr (differ, f)) = is.given number row route later route_there proceeds f

  -- a route is given its aspect
  proceeds_given : (number : ℕ) (row : Row) (route : RouteState) (known : KnownSignalState) (items : ℕ) (client : ClientState) (change : RouteState → RouteState) (routes : List RouteState) (signals : List KnownSignalState)
      → AtRoute table number row route routes → is_waiting route.phase ≡ true → route.cancelled ≡ false → ((one : RouteState) → (change one).phase ≡ Phase.Proceeding) → slice_get signals row.entry ≡ Some known
      → IsGiven now row.aspect known.client client → Given_out routes signals → Given_out (changed change number routes) (changed (λ old. new_signal row.aspect items client known) row.entry signals)
  proceeds_given number row route known items client change routes signals there waits goes_on changes e so is = record {
    stand = (stand_keep now table).rules.proceeds number row route known items client change routes signals there waits goes_on changes e so is.stand;
    given = λ k other other_route later other_there proceeds f. by_route k other other_route later other_there proceeds (changed_at change number routes k other_route other_there.there) (set_at row.entry new signals other.entry later f);
  }
    where
      new : KnownSignalState
      new = new_signal row.aspect items client known

      BySignal : Row → KnownSignalState → Type 0
      BySignal other later = ((other.entry ≡ row.entry) × (later ≡ new)) ⊎ ((other.entry ≢ row.entry) × (slice_get signals other.entry ≡ Some later))

      -- the route itself
      own : (other : Row) (later : KnownSignalState) → other ≡ row → BySignal other later → (later.aspect ≡ Some other.aspect) ⊎ IsOut later
      own other later is_row (inl (same, is_new)) = subst (λ (k : KnownSignalState). (k.aspect ≡ Some other.aspect) ⊎ IsOut k) (sym is_new)
          (subst (λ (r : Row). (new.aspect ≡ Some r.aspect) ⊎ IsOut new) (sym is_row) (aspect_after (Some row.aspect) row.aspect items known.indicated client refl))
      own other later is_row (inr (differ, f)) = absurd (differ (ap (λ (r : Row). r.entry) is_row))

      -- no other one from this signal is set
      another : (k : ℕ) (other : Row) (other_route : RouteState) (later : KnownSignalState) → AtRoute table k other other_route routes → is_proceeding other_route.phase ≡ true → BySignal other later → (later.aspect ≡ Some other.aspect) ⊎ IsOut later
      another k other other_route later other_there proceeds (inl (same, is_new)) =
          let one = is.stand.apart k number other row other_route route other_there there same (proceeding_set other_route.phase proceeds) (waiting_set route.phase waits)
          in let both = same_Some other_route route (sym other_there.there ∙ (ap (slice_get routes) one ∙ there.there))
          in absurd (apart_phases route.phase waits (ap (λ (r : RouteState). is_proceeding r.phase) (sym both) ∙ proceeds))
        where
          apart_phases : (p : _) → is_waiting p ≡ true → is_proceeding p ≡ true → ⊥
          apart_phases Phase.Free f g = false≢true f
          apart_phases Phase.Waiting f g = false≢true g
          apart_phases Phase.Proceeding f g = false≢true f
          apart_phases Phase.Withdrawn f g = false≢true f
          apart_phases (Phase.Ended clock done) f g = false≢true f
      another k other other_route later other_there proceeds (inr (differ, f)) = is.given k other other_route later other_there proceeds f

      by_route : (k : ℕ) (other : Row) (other_route : RouteState) (later : KnownSignalState) → AtRoute table k other other_route (changed change number routes) → is_proceeding other_route.phase ≡ true
          → ((k ≡ number) × (was : RouteState) × (slice_get routes number ≡ Some was) × (other_route ≡ change was)) ⊎ (slice_get routes k ≡ Some other_route) → BySignal other later → (later.aspect ≡ Some other.aspect) ⊎ IsOut later
      by_route k other other_route later other_there proceeds (inl (same, was, f, g)) = own other later (same_Some other row (sym other_there.row_there ∙ (ap (slice_get table.rows) same ∙ there.row_there)))
      by_route k other other_route later other_there proceeds (inr f) = another k other other_route later (record { row_there = other_there.row_there; there = f }) proceeds

  out_keep : RulesKeep now table Given_out
  out_keep = record { quiet = quiet_given now table IsOut; proceeds = proceeds_given; ticks = ticks_given }

  -- a client that was outside isn't ready after what it hears
  hears_given : (place : ℕ) (known : KnownSignalState) (bytes : List ℕ) (outbox : OutboxState) (indicated : Option Aspect) (routes : List RouteState) (signals : List KnownSignalState) → slice_get signals place ≡ Some known
      → (IsOut known → IsOutside known.client) → Given_out routes signals
      → AspectsGiven table IsUnready routes (changed (λ old. known_signal_after known.aspect known.number indicated (hearing now bytes (begun known.client outbox)).client) place signals)
  hears_given place known bytes outbox indicated routes signals there outs is = record {
    stand = (stand_keep now table).client place known client indicated routes signals there (hears bytes outbox refl) is.stand;
    given = λ number row route later route_there proceeds e. by_signal number row route later route_there proceeds (set_at place new signals row.entry later e);
  }
    where
      client : ClientState
      client = (hearing now bytes (begun known.client outbox)).client

      new : KnownSignalState
      new = known_signal_after known.aspect known.number indicated client

      heard : (aspect : Aspect) → (known.aspect ≡ Some aspect) ⊎ IsOut known → (new.aspect ≡ Some aspect) ⊎ IsUnready new
      heard aspect (inl e) = or_unready new aspect (aspect_after known.aspect aspect known.number indicated client e)
      heard aspect (inr out) = inr (after_client (λ (c : ClientState). is_ready c.stage ≡ false) known.aspect known.number indicated client (outside_hears now bytes known.client outbox (outs out)))

      by_signal : (number : ℕ) (row : Row) (route : RouteState) (later : KnownSignalState) → AtRoute table number row route routes → is_proceeding route.phase ≡ true
          → ((row.entry ≡ place) × (later ≡ new)) ⊎ ((row.entry ≢ place) × (slice_get signals row.entry ≡ Some later)) → (later.aspect ≡ Some row.aspect) ⊎ IsUnready later
      by_signal number row route later route_there proceeds (inl (same, so)) = subst (λ (k : KnownSignalState). (k.aspect ≡ Some row.aspect) ⊎ IsUnready k) (sym so)
          (heard row.aspect (is.given number row route known route_there proceeds (ap (slice_get signals) same ∙ there)))
      by_signal number row route later route_there proceeds (inr (differ, f)) = or_unready later row.aspect (is.given number row route later route_there proceeds f)

-- ---- what comes, and the looks

module _ (now : ℕ) (table : Table) where
  abbrev Unready : StepSoFar → Type 0
  Unready part = AspectsGiven table IsUnready part.ixl.routes part.ixl.known_signals

  abbrev Out : StepSoFar → Type 0
  Out part = AspectsGiven table IsOut part.ixl.routes part.ixl.known_signals

  -- the clients that are outside as the input comes are outside their links, too
  abbrev pub OutsSo : List KnownSignalState → Type 0
  OutsSo signals = (place : ℕ) (known : KnownSignalState) → slice_get signals place ≡ Some known → IsOut known → IsOutside known.client

  unready : (part : StepSoFar) → Out part → Unready part
  unready part is = weaker now table part.ixl.routes part.ixl.known_signals is

  quietly : (number : ℕ) (change : RouteState → RouteState) (part : StepSoFar) → ((route : RouteState) → slice_get part.ixl.routes number ≡ Some route → IsQuiet route (change route))
      → Unready part → Unready (with_route number change part)
  quietly number change part quiet is = quiet_given now table IsUnready number change part.ixl.routes part.ixl.known_signals quiet is

  watching_kept : (number : ℕ) (part : StepSoFar) → Unready part → Unready (watching table number part)
  watching_kept = watching_keeps now table Unready quietly

  looking_kept : (look : ℕ × Bool) (part : StepSoFar) → Unready part → Unready (looking table look part)
  looking_kept = looking_keeps now table Unready quietly

  heard_kept : (bytes : List ℕ) (node : Node) (part : StepSoFar) → OutsSo part.ixl.known_signals → Out part → Unready (node_hearing now table bytes node part)
  unfolding node_hearing known_signal_hearing known_point_hearing detector_hearing
  heard_kept bytes (Signal place) part outs is = one_keeps Unready (slice_get part.ixl.known_signals place) _ part (λ known e.
      hears_given now table place known bytes part.outbox _ part.ixl.routes part.ixl.known_signals e (outs place known e) is) (unready part is)
  heard_kept bytes (Point place) part outs is = one_keeps Unready (slice_get part.ixl.known_points place) _ part (λ known e. unready part is) (unready part is)
  heard_kept bytes (Detector place) part outs is = one_keeps Unready (slice_get table.detectors place) _ part (λ sections f. one_keeps Unready (slice_get part.ixl.detectors place) _ part (λ known e.
      let done = hearing now bytes (begun known.client part.outbox)
      in along_keeps Unready (looking table) looking_kept (looks sections known done.heard done.client)
      (with_detector place (detector_after (occupied_heard done.heard known.occupied) done.client) (noted (Detector place) done part)) (unready part is)) (unready part is)) (unready part is)

  moves_kept : (point : ℕ) (side : Side) (part : StepSoFar) → Unready part → Unready (giving_move now point side part)
  unfolding giving_move
  moves_kept point side part is = one_keeps Unready (slice_get part.ixl.known_points point) _ part (λ known e. is) is

  obeyed_kept : (command : Command) (part : StepSoFar) → refusal now table command part.ixl ≡ None → Out part → Unready (record part { ixl = obeyed now command part.ixl })
  unfolding obeyed
  obeyed_kept (Command.Request route) part none is = sets_given now table IsUnready route part.ixl none (unready part is)
  obeyed_kept (Command.Cancel route) part none is = quiet_given now table IsUnready route.0 (λ old. record old { cancelled = true }) part.ixl.routes part.ixl.known_signals (λ one e. inl (refl, λ cancelled. refl)) (unready part is)
  obeyed_kept Command.Resume part none is = unready part is
  obeyed_kept (Command.Release route) part none is = quiet_given now table IsUnready route.0 (released_at now) part.ixl.routes part.ixl.known_signals (λ one e. inl (refl, λ cancelled. cancelled)) (unready part is)
  obeyed_kept (Command.Move point side) part none is = unready part is
  obeyed_kept (Command.Close named) part none is = unready part is
  obeyed_kept (Command.Open named) part none is = unready part is

  commanded_kept : (cause : Option Refusal) (command : Command) (part : StepSoFar) → refusal now table command part.ixl ≡ cause → Out part → Unready (record part { ixl = commanded_by now cause command part.ixl })
  commanded_kept None command part e is = obeyed_kept command part e is
  commanded_kept (Some cause) command part e is = unready part is

  heard_at : (bytes : List ℕ) (found : Option Node) (part : StepSoFar) → OutsSo part.ixl.known_signals → Out part → Unready (with_one found (node_hearing now table bytes) part)
  heard_at bytes None part outs is = unready part is
  heard_at bytes (Some node) part outs is = heard_kept bytes node part outs is

  given_kept : (key : Key) (input : Input) (part : StepSoFar) → OutsSo part.ixl.known_signals → Out part → Unready (given now table key input part)
  unfolding given
  given_kept key Tick part outs is = unready part is
  given_kept key (Datagram bytes) part outs is = heard_at bytes (addressed (reading key bytes) part.ixl) part outs is
  given_kept key (Commands command) part outs is =
      moved_keeps Unready now table (λ point side part available. moves_kept point side part) (refusal now table command part.ixl) command part refl
      (commanded_kept (refusal now table command part.ixl) command part refl is)

-- ---- the first rule

-- one of these routes, or the one of this turn
fewer_or : (k n : ℕ) → k < suc n → (k < n) ⊎ (k ≡ n)
fewer_or k n few = decide (k == n) refl
  where
    decide : (b : Bool) → (k == n) ≡ b → (k < n) ⊎ (k ≡ n)
    decide true e = inr (is_equal k n e)
    decide false e = inl (grind (arith, nat_tests, e, few))

module _ (now : ℕ) (table : Table) where
  -- After the turns at so many routes the signal of each of them that proceeds is ready.
  record StoppedTo (many : ℕ) (routes : List RouteState) (signals : List KnownSignalState) : Type 0 where
    kept : AspectsGiven table IsUnready routes signals
    ready : (k : ℕ) (row : Row) (route : RouteState) (known : KnownSignalState) → k < many → AtRoute table k row route routes → is_proceeding route.phase ≡ true → slice_get signals row.entry ≡ Some known → is_ready known.client.stage ≡ true

  -- a turn that changes nothing
  unchanged : (n : ℕ) (routes : List RouteState) (signals : List KnownSignalState) → StoppedTo n routes signals
      → ((row : Row) (route : RouteState) (known : KnownSignalState) → AtRoute table n row route routes → is_proceeding route.phase ≡ true → slice_get signals row.entry ≡ Some known → is_ready known.client.stage ≡ true) → StoppedTo (suc n) routes signals
  unchanged n routes signals is own = record { kept = is.kept; ready = λ k row route known few there proceeds e. by_place k row route known there proceeds e (fewer_or k n few) }
    where
      by_place : (k : ℕ) (row : Row) (route : RouteState) (known : KnownSignalState) → AtRoute table k row route routes → is_proceeding route.phase ≡ true → slice_get signals row.entry ≡ Some known → (k < n) ⊎ (k ≡ n) → is_ready known.client.stage ≡ true
      by_place k row route known there proceeds e (inl fewer) = is.ready k row route known fewer there proceeds e
      by_place k row route known there proceeds e (inr same) = own row route known (record { row_there = ap (slice_get table.rows) (sym same) ∙ there.row_there; there = ap (slice_get routes) (sym same) ∙ there.there }) proceeds e

  -- a turn at a route that is withdrawn
  module _ (n : ℕ) (routes : List RouteState) (signals : List KnownSignalState) (is : StoppedTo n routes signals) (row : Row) (route : RouteState) (there : AtRoute table n row route routes) (proceeds : is_proceeding route.phase ≡ true) where
    abbrev routes_then : List RouteState
    routes_then = changed (come_to Phase.Withdrawn) n routes

    ready_before : (k : ℕ) (other : Row) (other_route : RouteState) (known : KnownSignalState) → k < suc n → AtRoute table k other other_route routes_then → is_proceeding other_route.phase ≡ true → slice_get signals other.entry ≡ Some known
        → is_ready known.client.stage ≡ true
    ready_before k other other_route known few other_there other_proceeds e = by_place (fewer_or k n few)
      where
        by_place : (k < n) ⊎ (k ≡ n) → is_ready known.client.stage ≡ true
        by_place (inl fewer) = let was = had_aspect table n k (come_to Phase.Withdrawn) other other_route routes (λ one f g. absurd (false≢true g)) other_there other_proceeds in is.ready k other was.was known fewer was.at was.proceeds e
        by_place (inr same) = absurd (withdrawn_not n k route other_route routes same there.there other_there.there other_proceeds)

    -- its signal isn't ready
    falls_stopped : at signals row.entry (λ known. is_ready known.client.stage) ≡ false → StoppedTo (suc n) routes_then signals
    falls_stopped not_ready = record { kept = falls_given now table IsUnready n row route routes signals there proceeds not_ready is.kept; ready = ready_before }

    -- it is given stop
    given_stopped : (known : KnownSignalState) (items : ℕ) (client : ClientState) → slice_get signals row.entry ≡ Some known → IsGiven now Aspect.Stop known.client client
        → StoppedTo (suc n) routes_then (changed (λ old. new_signal Aspect.Stop items client known) row.entry signals)
    given_stopped known items client e so = record {
      kept = withdraws_given now table IsUnready n row route known items client routes signals there proceeds e so is.kept;
      ready = λ k other other_route later few other_there other_proceeds f. by_signal k other other_route later few other_there other_proceeds (set_at row.entry (new_signal Aspect.Stop items client known) signals other.entry later f);
    }
      where
        by_signal : (k : ℕ) (other : Row) (other_route : RouteState) (later : KnownSignalState) → k < suc n → AtRoute table k other other_route routes_then → is_proceeding other_route.phase ≡ true
            → ((other.entry ≡ row.entry) × (later ≡ new_signal Aspect.Stop items client known)) ⊎ ((other.entry ≢ row.entry) × (slice_get signals other.entry ≡ Some later)) → is_ready later.client.stage ≡ true
        by_signal k other other_route later few other_there other_proceeds (inl (same, is_new)) =
            let was = had_aspect table n k (come_to Phase.Withdrawn) other other_route routes (λ one f g. absurd (false≢true g)) other_there other_proceeds
            in let one = is.kept.stand.apart k n other row was.was route was.at there same (proceeding_set was.was.phase was.proceeds) (proceeding_set route.phase proceeds)
            in absurd (withdrawn_not n k route other_route routes one there.there other_there.there other_proceeds)
        by_signal k other other_route later few other_there other_proceeds (inr (differ, f)) = ready_before k other other_route later few other_there other_proceeds f

  abbrev Stopped : ℕ → StepSoFar → Type 0
  Stopped many part = StoppedTo many part.ixl.routes part.ixl.known_signals

  -- where stop isn't due at a route that proceeds, its signal is ready
  ready_there : (ixl : IxlState) (row : Row) (route : RouteState) → is_stop_due table ixl row route ≡ false → is_proceeding route.phase ≡ true → is_signal_ready ixl row.entry ≡ true
  ready_there ixl row route not_due proceeds = last (is_proceeding route.phase) route.cancelled (not (all_known ixl row.needs)) (not (all_clear table ixl row.sections)) (is_signal_ready ixl row.entry) not_due proceeds
    where
      last : (a b c d e : Bool) → (a && (b || c || d || not e)) ≡ false → a ≡ true → e ≡ true
      last a b c d true f g = refl
      last true true c d false f g = absurd (false≢true (sym f))
      last true false true d false f g = absurd (false≢true (sym f))
      last true false false true false f g = absurd (false≢true (sym f))
      last true false false false false f g = absurd (false≢true (sym f))
      last false b c d false f g = absurd (false≢true g)

  -- a turn of the rule
  module _ (n : ℕ) (part : StepSoFar) (is : Stopped n part) where
    stops : (row : Row) (route : RouteState) → AtRoute table n row route part.ixl.routes → is_proceeding route.phase ≡ true → Stopped (suc n) (stopped now row (with_route n (come_to Phase.Withdrawn) part))
    unfolding giving_aspect
    stops row route there proceeds = by_ready (is_signal_ready part.ixl row.entry) refl
      where
        one_given : (found : Option KnownSignalState) (does : KnownSignalState → StepSoFar → StepSoFar) (then_part : StepSoFar) → (found ≡ None → ⊥) → ((known : KnownSignalState) → found ≡ Some known → Stopped (suc n) (does known then_part)) → Stopped (suc n) (with_one found does then_part)
        one_given None does then_part some each = absurd (some refl)
        one_given (Some known) does then_part some each = each known refl

        by_ready : (b : Bool) → is_signal_ready part.ixl row.entry ≡ b → Stopped (suc n) (if b then giving_aspect now row.entry Aspect.Stop (with_route n (come_to Phase.Withdrawn) part) else with_route n (come_to Phase.Withdrawn) part)
        by_ready true e = one_given (slice_get part.ixl.known_signals row.entry) _ (with_route n (come_to Phase.Withdrawn) part) (none_passes part.ixl.known_signals row.entry (λ known. is_ready known.client.stage) e)
            (λ known f. given_stopped n part.ixl.routes part.ixl.known_signals is row route there proceeds known _ _ f
            (record { ready = test_of part.ixl.known_signals row.entry (λ one. is_ready one.client.stage) known f e; outbox = part.outbox; is = refl }))
        by_ready false e = falls_stopped n part.ixl.routes part.ixl.known_signals is row route there proceeds e

    turn : (row : Row) (route : RouteState) → AtRoute table n row route part.ixl.routes → Stopped (suc n) (if is_stop_due table part.ixl row route then stopped now row (with_route n (come_to Phase.Withdrawn) part) else part)
    turn row route there = by_due (is_stop_due table part.ixl row route) refl
      where
        by_due : (b : Bool) → is_stop_due table part.ixl row route ≡ b → Stopped (suc n) (if b then stopped now row (with_route n (come_to Phase.Withdrawn) part) else part)
        by_due true due = stops row route there (first_true (is_proceeding route.phase) _ due)
        by_due false not_due = unchanged n part.ixl.routes part.ixl.known_signals is (λ own own_route known own_there proceeds e.
            let same_row : row ≡ own = same_Some row own (sym there.row_there ∙ own_there.row_there)
            in let same_route : route ≡ own_route = same_Some route own_route (sym there.there ∙ own_there.there)
            in let ready = ready_there part.ixl row route not_due (ap (λ (r : RouteState). is_proceeding r.phase) same_route ∙ proceeds)
            in test_of part.ixl.known_signals own.entry (λ one. is_ready one.client.stage) known e (ap (λ (r : Row). is_signal_ready part.ixl r.entry) (sym same_row) ∙ ready))

    withdrawing_stopped : Stopped (suc n) (withdrawing now table n part)
    unfolding withdrawing at_route
    withdrawing_stopped = by_row (slice_get table.rows n) refl
      where
        does : Row → RouteState → StepSoFar → StepSoFar
        does row route so_far = if is_stop_due table so_far.ixl row route then stopped now row (with_route n (come_to Phase.Withdrawn) so_far) else so_far

        by_route : (row : Row) → slice_get table.rows n ≡ Some row → (found : Option RouteState) → slice_get part.ixl.routes n ≡ found → Stopped (suc n) (with_one found (does row) part)
        by_route row e None f = unchanged n part.ixl.routes part.ixl.known_signals is (λ own own_route known own_there proceeds g. absurd (none-some own_route (sym f ∙ own_there.there)))
        by_route row e (Some route) f = turn row route (record { row_there = e; there = f })

        by_row : (found : Option Row) → slice_get table.rows n ≡ found → Stopped (suc n) (with_one found (λ row so_far. with_one (slice_get so_far.ixl.routes n) (does row) so_far) part)
        by_row None e = unchanged n part.ixl.routes part.ixl.known_signals is (λ own own_route known own_there proceeds g. absurd (none-some own (sym e ∙ own_there.row_there)))
        by_row (Some row) e = by_route row e (slice_get part.ixl.routes n) refl

  withdrawn_to : (many : ℕ) (part : StepSoFar) → Unready now table part → Stopped many (over (withdrawing now table) many part)
  withdrawn_to zero part is = record { kept = is; ready = λ k row route known few there proceeds e. absurd (omega (arith, few)) }
  withdrawn_to (suc many) part is = withdrawing_stopped many (over (withdrawing now table) many part) (withdrawn_to many part is)

  -- after all its turns
  withdrawn_gives : (part : StepSoFar) → Unready now table part → Out now table (withdrawn now table part)
  withdrawn_gives part is = record {
    stand = all.kept.stand;
    given = λ number row route known there proceeds e. by_given number row route known there proceeds e (all.kept.given number row route known there proceeds e);
  }
    where
      all : Stopped (count table) (withdrawn now table part)
      all = withdrawn_to (count table) part is

      by_given : (number : ℕ) (row : Row) (route : RouteState) (known : KnownSignalState) → AtRoute table number row route (withdrawn now table part).ixl.routes → is_proceeding route.phase ≡ true
          → slice_get (withdrawn now table part).ixl.known_signals row.entry ≡ Some known → (known.aspect ≡ Some row.aspect) ⊎ IsUnready known → (known.aspect ≡ Some row.aspect) ⊎ IsOut known
      by_given number row route known there proceeds e (inl given) = inl given
      by_given number row route known there proceeds e (inr unready_so) = absurd (false≢true (sym unready_so ∙ all.ready number row route known (within_some table.rows number row there.row_there) there proceeds e))

  -- ---- a whole step

  pub step_gives : (key : Key) (input : Input) (part : StepSoFar) → OutsSo now table (map (clocked_known_signal now) part.ixl.known_signals) → Out now table part → Out now table (stepped now table key input part)
  unfolding stepped all_clocked
  step_gives key input part outs is =
      ticked_held now table (Given_out now table) keep input _ (behind_ending now table (Given_out now table) keep _ (over_held now table (Given_out now table) keep (ending_authority now table) (ending_held now table (Given_out now table) keep) (count table) _
      (withdrawn_gives _ (over_keeps (Unready now table) (watching table) (watching_kept now table) (count table) _
      (given_kept now table key input (record part { ixl = all_clocked now part.ixl }) outs (clock_given now table part.ixl.routes part.ixl.known_signals is))))))
    where
      keep : RulesKeep now table (Given_out now table)
      keep = out_keep now table
