-- In a good round no aspect is given to a signal from which no route proceeds, and none waits but a cancelled one.
use Rattle.simulator_recovery.proofs.Words.Basics.{◌≡◌, ◌≢◌, ◌⊎◌, inl, inr, ℕ, true, false, List, [], ◌∷◌, Option, Some, None, slice_get, refl, sym, ap, subst, ◌∙◌, false≢true, none-some, same_Some}
use Rattle.simulator_recovery.proofs.Words.Links.{reading_of}
use Rattle.simulator_recovery.proofs.Words.Controllers.{Aspect}
use Rattle.simulator_recovery.proofs.Words.Interlockings.{ClientState, begun, clocked, ticking, come_to, is_proceeding, is_waiting, IxlState, KnownSignalState, RouteState, changed, Commands, Datagram, Input, Tick, clocked_known_signal, begun_with, empty_outbox, known_signal_after, Row, SitedTable, Table, Command, Phase}
use Rattle.simulator_recovery.proofs.Words.Stations.{Site, Event, RoundEvent, Flowing, all_did, did, due, round, delivered_to, detector_stepped, happens, interlocking_stepped, passed, point_stepped, signal_stepped, ticked_at, connection_of, copy_of, Detector, Interlocking, Node, key_of, node_at, WorldState, Played, after}
use Rattle.simulator_recovery.proofs.Words.Recovery.{GivesNoMore, NoneProceeds}
use Rattle.simulator_spec.specs.Nodes.{Point, Signal}
use Rattle.simulator_recovery.proofs.Lemmas.Ground.IxlClients.{changed_at, mapped_at, signal_is}
use Rattle.simulator_recovery.proofs.Lemmas.Rounds.Rounds.{AllAre, behind_time_are, tried_keeps}
use Rattle.simulator_recovery.proofs.Lemmas.Ground.SignalParts.{AtRoute, IsOver, IsQuiet, PartsKeep, new_signal, step_held}

-- ---- what is kept

-- as the signal was, or given none
abbrev pub IsAs : Option Aspect → ℕ → KnownSignalState → Type 0
IsAs aspect number known = (known.aspect ≡ None) ⊎ ((known.aspect ≡ aspect) × (known.number ≡ number))

-- a signal whose client is another
after_is : (aspect : Option Aspect) (number : ℕ) (indicated : Option Aspect) (client : ClientState) → IsAs aspect number (known_signal_after aspect number indicated client)
after_is aspect number indicated client = signal_is (IsAs aspect number) aspect number indicated client (λ outside. inl refl) (λ inside. inr (refl, refl))

as_then : (aspect : Option Aspect) (number : ℕ) (one other : KnownSignalState) → IsAs aspect number one → IsAs one.aspect one.number other → IsAs aspect number other
as_then aspect number one other was (inl none) = inl none
as_then aspect number one other (inl none) (inr (same, count)) = inl (same ∙ none)
as_then aspect number one other (inr (same, count)) (inr (again, more)) = inr (again ∙ same, more ∙ count)

-- a route has no aspect, and waits for none but where it is cancelled
abbrev pub RestsSo : RouteState → Type 0
RestsSo route = (is_waiting route.phase ≡ true → route.cancelled ≡ true) × (is_proceeding route.phase ≡ false)

-- No route that begins at the signal proceeds, or waits to, and the signal was given no more.
pub record Rests (table : Table) (signal : ℕ) (aspect : Option Aspect) (number : ℕ) (routes : List RouteState) (signals : List KnownSignalState) : Type 0 where
  pub none : (place : ℕ) (row : Row) (route : RouteState) → slice_get table.rows place ≡ Some row → slice_get routes place ≡ Some route → row.entry ≡ signal → RestsSo route
  pub given : (known : KnownSignalState) → slice_get signals signal ≡ Some known → IsAs aspect number known

pub over_rests : (p : Phase) → IsOver p → (is_waiting p ≡ false) × (is_proceeding p ≡ false)
over_rests Phase.Free over = (refl, refl)
over_rests (Phase.Ended clock done) over = (refl, refl)
over_rests Phase.Waiting over = absurd over
over_rests Phase.Proceeding over = absurd over
over_rests Phase.Withdrawn over = absurd over

pub quiet_rests : (old new : RouteState) → IsQuiet old new → RestsSo old → RestsSo new
quiet_rests old new (inl (same, cancelled)) rests = (λ waits. cancelled (rests.0 (ap is_waiting (sym same) ∙ waits)), ap is_proceeding same ∙ rests.1)
quiet_rests old new (inr (over, undone, set, kept)) rests = let so = over_rests new.phase over in (λ waits. absurd (false≢true (sym so.0 ∙ waits)), so.1)

-- no command comes
abbrev pub NoCommand : Command → Type 0
NoCommand command = ⊥

module _ (now : ℕ) (table : Table) (signal : ℕ) (aspect : Option Aspect) (number : ℕ) where
  abbrev Holds : List RouteState → List KnownSignalState → Type 0
  Holds = Rests table signal aspect number

  -- a route that begins elsewhere is another
  elsewhere : (place : ℕ) (row : Row) (route : RouteState) (change : RouteState → RouteState) (routes : List RouteState) (signals : List KnownSignalState) → AtRoute table place row route routes → row.entry ≢ signal → Holds routes signals
      → (k : ℕ) (other : Row) (now_so : RouteState) → slice_get table.rows k ≡ Some other → slice_get (changed change place routes) k ≡ Some now_so → other.entry ≡ signal → RestsSo now_so
  elsewhere place row route change routes signals at differ holds k other now_so e f entry = choose (changed_at change place routes k now_so f)
    where
      choose : ((k ≡ place) × (was : RouteState) × (slice_get routes place ≡ Some was) × (now_so ≡ change was)) ⊎ (slice_get routes k ≡ Some now_so) → RestsSo now_so
      choose (inl (same, was, g, h)) = absurd (differ (ap (λ (r : Row). r.entry) (same_Some row other (sym at.row_there ∙ (ap (slice_get table.rows) (sym same) ∙ e))) ∙ entry))
      choose (inr g) = holds.none k other now_so e g entry

  other_signal : (place : ℕ) (new : KnownSignalState) (routes : List RouteState) (signals : List KnownSignalState) → place ≢ signal → Holds routes signals → (known : KnownSignalState) → slice_get (changed (λ old. new) place signals) signal ≡ Some known → IsAs aspect number known
  other_signal place new routes signals differ holds known e = choose (changed_at (λ old. new) place signals signal known e)
    where
      choose : ((signal ≡ place) × (was : KnownSignalState) × (slice_get signals place ≡ Some was) × (known ≡ new)) ⊎ (slice_get signals signal ≡ Some known) → IsAs aspect number known
      choose (inl (same, was, g, h)) = absurd (differ (sym same))
      choose (inr g) = holds.given known g

  pub rests_keep : PartsKeep now table NoCommand Holds
  rests_keep = record {
    rules = record {
      quiet = λ place change routes signals quiet holds. record { none = λ k row route e f entry. same_route place change routes signals quiet holds k row route e f entry; given = holds.given };
      proceeds = λ place row route known items client change routes signals at waits goes_on proceeds there so holds.
          let differ : row.entry ≢ signal = λ entry. false≢true (sym goes_on ∙ (holds.none place row route at.row_there at.there entry).0 waits)
          in record { none = elsewhere place row route change routes signals at differ holds; given = other_signal row.entry (new_signal row.aspect items client known) routes signals differ holds };
      ticks = λ place known outbox routes signals there holds. record { none = holds.none; given = λ later e. same_signal place known (ticking now (begun known.client outbox)).client known.indicated routes signals there holds later e };
    };
    clock = λ routes signals holds. record {
      none = holds.none;
      given = λ known e. let was = mapped_at (clocked_known_signal now) signals signal known e
          in subst (IsAs aspect number) (sym was.2) (as_then aspect number was.0 (clocked_known_signal now was.0) (holds.given was.0 was.1) (after_is was.0.aspect was.0.number was.0.indicated (clocked now was.0.client)));
    };
    client = λ place known client indicated routes signals there goes holds. record { none = holds.none; given = λ later e. same_signal place known client indicated routes signals there holds later e };
    withdraws = λ place row route known items client routes signals at given there so holds.
        let differ : row.entry ≢ signal = λ entry. false≢true (sym (holds.none place row route at.row_there at.there entry).1 ∙ given)
        in record { none = elsewhere place row route (come_to Phase.Withdrawn) routes signals at differ holds; given = other_signal row.entry (new_signal Aspect.Stop items client known) routes signals differ holds };
    falls = λ place row route routes signals at given not_ready holds.
        let differ : row.entry ≢ signal = λ entry. false≢true (sym (holds.none place row route at.row_there at.there entry).1 ∙ given)
        in record { none = elsewhere place row route (come_to Phase.Withdrawn) routes signals at differ holds; given = holds.given };
    sets = λ route ixl never none holds. absurd never;
  }
    where
      same_signal : (place : ℕ) (known : KnownSignalState) (client : ClientState) (indicated : Option Aspect) (routes : List RouteState) (signals : List KnownSignalState) → slice_get signals place ≡ Some known → Holds routes signals
          → (later : KnownSignalState) → slice_get (changed (λ old. known_signal_after known.aspect known.number indicated client) place signals) signal ≡ Some later → IsAs aspect number later
      same_signal place known client indicated routes signals there holds later e = choose (changed_at (λ old. known_signal_after known.aspect known.number indicated client) place signals signal later e)
        where
          choose : ((signal ≡ place) × (was : KnownSignalState) × (slice_get signals place ≡ Some was) × (later ≡ known_signal_after known.aspect known.number indicated client)) ⊎ (slice_get signals signal ≡ Some later) → IsAs aspect number later
          choose (inl (same, was, g, h)) = subst (IsAs aspect number) (sym h) (as_then aspect number known (known_signal_after known.aspect known.number indicated client) (holds.given known (ap (slice_get signals) same ∙ there)) (after_is known.aspect known.number indicated client))
          choose (inr g) = holds.given later g

      same_route : (place : ℕ) (change : RouteState → RouteState) (routes : List RouteState) (signals : List KnownSignalState) → ((route : RouteState) → slice_get routes place ≡ Some route → IsQuiet route (change route)) → Holds routes signals
          → (k : ℕ) (row : Row) (route : RouteState) → slice_get table.rows k ≡ Some row → slice_get (changed change place routes) k ≡ Some route → row.entry ≡ signal → RestsSo route
      same_route place change routes signals quiet holds k row route e f entry = choose (changed_at change place routes k route f)
        where
          choose : ((k ≡ place) × (was : RouteState) × (slice_get routes place ≡ Some was) × (route ≡ change was)) ⊎ (slice_get routes k ≡ Some route) → RestsSo route
          choose (inl (same, was, g, h)) = subst RestsSo (sym h) (quiet_rests was (change was) (quiet was g) (holds.none k row was e (ap (slice_get routes) same ∙ g) entry))
          choose (inr g) = holds.none k row route e g entry

-- ---- the events of a round

-- an event of a round: no request comes
abbrev pub IsOfRound : Event → Type 0
IsOfRound (Event.Time elapsed clocks) = Unit {0}
IsOfRound (Event.Deliver node bytes) = Unit {0}
IsOfRound (Event.Tick node) = Unit {0}
IsOfRound (Event.Reach point position) = Unit {0}
IsOfRound _ = ⊥

abbrev pub AreOfRound : List RoundEvent → Type 0
AreOfRound list = AllAre IsOfRound list

pub due_of : (flowing : Flowing) → AreOfRound (due flowing)
due_of flowing = (tt, behind_time_are IsOfRound (λ node bytes. tt) (λ node. tt) (λ point position. tt) flowing)

-- ---- what each step of an interlocking keeps where no command comes

module _ (site : Site) (table : Table) (P : IxlState → Type 0)
    (steps : (input : Input) (world : WorldState) → ((command : Command) → input ≡ Commands command → ⊥) → P world.interlocking.ixl → P (interlocking_stepped site table input world).interlocking.ixl) where
  abbrev Resting : WorldState → Type 0
  Resting world = P world.interlocking.ixl

  ticked_rests : (at : Option Node) (world : WorldState) → Resting world → Resting (ticked_at site table at world)
  unfolding signal_stepped point_stepped detector_stepped
  ticked_rests None world rests = rests
  ticked_rests (Some Interlocking) world rests = steps Tick world (λ command e. absurd (cc e)) rests
  ticked_rests (Some (Signal place)) world rests = rests
  ticked_rests (Some (Point place)) world rests = rests
  ticked_rests (Some (Detector place)) world rests = rests

  delivered_rests : (bytes : List ℕ) (connection : ℕ) (at : Option Node) (world : WorldState) → Resting world → Resting (delivered_to site table bytes connection at world)
  unfolding signal_stepped point_stepped detector_stepped
  delivered_rests bytes connection None world rests = rests
  delivered_rests bytes connection (Some Interlocking) world rests = steps (Datagram bytes) world (λ command e. absurd (cc e)) rests
  delivered_rests bytes connection (Some (Signal place)) world rests = rests
  delivered_rests bytes connection (Some (Point place)) world rests = rests
  delivered_rests bytes connection (Some (Detector place)) world rests = rests

  event_rests : (one : Event) (world : WorldState) → IsOfRound one → Resting world → Resting (happens site table one world)
  unfolding happens passed point_stepped
  event_rests (Event.Time elapsed clocks) world of rests = rests
  event_rests (Event.Deliver node bytes) world of rests = delivered_rests bytes (connection_of (copy_of bytes world)) (node_at site node.0) world rests
  event_rests (Event.Tick node) world of rests = ticked_rests (node_at site node.0) world rests
  event_rests (Event.Reach point position) world of rests = rests
  event_rests (Event.Request command) world of rests = absurd of
  event_rests (Event.Occupy section occupancy) world of rests = absurd of
  event_rests (Event.Lose bytes) world of rests = absurd of
  event_rests (Event.Restart node clock first) world of rests = absurd of

-- a station of this data in which it is so
pub record RestsAt (sited : SitedTable) (P : IxlState → Type 0) (world : Played) : Type 0 where
  pub same : world.sited ≡ sited
  pub rests : P world.run.interlocking.ixl

module _ (sited : SitedTable) (P : IxlState → Type 0)
    (steps : (input : Input) (world : WorldState) → ((command : Command) → input ≡ Commands command → ⊥) → P world.interlocking.ixl → P (interlocking_stepped sited.site sited.table input world).interlocking.ixl) where
  tried_rests : (world : Played) (one : Event) → IsOfRound one → RestsAt sited P world → RestsAt sited P (after world one)
  tried_rests world one of is = tried_keeps (RestsAt sited P) world one is (λ none. record {
    same = is.same;
    rests = subst (λ (s : SitedTable). P (happens s.site s.table one world.run).interlocking.ixl) (sym is.same) (event_rests sited.site sited.table P steps one world.run of is.rests);
  })

  all_rest : (list : List RoundEvent) (flowing : Flowing) → AreOfRound list → RestsAt sited P flowing.state → RestsAt sited P (all_did list flowing).state
  unfolding all_did
  all_rest [] flowing of is = is
  all_rest (first ∷ others) flowing of is = all_rest others (did first flowing) of.1 (tried_rests flowing.state first.event of.0 is)

  -- so it is kept in a good round
  pub round_at : (flowing : Flowing) → RestsAt sited P flowing.state → RestsAt sited P (round flowing).state
  round_at flowing is = all_rest (due flowing) flowing (due_of flowing) is

  pub round_keeps : (flowing : Flowing) → flowing.state.sited ≡ sited → P flowing.state.run.interlocking.ixl → P (round flowing).state.run.interlocking.ixl
  round_keeps flowing same so = (round_at flowing (record { same = same; rests = so })).rests

module _ (site : Site) (table : Table) (signal : ℕ) (aspect : Option Aspect) (number : ℕ) where
  abbrev RestsIn : IxlState → Type 0
  RestsIn ixl = Rests table signal aspect number ixl.routes ixl.known_signals

  pub stepped_rests : (input : Input) (world : WorldState) → ((command : Command) → input ≡ Commands command → ⊥) → RestsIn world.interlocking.ixl → RestsIn (interlocking_stepped site table input world).interlocking.ixl
  unfolding interlocking_stepped
  stepped_rests input world none rests = step_held (reading_of world.interlocking.clock) table NoCommand (Rests table signal aspect number) (rests_keep (reading_of world.interlocking.clock) table signal aspect number) (key_of site) input
      (begun_with world.interlocking.ixl empty_outbox) none rests

round_rests : (flowing : Flowing) (signal : ℕ) (aspect : Option Aspect) (number : ℕ) → NoneProceeds flowing.state.sited.table flowing.state.run.interlocking.ixl signal
    → ((known : KnownSignalState) → slice_get flowing.state.run.interlocking.ixl.known_signals signal ≡ Some known → IsAs aspect number known)
    → Rests flowing.state.sited.table signal aspect number (round flowing).state.run.interlocking.ixl.routes (round flowing).state.run.interlocking.ixl.known_signals
round_rests flowing signal aspect number none given = round_keeps flowing.state.sited (λ (ixl : IxlState). Rests flowing.state.sited.table signal aspect number ixl.routes ixl.known_signals)
    (stepped_rests flowing.state.sited.site flowing.state.sited.table signal aspect number) flowing refl (record { none = λ place row route e f entry. none place row route (e, f) entry; given = given })

pub round_gives_no_more : (flowing : Flowing) (signal : ℕ) → NoneProceeds flowing.state.sited.table flowing.state.run.interlocking.ixl signal
    → GivesNoMore signal flowing.state.run.interlocking.ixl (round flowing).state.run.interlocking.ixl
round_gives_no_more flowing signal none before behind there is =
    (round_rests flowing signal before.aspect before.number none (λ known e. inr (ap (λ (k : KnownSignalState). k.aspect) (same_Some known before (sym e ∙ there)), ap (λ (k : KnownSignalState). k.number) (same_Some known before (sym e ∙ there))))).given behind is

pub round_stays : (flowing : Flowing) (signal : ℕ) → NoneProceeds flowing.state.sited.table flowing.state.run.interlocking.ixl signal
    → NoneProceeds flowing.state.sited.table (round flowing).state.run.interlocking.ixl signal
round_stays flowing signal none number row route is entry = by_known (slice_get flowing.state.run.interlocking.ixl.known_signals signal) refl
  where
    then_so : (aspect : Option Aspect) (count : ℕ) → ((known : KnownSignalState) → slice_get flowing.state.run.interlocking.ixl.known_signals signal ≡ Some known → IsAs aspect count known) → RestsSo route
    then_so aspect count given = (round_rests flowing signal aspect count none given).none number row route is.0 is.1 entry

    by_known : (found : Option KnownSignalState) → slice_get flowing.state.run.interlocking.ixl.known_signals signal ≡ found → RestsSo route
    by_known None e = then_so None 0 (λ known f. absurd (none-some known (sym e ∙ f)))
    by_known (Some one) e = then_so one.aspect one.number (λ known f. inr (ap (λ (k : KnownSignalState). k.aspect) (same_Some known one (sym f ∙ e)), ap (λ (k : KnownSignalState). k.number) (same_Some known one (sym f ∙ e))))
