-- While a route is withdrawn its signal is given no aspect, whatever requests and occupancies come.
use Rattle.simulator_recovery.proofs.Words.Basics.{◌≡◌, inl, inr, ℕ, Bool, true, false, List, [], ◌∷◌, ◌++◌, Option, Some, None, slice_get, refl, sym, ap, subst, ◌∙◌, false≢true, none-some, same_Some, ◌≢◌, ◌⊎◌}
use Rattle.simulator_recovery.proofs.Words.Links.{Each, reading_of}
use Rattle.simulator_recovery.proofs.Words.Interlockings.{refusal, is_withdrawn, IxlState, RouteState, Input, all_clocked, answer_by, reply, SitedTable, Table, Command, Refusal, Phase, set_anew, come_to, is_proceeding, is_waiting, KnownSignalState, changed, begun_with, empty_outbox, Row, is_set}
use Rattle.simulator_recovery.proofs.Words.Stations.{Site, Event, Answer, Flowing, round, answered, answered_by, happens, interlocking_stepped, WorldState, Played, after, key_of}
use Rattle.simulator_recovery.proofs.Words.Recovery.{IsWork, all_tried, good_rounds, IsNotSetAnew, NoneSets, SetsNot, LawsBelow, GivesNoMore, IsWithdrawnFrom, NoneProceeds}
use Rattle.simulator_recovery.proofs.Words.Controllers.{Aspect}
use Rattle.simulator_recovery.proofs.Lemmas.Lamps.Cancelled.{OfRoute, RouteKeeps}
use Rattle.simulator_recovery.proofs.Lemmas.Lamps.GivenNoMore.{RestsSo, quiet_rests, round_keeps, IsAs, Rests, over_rests, rests_keep}
use Rattle.simulator_recovery.proofs.Lemmas.Lamps.ProceedsRounds.{IxlGoes, anew, event_goes, stays, steps}
use Rattle.simulator_recovery.proofs.Lemmas.Rounds.Rounds.{IsAt, round_reached, rounds_reached, tried_keeps, tried_reached}
use Rattle.simulator_recovery.proofs.Lemmas.Ground.SignalParts.{IsOver, IsQuiet, AtRoute, PartsKeep, new_signal}
use Rattle.simulator_recovery.proofs.Lemmas.RoutesGoing.WithdrawnSteps.{Apart, stepped_apart, held_apart}
use Rattle.simulator_recovery.proofs.Lemmas.Lamps.ConfirmedStops.{standing_then}
use Rattle.simulator_recovery.proofs.Lemmas.Ground.IxlClients.{changed_at}
use Rattle.simulator_recovery.proofs.Lemmas.Lamps.StopsGiven.{StopsStand, proceeding_set, stand_keep, waiting_set}

-- ---- what each step of an interlocking keeps that doesn't set a route anew is kept over good rounds, whatever else comes between them

-- a command that isn't refused is accepted
accepted_so : (site : Site) (table : Table) (command : Command) (world : WorldState) → refusal (reading_of world.interlocking.clock) table command (all_clocked (reading_of world.interlocking.clock) world.interlocking.ixl) ≡ None
    → answered site table (Event.Request command) world ≡ Answer.Accepted
unfolding answered reply
accepted_so site table command world none = ap (λ (cause : Option Refusal). answered_by (answer_by cause)) none

-- ---- rounds, and what comes between them

module _ (reach : LawsBelow) (sited : SitedTable) (number : ℕ) (P : IxlState → Type 0)
    (step : (input : Input) (world : WorldState) → Apart sited.table number input world → P world.interlocking.ixl → P (interlocking_stepped sited.site sited.table input world).interlocking.ixl) where
  event_keeps : (one : Event) (world : WorldState) → IsWork one → (answered sited.site sited.table one world ≡ Answer.Accepted → SetsNot number one) → P world.interlocking.ixl → P (happens sited.site sited.table one world).interlocking.ixl
  event_keeps one world work apart is = by (event_goes sited.site sited.table one world)
    where
      by : IxlGoes sited.site sited.table one world (happens sited.site sited.table one world) → P (happens sited.site sited.table one world).interlocking.ixl
      by (stays same) = subst P (sym same) is
      by (steps input asks same) = subst P (sym same) (step input world (λ command e none. subst (SetsNot number) (asks command e)
          (apart (ap (λ (o : Event). answered sited.site sited.table o world) (asks command e) ∙ accepted_so sited.site sited.table command world none))) is)
      by (anew node clock begins restart same) = absurd (subst IsWork restart work)

  events_keep : (events : List Event) (f : Flowing) → Each IsWork events → NoneSets number events f → IsAt sited f.state → P f.state.run.interlocking.ixl → P (all_tried events f).state.run.interlocking.ixl
  events_keep [] f work apart at is = is
  events_keep (one ∷ others) f work apart at is = events_keep others (record f { state = after f.state one }) work.1 apart.1 (tried_reached reach sited f.state one at)
      (tried_keeps (λ (w : Played). P w.run.interlocking.ixl) f.state one is (λ none. subst (λ (s : SitedTable). P (happens s.site s.table one f.state.run).interlocking.ixl) (sym at.same) (event_keeps one f.state.run work.0
      (subst (λ (s : SitedTable). answered s.site s.table one f.state.run ≡ Answer.Accepted → SetsNot number one) at.same apart.0) is)))

  round_so : (f : Flowing) → IsAt sited f.state → P f.state.run.interlocking.ixl → P (round f).state.run.interlocking.ixl
  round_so f at is = round_keeps sited P (λ input world none so. step input world (λ command e accepted. absurd (none command e)) so) f at.same is

  pub rounds_keep : (more : List (List Event)) (f : Flowing) → Each (Each IsWork) more → IsNotSetAnew number more f → IsAt sited f.state → P f.state.run.interlocking.ixl → P (good_rounds more f).state.run.interlocking.ixl
  rounds_keep [] f works apart at is = is
  rounds_keep (between ∷ others) f works apart at is = rounds_keep others (all_tried between (round f)) works.1 apart.1 (rounds_reached reach sited (between ∷ []) f at)
      (events_keep between (round f) works.0 apart.0 (round_reached reach sited f at) (round_so f at is))

-- a route that isn't set anew in some rounds and then in others
pub anew_two : (number : ℕ) (one other : List (List Event)) (f : Flowing) → IsNotSetAnew number (one ++ other) f → IsNotSetAnew number one f × IsNotSetAnew number other (good_rounds one f)
anew_two number [] other f apart = (tt, apart)
anew_two number (first ∷ one) other f apart = let more = anew_two number one other (all_tried first (round f)) apart.1 in ((apart.0, more.0), more.1)

-- ---- one route

-- what the parts of a step keep of it
pub route_kept : LawsBelow → (sited : SitedTable) (number : ℕ) (F : RouteState → Type 0) → RouteKeeps F → (more : List (List Event)) (f : Flowing) → Each (Each IsWork) more → IsNotSetAnew number more f → IsAt sited f.state
    → OfRoute number F f.state.run.interlocking.ixl.routes [] → OfRoute number F (good_rounds more f).state.run.interlocking.ixl.routes []
route_kept reach sited number F keeps = rounds_keep reach sited number (λ (ixl : IxlState). OfRoute number F ixl.routes []) (stepped_apart F keeps sited.site sited.table number)

-- it has no aspect, and waits for none but where it is cancelled
pub rests_keeps : RouteKeeps RestsSo
rests_keeps = record {
  quiet = quiet_rests;
  withdrawn = λ route is proceeds. absurd (false≢true (sym is.1 ∙ proceeds));
  waits_not = λ route is waits not_so. false≢true (sym not_so ∙ is.0 waits);
}

-- and isn't withdrawn
abbrev pub IsIdle : RouteState → Type 0
IsIdle route = RestsSo route × (is_withdrawn route.phase ≡ false)

pub over_idle : (p : Phase) → IsOver p → is_withdrawn p ≡ false
over_idle Phase.Free over = refl
over_idle (Phase.Ended clock done) over = refl
over_idle Phase.Waiting over = absurd over
over_idle Phase.Proceeding over = absurd over
over_idle Phase.Withdrawn over = absurd over

idle_quiet : (old new : RouteState) → IsQuiet old new → IsIdle old → IsIdle new
idle_quiet old new (inl (same, kept)) is = (quiet_rests old new (inl (same, kept)) is.0, ap is_withdrawn same ∙ is.1)
idle_quiet old new (inr (over, undone, set, kept)) is = (quiet_rests old new (inr (over, undone, set, kept)) is.0, over_idle new.phase over)

idle_keeps : RouteKeeps IsIdle
idle_keeps = record {
  quiet = idle_quiet;
  withdrawn = λ route is proceeds. absurd (false≢true (sym is.0.1 ∙ proceeds));
  waits_not = λ route is waits not_so. false≢true (sym not_so ∙ is.0.0 waits);
}

pub withdrawn_is : (p : Phase) → is_withdrawn p ≡ true → p ≡ Phase.Withdrawn
withdrawn_is Phase.Free e = absurd (false≢true e)
withdrawn_is Phase.Waiting e = absurd (false≢true e)
withdrawn_is Phase.Proceeding e = absurd (false≢true e)
withdrawn_is Phase.Withdrawn e = refl
withdrawn_is (Phase.Ended clock done) e = absurd (false≢true e)

-- A route that is withdrawn after rounds in which it isn't set anew was withdrawn before them, where it had no aspect then, and didn't wait
-- to have one.
pub was_withdrawn : LawsBelow → (sited : SitedTable) (number : ℕ) (more : List (List Event)) (f : Flowing) → Each (Each IsWork) more → IsNotSetAnew number more f → IsAt sited f.state
    → OfRoute number RestsSo f.state.run.interlocking.ixl.routes [] → (later : RouteState) → slice_get (good_rounds more f).state.run.interlocking.ixl.routes number ≡ Some later → later.phase ≡ Phase.Withdrawn
    → (route : RouteState) × (slice_get f.state.run.interlocking.ixl.routes number ≡ Some route) × (route.phase ≡ Phase.Withdrawn)
was_withdrawn reach sited number more f works apart at rests later is withdrawn = by_route (slice_get f.state.run.interlocking.ixl.routes number) refl
  where
    idle : OfRoute number IsIdle f.state.run.interlocking.ixl.routes [] → ⊥
    idle so = false≢true (sym (route_kept reach sited number IsIdle idle_keeps more f works apart at so later is).1 ∙ ap is_withdrawn withdrawn)

    by_test : (route : RouteState) → slice_get f.state.run.interlocking.ixl.routes number ≡ Some route → (b : Bool) → is_withdrawn route.phase ≡ b
        → (route : RouteState) × (slice_get f.state.run.interlocking.ixl.routes number ≡ Some route) × (route.phase ≡ Phase.Withdrawn)
    by_test route e true so = (route, e, withdrawn_is route.phase so)
    by_test route e false so = absurd (idle (λ one there. let same = same_Some route one (sym e ∙ there) in subst IsIdle same (rests route e, so)))

    by_route : (found : Option RouteState) → slice_get f.state.run.interlocking.ixl.routes number ≡ found
        → (route : RouteState) × (slice_get f.state.run.interlocking.ixl.routes number ≡ Some route) × (route.phase ≡ Phase.Withdrawn)
    by_route None e = absurd (idle (λ one there. absurd (none-some one (sym e ∙ there))))
    by_route (Some route) e = by_test route e (is_withdrawn route.phase) refl

-- ---- while a route is withdrawn its signal is given no aspect, whatever requests and occupancies come

-- a signal is as it was, or was given no aspect
abbrev pub GivenAs : ℕ → Option Aspect → ℕ → List KnownSignalState → Type 0
GivenAs signal aspect items signals = (known : KnownSignalState) → slice_get signals signal ≡ Some known → IsAs aspect items known

-- a route is free, or its authority has ended; or it is withdrawn, and its signal was given no more
abbrev OverOrAs : ℕ → Option Aspect → ℕ → List KnownSignalState → RouteState → Type 0
OverOrAs signal aspect items signals route = IsOver route.phase ⊎ ((is_withdrawn route.phase ≡ true) × GivenAs signal aspect items signals)

-- So it is of a route that was withdrawn, where set routes stand apart.
pub record Still (table : Table) (number signal : ℕ) (aspect : Option Aspect) (items : ℕ) (routes : List RouteState) (signals : List KnownSignalState) : Type 0 where
  pub stand : StopsStand table routes signals
  pub route : (one : RouteState) → slice_get routes number ≡ Some one → OverOrAs signal aspect items signals one

-- ---- phases

waiting_not : (p : Phase) → is_waiting p ≡ true → is_withdrawn p ≡ false
waiting_not Phase.Free e = refl
waiting_not Phase.Waiting e = refl
waiting_not Phase.Proceeding e = refl
waiting_not Phase.Withdrawn e = absurd (false≢true e)
waiting_not (Phase.Ended clock done) e = refl

proceeding_not : (p : Phase) → is_proceeding p ≡ true → is_withdrawn p ≡ false
proceeding_not Phase.Free e = refl
proceeding_not Phase.Waiting e = refl
proceeding_not Phase.Proceeding e = refl
proceeding_not Phase.Withdrawn e = absurd (false≢true e)
proceeding_not (Phase.Ended clock done) e = refl

withdrawn_set : (p : Phase) → is_withdrawn p ≡ true → is_set p ≡ true
withdrawn_set Phase.Free e = absurd (false≢true e)
withdrawn_set Phase.Waiting e = refl
withdrawn_set Phase.Proceeding e = refl
withdrawn_set Phase.Withdrawn e = refl
withdrawn_set (Phase.Ended clock done) e = refl

over_not : (p : Phase) → IsOver p → is_withdrawn p ≡ true → ⊥
over_not Phase.Free over e = false≢true e
over_not (Phase.Ended clock done) over e = false≢true e
over_not Phase.Waiting over e = over
over_not Phase.Proceeding over e = over
over_not Phase.Withdrawn over e = over

-- ---- the parts of a step

module _ (now : ℕ) (table : Table) (number : ℕ) (row : Row) (row_there : slice_get table.rows number ≡ Some row) (aspect : Option Aspect) (items : ℕ) where
  abbrev Holds : List RouteState → List KnownSignalState → Type 0
  Holds = Still table number row.entry aspect items

  abbrev Given : List KnownSignalState → Type 0
  Given = GivenAs row.entry aspect items

  abbrev So : List KnownSignalState → RouteState → Type 0
  So = OverOrAs row.entry aspect items

  -- the signal alone
  alone : (signals : List KnownSignalState) → Given signals → Rests table row.entry aspect items [] signals
  alone signals held = record { none = λ place other route e f entry. absurd (none-some route f); given = held }

  moves : (old new : List KnownSignalState) → (Given old → Given new) → (one : RouteState) → So old one → So new one
  moves old new so one (inl over) = inl over
  moves old new so one (inr (withdrawn, held)) = inr (withdrawn, so held)

  quiet_so : (signals : List KnownSignalState) (old new : RouteState) → IsQuiet old new → So signals old → So signals new
  quiet_so signals old new (inr (over, undone, set, kept)) is = inl over
  quiet_so signals old new (inl (same, kept)) (inl over) = inl (subst IsOver (sym same) over)
  quiet_so signals old new (inl (same, kept)) (inr (withdrawn, held)) = inr (ap is_withdrawn same ∙ withdrawn, held)

  -- where a route is changed
  turned : (place : ℕ) (change : RouteState → RouteState) (routes : List RouteState) (signals : List KnownSignalState) → ((was : RouteState) → slice_get routes place ≡ Some was → number ≡ place → So signals (change was))
      → ((one : RouteState) → slice_get routes number ≡ Some one → So signals one) → (one : RouteState) → slice_get (changed change place routes) number ≡ Some one → So signals one
  turned place change routes signals so is one e = choose (changed_at change place routes number one e)
    where
      choose : ((number ≡ place) × (was : RouteState) × (slice_get routes place ≡ Some was) × (one ≡ change was)) ⊎ (slice_get routes number ≡ Some one) → So signals one
      choose (inl (same, was, f, g)) = subst (So signals) (sym g) (so was f same)
      choose (inr f) = is one f

  -- where another signal is given an aspect
  given_elsewhere : (signal : ℕ) (new : KnownSignalState) (signals : List KnownSignalState) → row.entry ≢ signal → Given signals → Given (changed (λ old. new) signal signals)
  given_elsewhere signal new signals differ held known e = choose (changed_at (λ old. new) signal signals row.entry known e)
    where
      choose : ((row.entry ≡ signal) × (was : KnownSignalState) × (slice_get signals signal ≡ Some was) × (known ≡ new)) ⊎ (slice_get signals row.entry ≡ Some known) → IsAs aspect items known
      choose (inl (same, was, f, g)) = absurd (differ same)
      choose (inr f) = held known f

  -- A route that waits or has its aspect is another one, and begins at another signal while this one is withdrawn.
  module _ (place : ℕ) (other : Row) (route : RouteState) (routes : List RouteState) (signals : List KnownSignalState) (holds : Holds routes signals) (at : AtRoute table place other route routes)
      (set : is_set route.phase ≡ true) (on : IsOver route.phase → ⊥) (unwithdrawn : is_withdrawn route.phase ≡ false) where
    another : number ≢ place
    another same = choose (holds.route route (ap (slice_get routes) same ∙ at.there))
      where
        choose : So signals route → ⊥
        choose (inl over) = on over
        choose (inr (withdrawn, held)) = false≢true (sym unwithdrawn ∙ withdrawn)

    elsewhere : (one : RouteState) → slice_get routes number ≡ Some one → is_withdrawn one.phase ≡ true → row.entry ≢ other.entry
    elsewhere one there withdrawn same = another (holds.stand.apart number place row other one route (record { row_there = row_there; there = there }) at same (withdrawn_set one.phase withdrawn) set)

    -- it alone is changed
    falls_so : (change : RouteState → RouteState) (one : RouteState) → slice_get (changed change place routes) number ≡ Some one → So signals one
    falls_so change = turned place change routes signals (λ was e same. absurd (another same)) holds.route

    -- and its signal is given an aspect
    given_so : (change : RouteState → RouteState) (new : KnownSignalState) (one : RouteState) → slice_get (changed change place routes) number ≡ Some one → So (changed (λ old. new) other.entry signals) one
    given_so change new = turned place change routes (changed (λ old. new) other.entry signals) (λ was e same. absurd (another same)) (λ one there. on_there one there (holds.route one there))
      where
        on_there : (one : RouteState) → slice_get routes number ≡ Some one → So signals one → So (changed (λ old. new) other.entry signals) one
        on_there one there (inl over) = inl over
        on_there one there (inr (withdrawn, held)) = inr (withdrawn, given_elsewhere other.entry new signals (elsewhere one there withdrawn) held)

  waiting_on : (p : Phase) → is_waiting p ≡ true → IsOver p → ⊥
  waiting_on p waits over = false≢true (sym (over_rests p over).0 ∙ waits)

  proceeding_on : (p : Phase) → is_proceeding p ≡ true → IsOver p → ⊥
  proceeding_on p proceeds over = false≢true (sym (over_rests p over).1 ∙ proceeds)

  pub still_keep : PartsKeep now table (λ command. SetsNot number (Event.Request command)) Holds
  still_keep = record {
    rules = record {
      quiet = λ place change routes signals quiet holds. record {
        stand = (stand_keep now table).rules.quiet place change routes signals quiet holds.stand;
        route = turned place change routes signals (λ was e same. quiet_so signals was (change was) (quiet was e) (holds.route was (ap (slice_get routes) same ∙ e))) holds.route;
      };
      proceeds = λ place other route known many client change routes signals at waits goes_on proceeds there so holds. record {
        stand = (stand_keep now table).rules.proceeds place other route known many client change routes signals at waits goes_on proceeds there so holds.stand;
        route = given_so place other route routes signals holds at (waiting_set route.phase waits) (waiting_on route.phase waits) (waiting_not route.phase waits) change (new_signal other.aspect many client known);
      };
      ticks = λ place known outbox routes signals there holds. record {
        stand = (stand_keep now table).rules.ticks place known outbox routes signals there holds.stand;
        route = λ one e. moves signals _ (λ held. ((rests_keep now table row.entry aspect items).rules.ticks place known outbox [] signals there (alone signals held)).given) one (holds.route one e);
      };
    };
    clock = λ routes signals holds. record {
      stand = (stand_keep now table).clock routes signals holds.stand;
      route = λ one e. moves signals _ (λ held. ((rests_keep now table row.entry aspect items).clock [] signals (alone signals held)).given) one (holds.route one e);
    };
    client = λ place known client indicated routes signals there goes holds. record {
      stand = (stand_keep now table).client place known client indicated routes signals there goes holds.stand;
      route = λ one e. moves signals _ (λ held. ((rests_keep now table row.entry aspect items).client place known client indicated [] signals there goes (alone signals held)).given) one (holds.route one e);
    };
    withdraws = λ place other route known many client routes signals at proceeds there so holds. record {
      stand = (stand_keep now table).withdraws place other route known many client routes signals at proceeds there so holds.stand;
      route = given_so place other route routes signals holds at (proceeding_set route.phase proceeds) (proceeding_on route.phase proceeds) (proceeding_not route.phase proceeds) (come_to Phase.Withdrawn) (new_signal Aspect.Stop many client known);
    };
    falls = λ place other route routes signals at proceeds not_ready holds. record {
      stand = (stand_keep now table).falls place other route routes signals at proceeds not_ready holds.stand;
      route = falls_so place other route routes signals holds at (proceeding_set route.phase proceeds) (proceeding_on route.phase proceeds) (proceeding_not route.phase proceeds) (come_to Phase.Withdrawn);
    };
    sets = λ route ixl obeys none holds. record {
      stand = (stand_keep now table).sets route ixl tt none holds.stand;
      route = turned route.0 set_anew ixl.routes ixl.known_signals (λ was e same. absurd (obeys (sym same))) holds.route;
    };
  }

-- ---- a step

abbrev pub StillIn : Table → ℕ → ℕ → Option Aspect → ℕ → IxlState → Type 0
StillIn table number signal aspect items ixl = Still table number signal aspect items ixl.routes ixl.known_signals

stepped_still : (site : Site) (table : Table) (number : ℕ) (row : Row) → slice_get table.rows number ≡ Some row → (aspect : Option Aspect) (items : ℕ) (input : Input) (world : WorldState) → Apart table number input world
    → StillIn table number row.entry aspect items world.interlocking.ixl → StillIn table number row.entry aspect items (interlocking_stepped site table input world).interlocking.ixl
unfolding interlocking_stepped
stepped_still site table number row there aspect items input world apart is = held_apart (reading_of world.interlocking.clock) table number (Still table number row.entry aspect items)
    (still_keep (reading_of world.interlocking.clock) table number row there aspect items) (key_of site) input (begun_with world.interlocking.ixl empty_outbox) apart is

-- ---- over rounds

module _ (reach : LawsBelow) (sited : SitedTable) (number : ℕ) (row : Row) (there : slice_get sited.table.rows number ≡ Some row) (more : List (List Event)) (f : Flowing) (works : Each (Each IsWork) more)
    (apart : IsNotSetAnew number more f) (at : IsAt sited f.state) where
  abbrev end : IxlState
  end = (good_rounds more f).state.run.interlocking.ixl

  -- the route is withdrawn before and after them
  given_none : (route later : RouteState) → slice_get f.state.run.interlocking.ixl.routes number ≡ Some route → route.phase ≡ Phase.Withdrawn → slice_get end.routes number ≡ Some later → later.phase ≡ Phase.Withdrawn
      → GivesNoMore row.entry f.state.run.interlocking.ixl end
  given_none route later is withdrawn is_then withdrawn_then before behind before_there behind_there = choose (still_end.route later is_then)
    where
      still : StillIn sited.table number row.entry before.aspect before.number f.state.run.interlocking.ixl
      still = record {
        stand = standing_then sited.site sited.table f.state.run at.reached;
        route = λ one e. inr (
          ap (λ (r : RouteState). is_withdrawn r.phase) (same_Some one route (sym e ∙ is)) ∙ ap is_withdrawn withdrawn,
          λ known g. inr (ap (λ (k : KnownSignalState). k.aspect) (same_Some known before (sym g ∙ before_there)), ap (λ (k : KnownSignalState). k.number) (same_Some known before (sym g ∙ before_there))),
        );
      }

      still_end : StillIn sited.table number row.entry before.aspect before.number end
      still_end = rounds_keep reach sited number (StillIn sited.table number row.entry before.aspect before.number) (stepped_still sited.site sited.table number row there before.aspect before.number) more f works apart at still

      choose : OverOrAs row.entry before.aspect before.number end.known_signals later → IsAs before.aspect before.number behind
      choose (inl over) = absurd (over_not later.phase over (ap is_withdrawn withdrawn_then))
      choose (inr (so, held)) = held behind behind_there

-- Where no route proceeds from a signal, or waits to but a cancelled one, and one is withdrawn from it after rounds in which this one isn't set
-- anew, the signal was given no aspect in these rounds: the route was withdrawn before them.
module _ (reach : LawsBelow) (sited : SitedTable) (signal : ℕ) (more : List (List Event)) (f : Flowing) (works : Each (Each IsWork) more) (at : IsAt sited f.state)
    (none : NoneProceeds sited.table f.state.run.interlocking.ixl signal) (still : IsWithdrawnFrom sited.table (good_rounds more f).state.run.interlocking.ixl signal) (apart : IsNotSetAnew still.number more f) where
  was : (route : RouteState) × (slice_get f.state.run.interlocking.ixl.routes still.number ≡ Some route) × (route.phase ≡ Phase.Withdrawn)
  was = was_withdrawn reach sited still.number more f works apart at (λ route e. none still.number still.row route (still.is_route.0, e) still.entry) still.route still.is_route.1 still.withdrawn

  pub gives_none : GivesNoMore signal f.state.run.interlocking.ixl (good_rounds more f).state.run.interlocking.ixl
  gives_none = subst (λ (s : ℕ). GivesNoMore s f.state.run.interlocking.ixl (good_rounds more f).state.run.interlocking.ixl) still.entry
      (given_none reach sited still.number still.row still.is_route.0 more f works apart at was.0 still.route was.1 was.2 still.is_route.1 still.withdrawn)
