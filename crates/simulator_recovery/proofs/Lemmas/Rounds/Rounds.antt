-- Rounds of a flow, one after another, with requests and occupancies between them.
use Rattle.simulator_recovery.proofs.Words.Basics.{◌≡◌, ℕ, zero, suc, ◌+◌, ◌*◌, ◌≤◌, Bool, true, false, nat_lt, List, [], ◌∷◌, ◌++◌, length, map, replicate, Option, Some, None, refl, sym, ap, subst, ◌∙◌, arith, if◌then◌else◌, slice_index_or, nat_tests}
use Rattle.simulator_recovery.proofs.Words.Links.{Each, reading_of, stops_at_greatest}
use Rattle.simulator_recovery.proofs.Words.Interlockings.{SitedTable, Table, is_holding}
use Rattle.simulator_recovery.proofs.Words.Stations.{Site, Once, IsStation, Event, NodeId, Refused, FoundDriven, RoundEvent, Outset, new_ixl, world_at, Flowing, all_did, deliveries, delivery, did, due, position_of, reach, reaches, round, round_of_time, ticks, happens, passed, nodes, refusal, after_all, WorldState, Played, after, world_where, IsReached}
use Rattle.simulator_recovery.proofs.Words.Recovery.{behind_time, event_of, HasTime, IsWork, all_tried, clocks_of, good_rounds, rounds_later, LawsBelow}
use Rattle.simulator_recovery.proofs.Lemmas.Rounds.Clocks.{AreStill, CanGoOn, HasAll, IsCalm, WasMade, calm_still, event_made, later, still, still_then, time_clocks, time_may_pass}

-- ---- an event that is tried

-- whatever holds of a station, and after the event where that can happen, holds after it was tried
pub tried_keeps : (P : Played → Type 0) (world : Played) (one : Event) → P world → (refusal world.sited.site one world.run ≡ None → P (record world { run = happens world.sited.site world.sited.table one world.run })) → P (after world one)
tried_keeps P world one before then_so = cases (refusal world.sited.site one world.run) refl
  where
    cases : (why : Option Refused) → refusal world.sited.site one world.run ≡ why → P (world_where why world (record world { run = happens world.sited.site world.sited.table one world.run }))
    cases None e = then_so e
    cases (Some why) e = before

pub tried_happens : (world : Played) (one : Event) → refusal world.sited.site one world.run ≡ None → after world one ≡ record world { run = happens world.sited.site world.sited.table one world.run }
tried_happens world one none = ap (λ (o : Option Refused). world_where o world (record world { run = happens world.sited.site world.sited.table one world.run })) none

-- ---- the events of a round

-- so is each event of a list
abbrev pub AllAre : (Event → Type 0) → List RoundEvent → Type 0
AllAre P [] = Unit {0}
AllAre P (first ∷ others) = P first.event × AllAre P others

pub all_joined : (P : Event → Type 0) (one other : List RoundEvent) → AllAre P one → AllAre P other → AllAre P (one ++ other)
all_joined P [] other first second = second
all_joined P (head ∷ one) other first second = (first.0, all_joined P one other first.1 second)

pub events_are : (P : Event → Type 0) (list : List RoundEvent) → AllAre P list → Each P (map event_of list)
events_are P [] all = tt
events_are P (first ∷ others) all = (all.0, events_are P others all.1)

-- what holds of deliveries, of ticks and of points that come to lie holds of all that is tried in a round after its time
module _ (P : Event → Type 0) (delivers : (node : NodeId) (bytes : List ℕ) → P (Event.Deliver node bytes)) (ticks_so : (node : NodeId) → P (Event.Tick node))
    (reaches_so : (point : _) (position : _) → P (Event.Reach point position)) where
  delivery_is : (place : ℕ) (arrival : Option (NodeId × List ℕ)) → AllAre P (delivery place arrival)
  delivery_is place None = tt
  delivery_is place (Some arrival) = (delivers arrival.0 arrival.1, tt)

  deliveries_are : (arrival : ℕ → Option (NodeId × List ℕ)) (place more : ℕ) → AllAre P (deliveries arrival place more)
  unfolding deliveries
  deliveries_are arrival place zero = tt
  deliveries_are arrival place (suc more) = all_joined P (delivery place (arrival place)) (deliveries arrival (suc place) more) (delivery_is place (arrival place))
      (deliveries_are arrival (suc place) more)

  ticks_are : (passed node more : ℕ) → AllAre P (ticks passed node more)
  unfolding ticks
  ticks_are passed node zero = tt
  ticks_are passed node (suc more) = (ticks_so (record { 0 = node }), ticks_are passed (suc node) more)

  reach_is : (passed point : ℕ) (drive : Option FoundDriven) → AllAre P (reach passed point drive)
  reach_is passed point None = tt
  reach_is passed point (Some drive) = choose (nat_lt drive.rounds 50)
    where
      choose : (b : Bool) → AllAre P (if b then [] else (record { event = Event.Reach (record { 0 = point }) (position_of drive.side); passed = passed } ∷ []))
      choose true = tt
      choose false = (reaches_so (record { 0 = point }) (position_of drive.side), tt)

  reaches_are : (passed point : ℕ) (drives : List (Option FoundDriven)) → AllAre P (reaches passed point drives)
  unfolding reaches
  reaches_are passed point [] = tt
  reaches_are passed point (drive ∷ drives) = all_joined P (reach passed point drive) (reaches passed (suc point) drives) (reach_is passed point drive) (reaches_are passed (suc point) drives)

  pub behind_time_are : (flowing : Flowing) → AllAre P (behind_time flowing)
  behind_time_are flowing = all_joined P (deliveries _ flowing.passed _) _ (deliveries_are _ flowing.passed _) (all_joined P (ticks _ 0 _) _ (ticks_are _ 0 _) (reaches_are _ 0 flowing.drives))

-- those after its time are calm
abbrev pub AreCalm : List RoundEvent → Type 0
AreCalm list = AllAre IsCalm list

pub calm_joined : (one other : List RoundEvent) → AreCalm one → AreCalm other → AreCalm (one ++ other)
calm_joined = all_joined IsCalm

pub ticks_calm : (passed node more : ℕ) → AreCalm (ticks passed node more)
ticks_calm = ticks_are IsCalm (λ node bytes. tt) (λ node. tt) (λ point position. tt)

pub reaches_calm : (passed point : ℕ) (drives : List (Option FoundDriven)) → AreCalm (reaches passed point drives)
reaches_calm = reaches_are IsCalm (λ node bytes. tt) (λ node. tt) (λ point position. tt)

pub behind_calm : (flowing : Flowing) → AreCalm (behind_time flowing)
behind_calm = behind_time_are IsCalm (λ node bytes. tt) (λ node. tt) (λ point position. tt)

-- what each event keeps, a list of them keeps
all_keeps : (P : Played → Type 0) → ((world : Played) (one : Event) → P world → P (after world one)) → (list : List RoundEvent) (flowing : Flowing) → P flowing.state → P (all_did list flowing).state
unfolding all_did
all_keeps P each [] flowing before = before
all_keeps P each (first ∷ others) flowing before = all_keeps P each others (did first flowing) (each flowing.state first.event before)

pub calm_keeps : (P : Played → Type 0) → ((world : Played) (one : Event) → IsCalm one → P world → P (after world one)) → (list : List RoundEvent) (flowing : Flowing) → AreCalm list → P flowing.state
    → P (all_did list flowing).state
unfolding all_did
calm_keeps P each [] flowing calm before = before
calm_keeps P each (first ∷ others) flowing calm before = calm_keeps P each others (did first flowing) calm.1 (each flowing.state first.event calm.0 before)

pub work_calm : (one : Event) → IsWork one → IsCalm one
work_calm (Event.Request command) work = tt
work_calm (Event.Occupy section occupancy) work = tt
work_calm (Event.Tick node) work = absurd work
work_calm (Event.Time elapsed clocks) work = absurd work
work_calm (Event.Deliver node bytes) work = absurd work
work_calm (Event.Lose bytes) work = absurd work
work_calm (Event.Reach point position) work = absurd work
work_calm (Event.Restart node clock first) work = absurd work

-- ---- good rounds are events

-- this station is of this data, and is reached
pub record IsAt (sited : SitedTable) (world : Played) : Type 0 where
  pub same : world.sited ≡ sited
  pub reached : IsReached sited.site sited.table world.run

module _ (laws : LawsBelow) (sited : SitedTable) where
  pub tried_reached : (world : Played) (one : Event) → IsAt sited world → IsAt sited (after world one)
  tried_reached world one is = tried_keeps (IsAt sited) world one is (λ none. record {
    same = is.same;
    reached = subst (λ (s : SitedTable). refusal s.site one world.run ≡ None → IsReached sited.site sited.table (happens s.site s.table one world.run)) (sym is.same)
        (λ still_none. laws.reached_worlds_are_safe_on sited.site sited.table one world.run is.reached still_none) none;
  })

  pub round_reached : (flowing : Flowing) → IsAt sited flowing.state → IsAt sited (round flowing).state
  round_reached flowing is = all_keeps (IsAt sited) tried_reached (due flowing) flowing is

  pub work_reached : (between : List Event) (flowing : Flowing) → IsAt sited flowing.state → IsAt sited (all_tried between flowing).state
  work_reached [] flowing is = is
  work_reached (first ∷ others) flowing is = work_reached others (record flowing { state = after flowing.state first }) (tried_reached flowing.state first is)

  pub rounds_reached : (between : List (List Event)) (flowing : Flowing) → IsAt sited flowing.state → IsAt sited (good_rounds between flowing).state
  rounds_reached [] flowing is = is
  rounds_reached (first ∷ others) flowing is = rounds_reached others (all_tried first (round flowing)) (work_reached first (round flowing) (round_reached flowing is))

pub reached_on : LawsBelow → (between : List (List Event)) (flowing : Flowing) → IsReached flowing.state.sited.site flowing.state.sited.table flowing.state.run
    → IsReached flowing.state.sited.site flowing.state.sited.table (good_rounds between flowing).state.run
reached_on laws between flowing is = (rounds_reached laws flowing.state.sited between flowing (record { same = refl; reached = is })).reached

-- ---- and take their time

-- A station as it was but for calm events.
record IsStill (sited : SitedTable) (old : WorldState) (world : Played) : Type 0 where
  same : world.sited ≡ sited
  is : AreStill old world.run

tried_still : (sited : SitedTable) (old : WorldState) (world : Played) (one : Event) → IsCalm one → IsStill sited old world → IsStill sited old (after world one)
tried_still sited old world one calm is = tried_keeps (IsStill sited old) world one is (λ none. record { same = is.same; is = still_then old world.run _ is.is (calm_still world.sited.site world.sited.table one world.run calm) })

work_still : (sited : SitedTable) (old : WorldState) (between : List Event) (flowing : Flowing) → Each IsWork between → IsStill sited old flowing.state → IsStill sited old (all_tried between flowing).state
work_still sited old [] flowing work is = is
work_still sited old (first ∷ others) flowing work is =
    work_still sited old others (record flowing { state = after flowing.state first }) work.1 (tried_still sited old flowing.state first (work_calm first work.0) is)

-- ---- clocks

pub each_can : (n : ℕ) (list : List ℕ) → Each (λ clock. clock + 10000 * suc n ≤ 9000000000000000) list → Each CanGoOn list
each_can n [] each = tt
each_can n (first ∷ others) each = let one = each.0 in (omega (arith, one), each_can n others each.1)

pub each_later : (n : ℕ) (list : List ℕ) → Each (λ clock. clock + 10000 * suc n ≤ 9000000000000000) list → Each (λ clock. clock + 10000 * n ≤ 9000000000000000) (map later list)
each_later n [] each = tt
each_later n (first ∷ others) each = let one = each.0 in (omega (arith, one), each_later n others each.1)

later_once_more : (n : ℕ) (list : List ℕ) → rounds_later n (map later list) ≡ rounds_later (suc n) list
later_once_more n [] = refl
later_once_more n (first ∷ others) = two (omega arith) (later_once_more n others)
  where
    two : {a b : ℕ} {l k : List ℕ} → a ≡ b → l ≡ k → a ∷ l ≡ b ∷ k
    two e f = cc (e, f)

later_none : (list : List ℕ) → list ≡ rounds_later 0 list
later_none [] = refl
later_none (first ∷ others) = two (omega arith) (later_none others)
  where
    two : {a b : ℕ} {l k : List ℕ} → a ≡ b → l ≡ k → a ∷ l ≡ b ∷ k
    two e f = cc (e, f)

-- ---- a round

pub time_happens : (site : Site) (table : Table) (world : WorldState) → happens site table (round_of_time site) world ≡ passed 10000 (replicate (nodes site) 10000) world
unfolding happens
time_happens site table world = refl

time_created : (elapsed : ℕ) (clocks : List ℕ) (world : WorldState) → (passed elapsed clocks world).interlocking.ixl.created ≡ world.interlocking.ixl.created
unfolding passed
time_created elapsed clocks world = refl

pub round_state : (flowing : Flowing) → (round flowing).state ≡ (all_did (behind_time flowing) (did (record { event = round_of_time flowing.state.sited.site; passed = flowing.passed }) flowing)).state
unfolding all_did
round_state flowing = refl

-- time passes in a round
time_goes : (world : Played) → HasAll world.sited.site world.run → Each CanGoOn (clocks_of world.run)
    → IsStill world.sited (passed 10000 (replicate (nodes world.sited.site) 10000) world.run) (after world (round_of_time world.sited.site))
time_goes world has can = subst (IsStill world.sited (passed 10000 (replicate (nodes world.sited.site) 10000) world.run)) (sym (tried_happens world (round_of_time world.sited.site) (time_may_pass world.sited.site world.run has can)))
    (record {
      same = refl;
      is = subst (AreStill (passed 10000 (replicate (nodes world.sited.site) 10000) world.run)) (sym (time_happens world.sited.site world.sited.table world.run))
          (still (passed 10000 (replicate (nodes world.sited.site) 10000) world.run));
    })

-- a round and what comes after it: each clock is 10 ms later
pub record GoesOn (old new : Played) : Type 0 where
  pub same : new.sited ≡ old.sited
  pub clocks : clocks_of new.run ≡ map later (clocks_of old.run)
  pub created : new.run.interlocking.ixl.created ≡ old.run.interlocking.ixl.created

pub one_round : (between : List Event) (flowing : Flowing) → Each IsWork between → HasAll flowing.state.sited.site flowing.state.run → Each CanGoOn (clocks_of flowing.state.run)
    → GoesOn flowing.state (all_tried between (round flowing)).state
one_round between flowing work has can = record {
  same = all.same;
  clocks = all.is.clocks ∙ time_clocks flowing.state.sited.site flowing.state.run has;
  created = all.is.created ∙ time_created 10000 (replicate (nodes flowing.state.sited.site) 10000) flowing.state.run;
}
  where
    then_world : WorldState
    then_world = passed 10000 (replicate (nodes flowing.state.sited.site) 10000) flowing.state.run

    first_did : Flowing
    first_did = did (record { event = round_of_time flowing.state.sited.site; passed = flowing.passed }) flowing

    behind : IsStill flowing.state.sited then_world (round flowing).state
    behind = subst (IsStill flowing.state.sited then_world) (sym (round_state flowing))
        (calm_keeps (IsStill flowing.state.sited then_world) (λ world one calm before. tried_still flowing.state.sited then_world world one calm before) (behind_time flowing) first_did (behind_calm flowing)
        (time_goes flowing.state has can))

    all : IsStill flowing.state.sited then_world (all_tried between (round flowing)).state
    all = work_still flowing.state.sited then_world between (round flowing) work behind

module _ (laws : LawsBelow) where
  pub has_all : (sited : SitedTable) (world : WorldState) → IsStation sited.site → Once sited.site → IsReached sited.site sited.table world → HasAll sited.site world
  has_all sited world station once is =
      let whole = (laws.stations_have_links_run sited.site sited.table is.outset is.events station once is.lies is.can).whole
      in subst (HasAll sited.site) (sym is.after) (record { signals = whole.signals; points = whole.points; detectors = whole.detectors })

  rounds_go : (between : List (List Event)) (flowing : Flowing) → IsStation flowing.state.sited.site → Once flowing.state.sited.site
      → IsReached flowing.state.sited.site flowing.state.sited.table flowing.state.run → Each (Each IsWork) between → HasTime (length between) flowing.state.run
      → (clocks_of (good_rounds between flowing).state.run ≡ rounds_later (length between) (clocks_of flowing.state.run))
      × ((good_rounds between flowing).state.run.interlocking.ixl.created ≡ flowing.state.run.interlocking.ixl.created)
  rounds_go [] flowing station once reached work can = (later_none (clocks_of flowing.state.run), refl)
  rounds_go (first ∷ others) flowing station once reached work can =
      let clocks = clocks_of flowing.state.run
      in let one = one_round first flowing work.0 (has_all flowing.state.sited flowing.state.run station once reached) (each_can (length others) clocks can)
      in let next = all_tried first (round flowing)
      in let at = work_reached laws flowing.state.sited first (round flowing) (round_reached laws flowing.state.sited flowing (record { same = refl; reached = reached }))
      in let rest = rounds_go others next (subst (λ (s : SitedTable). IsStation s.site) (sym at.same) station) (subst (λ (s : SitedTable). Once s.site) (sym at.same) once)
      (subst (λ (s : SitedTable). IsReached s.site s.table next.state.run) (sym at.same) at.reached) work.1
      (subst (Each (λ clock. clock + 10000 * length others ≤ 9000000000000000)) (sym one.clocks) (each_later (length others) clocks can))
      in (
        rest.0 ∙ (ap (rounds_later (length others)) one.clocks ∙ later_once_more (length others) clocks),
        rest.1 ∙ one.created,
      )

pub take_their_time : LawsBelow → (between : List (List Event)) (flowing : Flowing) → Once flowing.state.sited.site → IsStation flowing.state.sited.site
    → IsReached flowing.state.sited.site flowing.state.sited.table flowing.state.run → Each (Each IsWork) between → HasTime (length between) flowing.state.run
    → clocks_of (good_rounds between flowing).state.run ≡ rounds_later (length between) (clocks_of flowing.state.run)
take_their_time laws between flowing once station reached work can = (rounds_go laws between flowing station once reached work can).0

-- ---- the hold

all_made : (site : Site) (table : Table) (events : List Event) (world : WorldState) → WasMade site table world → WasMade site table (after_all site table events world)
all_made site table [] world was = was
all_made site table (first ∷ others) world was = all_made site table others (happens site table first world) (event_made site table first world was)

first_made : (site : Site) (table : Table) (outset : Outset) → WasMade site table (world_at site table outset)
unfolding world_at new_ixl
first_made site table outset = omega arith

reached_made : (site : Site) (table : Table) (world : WorldState) → IsReached site table world → WasMade site table world
reached_made site table world is = subst (WasMade site table) (sym is.after) (all_made site table is.events (world_at site table is.outset) (first_made site table is.outset))

later_station : (n : ℕ) (old new : WorldState) → clocks_of new ≡ rounds_later n (clocks_of old) → new.interlocking.clock ≡ old.interlocking.clock + 10000 * n
later_station n old new same = ap (λ (l : List ℕ). slice_index_or l 1 0) same

over_hold : (now created : ℕ) → created + 6000 ≤ now → nat_lt now (stops_at_greatest (created + 6000)) ≡ false
over_hold now created late = lt_false now (stops_at_greatest (created + 6000)) (omega (arith, late))
  where
    lt_false : (a b : ℕ) → b ≤ a → nat_lt a b ≡ false
    lt_false a b h = grind (arith, nat_tests)

pub hold_is_over : LawsBelow → (between : List (List Event)) (flowing : Flowing) → Once flowing.state.sited.site → IsStation flowing.state.sited.site
    → IsReached flowing.state.sited.site flowing.state.sited.table flowing.state.run → Each (Each IsWork) between → HasTime (length between) flowing.state.run → 600 ≤ length between
    → is_holding (reading_of (good_rounds between flowing).state.run.interlocking.clock) (good_rounds between flowing).state.run.interlocking.ixl ≡ false
hold_is_over laws between flowing once station reached work can long =
    let goes = rounds_go laws between flowing station once reached work can
    in let made = reached_made flowing.state.sited.site flowing.state.sited.table flowing.state.run reached
    in let clock = later_station (length between) flowing.state.run (good_rounds between flowing).state.run goes.0
    in let created = goes.1
    in over_hold (reading_of (good_rounds between flowing).state.run.interlocking.clock) (good_rounds between flowing).state.run.interlocking.ixl.created (omega (arith, made, clock, created, long))
