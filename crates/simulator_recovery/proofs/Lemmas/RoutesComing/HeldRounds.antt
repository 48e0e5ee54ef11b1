-- What is so of the first of some rounds, and of a point at the end of one: what the laws of points and of routes are put together with.
use Rattle.simulator_recovery.proofs.Words.Basics.{◌≡◌, ℕ, true, refl, sym, subst, false≢true, ◌⊎◌, inl, inr, suc, ◌≤◌, ◌<◌, ◌∙◌, List, [], ◌∷◌, ◌++◌, length, None, Some, slice_get, ap, arith, Contains, length-append, All-contains, same_Some}
use Rattle.simulator_recovery.proofs.Words.Controllers.{Side}
use Rattle.simulator_recovery.proofs.Words.Interlockings.{IsTableOf, is_available, is_ready, Stage, HoldsPoint, IsAvailable, IsHeldAt, IsHeldWithAuthority, IsRouteOf, Known, IxlState, RouteState, Row, Table, ClientState, AllClear, At, IsClear, MoveDue, KnownPointState, Need, SitedTable, Command}
use Rattle.simulator_recovery.proofs.Words.Stations.{Site, WorldState, IsReached, Once, IsStation, RouteId, Event, Answer, Flowing, round, answered, happens, links, point_link, refusal, Played, IsStanding, IsWhole, client_states}
use Rattle.simulator_recovery.proofs.Words.Recovery.{IsHeldBehindAspect, IsPointReady, Proceeds, MoveLaw, RequestLaw, StopLaw, IsFreeFor, IsKnownOrOnItsWay, MayCome, HasAspect, KeepsSetting, Waits, IsReadyOn, ready_rounds, AcceptsRequest, AreBelowLimit, HasClearSections, IsKnownWithin, IsOnCourse, StaysClear, StaysSet, Throughout, and_request, as_request_comes, HasTime, IsWork, all_tried, clocks_of, good_rounds, AwaitsMove, LawsBelow}
use Rattle.simulator_recovery.proofs.Words.Links.{Each}
use Rattle.simulator_recovery.proofs.Lemmas.RoutesComing.HeldNeeds.{agree, in_order_of}
use Rattle.simulator_recovery.proofs.Lemmas.RoutesComing.DueRoutes.{always_apart}
use Rattle.simulator_recovery.proofs.Lemmas.RoutesComing.NothingDueStops.{Rests, all_rest, holds_each}
use Rattle.simulator_recovery.proofs.Lemmas.Ground.DueTests.{known_surely}
use Rattle.simulator_recovery.proofs.Lemmas.Ground.EndCalls.{each_both}
use Rattle.simulator_recovery.proofs.Lemmas.Rounds.FlowsStay.{each_split}
use Rattle.simulator_recovery.proofs.Lemmas.Links.Ready.{count_front, fewer_time}
use Rattle.simulator_recovery.proofs.Lemmas.Rounds.Rounds.{IsAt, round_reached, rounds_reached, tried_happens, work_reached}
use Rattle.simulator_recovery.proofs.Lemmas.RoutesComing.RoutesCome.{point_there}
use Rattle.simulator_recovery.proofs.Lemmas.Lamps.StopComes.{last_round, last_tried}
use Rattle.simulator_recovery.proofs.Lemmas.Windows.WindowsAlone.{below_two}

-- ---- a point that a route holds which proceeds is known at its side, and so is one that may come and is available

pub proceeding_known : StopLaw → MoveLaw → RequestLaw → (site : Site) (table : Table) (world : WorldState) (number : ℕ) (row : Row) (route : RouteState) (point : ℕ) (side another : Side)
    → IsTableOf site table → IsReached site table world → IsRouteOf table world.interlocking.ixl number row route → Proceeds route → HoldsPoint row route.phase point another
    → IsHeldAt table world.interlocking.ixl point side → IsPointReady world.interlocking.ixl point → Known world.interlocking.ixl point side
proceeding_known stop move request site table world number row route point side another is_table reached is proceeds holds held ready =
    subst (λ (s : Side). Known ixl point s) same
    (subst (λ (s : Side). Known ixl point s) holds.1.3 (subst (λ (p : ℕ). Known ixl p holds.1.0.side) holds.1.2
    (rests.points holds.1.0 holds.1.1 (subst (IsPointReady ixl) (sym holds.1.2) ready))))
  where
    ixl : IxlState
    ixl = world.interlocking.ixl

    rests : Rests table ixl row route
    rests = all_rest stop move site table (holds_each site table is_table) world reached number row route is proceeds

    same : another ≡ side
    same = agree table (in_order_of site table is_table) ixl.routes (always_apart request site table world reached) number held.0 row held.1 route held.2 point another side is.0 held.3.0 is.1 held.3.1 holds held.4

-- ---- a point that is available

available_ready : (ixl : IxlState) (point : ℕ) → IsAvailable ixl point → IsPointReady ixl point
available_ready ixl point available = (available.0, available.1, by_stage available.0.client.stage available.2)
  where
    by_stage : (s : Stage) → is_available s ≡ true → is_ready s ≡ true
    by_stage Stage.Completed is = refl
    by_stage Stage.AwaitsReport is = refl
    by_stage Stage.Outside is = absurd (false≢true is)
    by_stage Stage.AwaitsAnswer is = absurd (false≢true is)
    by_stage Stage.AwaitsStart is = absurd (false≢true is)
    by_stage (Stage.AwaitsStatus left) is = absurd (false≢true is)

-- What `points_of_proceeding_routes_are_known` says of this world.
abbrev pub ProceedingKnown : Table → WorldState → Type 0
ProceedingKnown table world = (number : ℕ) (row : Row) (route : RouteState) (point : ℕ) (side another : Side) → IsRouteOf table world.interlocking.ixl number row route → Proceeds route
    → HoldsPoint row route.phase point another → IsHeldAt table world.interlocking.ixl point side → IsPointReady world.interlocking.ixl point → Known world.interlocking.ixl point side

-- a route with authority holds an available point that isn't known at its side: then one does that proceeds no more
pub held_behind : (table : Table) (world : WorldState) (point : ℕ) (side : Side) → ProceedingKnown table world → IsHeldAt table world.interlocking.ixl point side → IsAvailable world.interlocking.ixl point
    → (Known world.interlocking.ixl point side → ⊥) → IsHeldWithAuthority table world.interlocking.ixl point → IsHeldBehindAspect table world.interlocking.ixl point
held_behind table world point side known held available unknown (number, row, route, another, is, authority, holds) = (
  number,
  row,
  route,
  another,
  is,
  authority,
  (λ proceeds. unknown
      (known number row route point side another is proceeds holds held (available_ready world.interlocking.ixl point available))),
  holds,
)

-- ---- what is so of the first of some rounds, and of a point at the end of one: what the laws of points and of routes are put together with

-- ---- rounds

pub with_one : (rounds : List (List Event)) (last : List Event) → ready_rounds ≤ suc (suc (length rounds)) → ready_rounds ≤ suc (length (rounds ++ last ∷ []))
with_one rounds last long = let n = count_front rounds last in omega (arith, long, n)

pub fewer : (front rest : List (List Event)) (world : WorldState) → HasTime (suc (length (front ++ rest))) world → HasTime (suc (length front)) world
fewer front rest world can = fewer_time (suc (length front)) (suc (length (front ++ rest))) (clocks_of world) (let n = length-append front rest in omega (arith, n)) can

pub below_front : (site : Site) (row : Row) (front rest : List (List Event)) (flowing : Flowing) → AreBelowLimit site row (front ++ rest) flowing → AreBelowLimit site row front flowing
below_front site row front rest flowing below = record {
  signal = λ before are. below_two row.entry front rest flowing before (below.signal before are);
  points = λ need within before are. below_two (point_link site need.point) front rest flowing before (below.points need within before are);
}

throughout_front : (holds : Played → Type 0) (front rest : List (List Event)) (flowing : Flowing) → Throughout holds (front ++ rest) flowing → Throughout holds front flowing
throughout_front holds [] rest flowing each = tt
throughout_front holds (first ∷ front) rest flowing each = (each.0, throughout_front holds front rest (all_tried first (round flowing)) each.1)

pub set_front : (number : ℕ) (row : Row) (front rest : List (List Event)) (start : Flowing) → StaysSet number row (front ++ rest) start → StaysSet number row front start
set_front number row front rest start set = record {
  course = set.course;
  clear = set.clear;
  stays_clear = throughout_front (HasClearSections row) front rest start set.stays_clear;
  kept = (each_split (Each (KeepsSetting start.state.sited.site number)) front rest set.kept).0;
}

pub request_works : (rounds : List (List Event)) (route : RouteId) (before : List Event) → Each (Each IsWork) rounds
    → Each IsWork before → Each (Each IsWork) (rounds ++ and_request route before ∷ [])
request_works rounds route before works before_works = each_both (Each IsWork) rounds (and_request route before ∷ []) works
    (each_both IsWork before (Event.Request (Command.Request route) ∷ []) before_works (tt, tt), tt)

pub point_below : (site : Site) (place : ℕ) → place < length site.points → point_link site place < links site
point_below site place few = omega (arith, few)

-- ---- a point

pub set_course : (ixl : IxlState) (number : ℕ) (row : Row) → IsOnCourse ixl number row → At ixl.routes number (λ one. Waits one ⊎ HasAspect one)
set_course ixl number row (inl is) = (is.0, is.1, inl is.2)
set_course ixl number row (inr (is, known)) = (is.0, is.1, inr is.2)

pub known_or : (need : Need) (rounds : List (List Event)) (start : Flowing) → IsKnownOrOnItsWay need start.state.run → (AwaitsMove need.point start.state.run
    → IsKnownWithin need rounds start) → IsKnownWithin need rounds start
known_or need rounds start (inl known) comes = record { front = []; rest = rounds; parts = refl; known = known }
known_or need rounds start (inr awaits) comes = comes awaits

-- where its link is ready, and it is known as soon as it is available, it is known or on its way
pub known_where_available : (laws : LawsBelow) (site : Site) (table : Table) → IsStation site → Once site → (world : WorldState) → IsReached site table world → (need : Need)
    → need.point < length site.points → IsReadyOn site (point_link site need.point) world
    → (IsAvailable world.interlocking.ixl need.point → Known world.interlocking.ixl need.point need.side) → IsKnownOrOnItsWay need world
known_where_available laws site table station once world reached need few ready known =
    by_stage it.0.client.stage refl (ap (λ (c : ClientState). is_ready c.stage) (same_Some it.0.client ready.client (sym it.2 ∙ ready.there)) ∙ ready.client_ready)
  where
    whole : IsWhole site world
    whole = (subst (IsStanding site) (sym reached.after) (laws.stations_have_links_run site table reached.outset reached.events station once reached.lies reached.can)).whole

    it : (one : KnownPointState) × (slice_get world.interlocking.ixl.known_points need.point ≡ Some one) × (slice_get (client_states world.interlocking.ixl) (point_link site need.point) ≡ Some one.client)
    it = point_there site world whole need.point few

    by_stage : (s : Stage) → it.0.client.stage ≡ s → is_ready s ≡ true → IsKnownOrOnItsWay need world
    by_stage Stage.Completed e is = inl (known (it.0, it.1, ap is_available e))
    by_stage Stage.AwaitsReport e is = inr (it.0, it.1, e)
    by_stage Stage.Outside e is = absurd (false≢true is)
    by_stage Stage.AwaitsAnswer e is = absurd (false≢true is)
    by_stage Stage.AwaitsStart e is = absurd (false≢true is)
    by_stage (Stage.AwaitsStatus left) e is = absurd (false≢true is)

-- a point that is free for a route on its course is known as soon as it is available, since no move waits that is due
pub free_known : (table : Table) (world : WorldState) (number : ℕ) (row : Row) (need : Need) → slice_get table.rows number ≡ Some row → Contains row.needs need
    → IsOnCourse world.interlocking.ixl number row → ProceedingKnown table world → IsHeldAt table world.interlocking.ixl need.point need.side → IsFreeFor table world.interlocking.ixl number need.point
    → ((route : RouteState) → IsRouteOf table world.interlocking.ixl number row route → MoveDue table world.interlocking.ixl number route need → ⊥) → IsAvailable world.interlocking.ixl need.point
    → Known world.interlocking.ixl need.point need.side
free_known table world number row need row_there within (inr (is, known)) proceeding held free none available =
    All-contains (λ (other : Need). Known world.interlocking.ixl other.point other.side) row.needs need known within
free_known table world number row need row_there within (inl is) proceeding held free none available = known_surely world.interlocking.ixl need.point need.side (λ unknown. none is.0 (row_there, is.1)
    (record {
      waits = is.2.0;
      goes_on = is.2.1;
      available = available;
      elsewhere = unknown;
      over_clear = free.may.clear;
      unheld = λ authority. free.may.unheld (held_behind table world need.point need.side proceeding held available unknown authority);
      once = free.unmoved;
      unclosed = free.unclosed;
    }))

-- so a point that is free for a route on its course is known or on its way
pub free_or : (laws : LawsBelow) (site : Site) (table : Table) → IsStation site → Once site → (world : WorldState) → IsReached site table world → (number : ℕ) (row : Row) (need : Need)
    → need.point < length site.points
    → slice_get table.rows number ≡ Some row → Contains row.needs need → IsReadyOn site (point_link site need.point) world → IsOnCourse world.interlocking.ixl number row
    → ProceedingKnown table world → IsHeldAt table world.interlocking.ixl need.point need.side
    → ((route : RouteState) → IsRouteOf table world.interlocking.ixl number row route → MoveDue table world.interlocking.ixl number route need → ⊥)
    → IsKnownOrOnItsWay need world ⊎ IsFreeFor table world.interlocking.ixl number need.point → IsKnownOrOnItsWay need world
free_or laws site table station once world reached number row need few row_there within ready course proceeding held none (inl so) = so
free_or laws site table station once world reached number row need few row_there within ready course proceeding held none (inr free) =
    known_where_available laws site table station once world reached need few ready (free_known table world number row need row_there within course proceeding held free none)

-- an available point that may be moved is known at its side
abbrev pub IsKnownWhereMovable : Table → Need → WorldState → Type 0
IsKnownWhereMovable table need world = IsAvailable world.interlocking.ixl need.point → At table.point_sections need.point (IsClear table world.interlocking.ixl)
    → (IsHeldWithAuthority table world.interlocking.ixl need.point → ⊥) → Known world.interlocking.ixl need.point need.side

-- so one that may come is known or on its way
pub coming_or : (laws : LawsBelow) (site : Site) (table : Table) → IsStation site → Once site → (world : WorldState) → IsReached site table world → (need : Need) → need.point < length site.points
    → IsReadyOn site (point_link site need.point) world → ProceedingKnown table world → IsHeldAt table world.interlocking.ixl need.point need.side
    → IsKnownWhereMovable table need world → IsKnownOrOnItsWay need world ⊎ MayCome table world.interlocking.ixl need.point → IsKnownOrOnItsWay need world
coming_or laws site table station once world reached need few ready proceeding held known (inl so) = so
coming_or laws site table station once world reached need few ready proceeding held known (inr may) = known_where_available laws site table station once world reached need few ready
    (λ available. known_surely world.interlocking.ixl need.point need.side (λ unknown. unknown (known available may.clear
    (λ authority. may.unheld (held_behind table world need.point need.side proceeding held available unknown authority)))))

-- ---- a request

-- A request that is accepted, and the world that it leaves.
pub record IsAccepted (site : Site) (table : Table) (route : RouteId) (behind : WorldState) : Type 0 where
  pub world : WorldState
  pub reached : IsReached site table world
  pub accepted : answered site table (Event.Request (Command.Request route)) world ≡ Answer.Accepted
  pub is : behind ≡ happens site table (Event.Request (Command.Request route)) world

module _ (laws : LawsBelow) (between : List Event) (later_rounds : List (List Event)) (before : List Event) (flowing : Flowing) (route : RouteId)
    (reached : IsReached flowing.state.sited.site flowing.state.sited.table flowing.state.run)
    (accepts : AcceptsRequest route (as_request_comes (between ∷ later_rounds) before flowing).state) where
  abbrev asking : Event
  asking = Event.Request (Command.Request route)

  abbrev sited : SitedTable
  sited = flowing.state.sited

  abbrev base : Flowing
  base = good_rounds (between ∷ (later_rounds ++ and_request route before ∷ [])) flowing

  abbrev arrives : Flowing
  arrives = as_request_comes (between ∷ later_rounds) before flowing

  rounds_at : (rounds : List (List Event)) → IsAt sited (good_rounds (between ∷ rounds) flowing).state
  rounds_at rounds = rounds_reached laws sited (between ∷ rounds) flowing (record { same = refl; reached = reached })

  arrives_at : IsAt sited arrives.state
  arrives_at = work_reached laws sited before (round (good_rounds (between ∷ later_rounds) flowing)) (round_reached laws sited (good_rounds (between ∷ later_rounds) flowing)
      (rounds_at later_rounds))

  not_refused : refusal arrives.state.sited.site asking arrives.state.run ≡ None
  unfolding refusal
  not_refused = refl

  pub base_at : IsAt sited base.state
  base_at = rounds_at (later_rounds ++ and_request route before ∷ [])

  pub accepted_there : IsAccepted sited.site sited.table route base.state.run
  accepted_there = record {
    world = arrives.state.run;
    reached = arrives_at.reached;
    accepted = subst (λ (s : SitedTable). answered s.site s.table asking arrives.state.run ≡ Answer.Accepted) arrives_at.same accepts;
    is = ap (λ (f : Flowing). f.state.run) (last_round (between ∷ later_rounds) (and_request route before) flowing)
        ∙ (ap (λ (w : Played). w.run) (last_tried before asking (round (good_rounds (between ∷ later_rounds) flowing)) ∙ tried_happens arrives.state asking not_refused)
        ∙ ap (λ (s : SitedTable). happens s.site s.table asking arrives.state.run) arrives_at.same);
  }

-- the route is set after it
pub accepted_set : (sited : SitedTable) (route : RouteId) (row : Row) (rounds : List (List Event)) (start : Flowing) → start.state.sited ≡ sited
    → (accepted : IsAccepted sited.site sited.table route start.state.run)
    → IsOnCourse (happens sited.site sited.table (Event.Request (Command.Request route)) accepted.world).interlocking.ixl route.0 row
    → AllClear sited.table (happens sited.site sited.table (Event.Request (Command.Request route)) accepted.world).interlocking.ixl row.sections → StaysClear route.0 row rounds start
    → StaysSet route.0 row rounds start
accepted_set sited route row rounds start same accepted course clear stays = record {
  course = subst (λ (w : WorldState). IsOnCourse w.interlocking.ixl route.0 row) (sym accepted.is) course;
  clear = subst (λ (s : SitedTable). AllClear s.table start.state.run.interlocking.ixl row.sections) (sym same) (subst (λ (w : WorldState). AllClear sited.table w.interlocking.ixl row.sections)
      (sym accepted.is) clear);
  stays_clear = stays.stays_clear;
  kept = stays.kept;
}

-- and what is known after the request is known there
pub accepted_known : (site : Site) (table : Table) (route : RouteId) (behind : WorldState) (accepted : IsAccepted site table route behind) (need : Need)
    → IsKnownWhereMovable table need (happens site table (Event.Request (Command.Request route)) accepted.world) → IsKnownWhereMovable table need behind
accepted_known site table route behind accepted need known = subst (IsKnownWhereMovable table need) (sym accepted.is) known
