-- The points that a route requires are points of the layout.
use Rattle.simulator_recovery.proofs.Words.Basics.{◌≡◌, ℕ, zero, suc, ◌<◌, ◌==◌, Bool, true, false, List, [], ◌∷◌, Option, Some, None, slice_get, refl, sym, ap, subst, ◌∙◌, arith, map, ◌||◌, Contains, false≢true, same_Some, inl, inr, length, All-contains}
use Rattle.simulator_recovery.proofs.Words.Links.{reading_of}
use Rattle.simulator_recovery.proofs.Words.Controllers.{Side}
use Rattle.simulator_recovery.proofs.Words.Interlockings.{IsTableOf, as_point, required, is_available, is_outside, new_client, HoldsPoint, IsHeldAt, Known, MoveDue, authorised, count, freed_by_cancel, freed_by_passage, freeing_by_cancel, freeing_by_passage, is_move_due, is_proceed_due, is_proceeding, is_waiting, is_withdrawn, moved, moving, moving_one, proceeding, ruled, ended, IxlState, KnownPointState, RouteState, Input, all_clocked, given, stepped, ticked, watching, StepSoFar, begun_with, empty_outbox, giving_aspect, over, with_route, Need, Row, Table, freed_sections, is_set, as_route}
use Rattle.simulator_recovery.proofs.Words.Stations.{InLayoutOrder, Site, Event, Beginning, new_ixl, new_known_point_of, happens, interlocking_stepped, key_of, WorldState, IsReached, Passage, Path, RouteRequires, IsRoute, Joined, RouteEntry, HasElement, HasPort, IsRouteOf, IsStation, Joint, PointId, RouteId, Port}
use Rattle.simulator_recovery.proofs.Words.Recovery.{IsInside, IsUpAtClock, known_in_step, MoveLaw, RequestLaw}
use Rattle.simulator_recovery.proofs.Lemmas.Points.SidesRoutes.{until_moves}
use Rattle.simulator_recovery.proofs.Lemmas.Ground.MovedAtOnce.{held_unmoved, move_leaves_routes}
use Rattle.simulator_recovery.proofs.Lemmas.RoutesComing.DueAccepted.{until_freed}
use Rattle.simulator_recovery.proofs.Lemmas.Ground.IxlAlways.{event_then}
use Rattle.simulator_recovery.proofs.Lemmas.RoutesComing.DueKnown.{KnownInside, known_heard, known_inside, BringsNothing, available_inside, ticks_bring_nothing, NotMoved}
use Rattle.simulator_recovery.proofs.Lemmas.RoutesComing.DueRoutes.{PointsApart, always_apart, apart_keep, authorised_onward, before, cancel_held, passage_held, seen_held, two_rules}
use Rattle.simulator_recovery.proofs.Lemmas.Ground.DueShapes.{along_keeps, along_within, no_route, over_keeps, route_keeps, where_keeps}
use Rattle.simulator_recovery.proofs.Lemmas.Ground.IxlClients.{mapped_at}
use Rattle.simulator_recovery.proofs.Lemmas.RoutesComing.NothingDueMoves.{MoveLeaves, move_leaves}
use Rattle.simulator_recovery.proofs.Lemmas.RoutesComing.NothingDueProceeds.{aspect_leaves}
use Rattle.simulator_recovery.proofs.Lemmas.RoutesComing.NothingDueStops.{HoldsEach, holds_each}
use Rattle.simulator_recovery.proofs.Lemmas.Ground.SignalParts.{is_waiting_there}
use Rattle.simulator_recovery.proofs.Lemmas.Lamps.StopsGiven.{differs, is_equal}
use Rattle.simulator_recovery.proofs.Lemmas.Ground.StationKeeps.{all_at}

-- ---- a point that a set route holds stays known at its side, while its link lasts

-- ---- a route requires a point at one side

pub contains_map : {X Y : Type 0} (f : X → Y) (list : List X) (one : X) → Contains list one → Contains (map f list) (f one)
contains_map f [] one within = let none = within.1 in absurd (omega (arith, none))
contains_map f (first ∷ others) one (zero, few, at) = (0, omega arith, ap f at)
contains_map f (first ∷ others) one (suc k, few, at) =
    let rest = contains_map f others one (k, omega (arith, few), at)
    in let more = rest.1
    in (suc rest.0, omega (arith, more), rest.2)

pub contains_required : (needs : List Need) (one : Need) → Contains needs one → Contains (required needs) (as_point one.point, one.side)
contains_required needs one within = contains_map (λ (need : Need). (as_point need.point, need.side)) needs one within

one_side : (needs : List Need) → InLayoutOrder (required needs) → (one other : Need) → Contains needs one → Contains needs other → one.point ≡ other.point → one.side ≡ other.side
one_side [] order one other within other_within same = let none = within.1 in absurd (omega (arith, none))
one_side (first ∷ others) order one other (zero, few, at) (zero, other_few, other_at) same = ap (λ (n : Need). n.side) (sym at ∙ other_at)
one_side (first ∷ others) order one other (zero, few, at) (suc k, other_few, other_at) same =
    let less = order.0 (as_point other.point, other.side) (contains_required others other (k, omega (arith, other_few), other_at))
    in let equal = ap (λ (n : Need). n.point) at
    in absurd (omega (arith, less, equal, same))
one_side (first ∷ others) order one other (suc k, few, at) (zero, other_few, other_at) same =
    let less = order.0 (as_point one.point, one.side) (contains_required others one (k, omega (arith, few), at))
    in let equal = ap (λ (n : Need). n.point) other_at
    in absurd (omega (arith, less, equal, same))
one_side (first ∷ others) order one other (suc k, few, at) (suc j, other_few, other_at) same =
    one_side others order.1 one other (k, omega (arith, few), at) (j, omega (arith, other_few), other_at) same

-- each row requires each point at one side
abbrev pub InOrder : Table → Type 0
InOrder table = (number : ℕ) (row : Row) → slice_get table.rows number ≡ Some row → InLayoutOrder (required row.needs)

-- set routes hold a point at one side, and one of them does too
pub agree : (table : Table) → InOrder table → (routes : List RouteState) → PointsApart table routes → (a b : ℕ) (row other_row : Row) (route other : RouteState) (point : ℕ) (side another : Side) → slice_get table.rows a ≡ Some row → slice_get table.rows b ≡ Some other_row
    → slice_get routes a ≡ Some route → slice_get routes b ≡ Some other → HoldsPoint row route.phase point side → HoldsPoint other_row other.phase point another → side ≡ another
agree table in_order routes apart a b row other_row route other point side another row_there other_row_there there other_there holds other_holds = decide (a == b) refl
  where
    decide : (c : Bool) → (a == b) ≡ c → side ≡ another
    decide false e = apart a b row other_row route other point side another (differs a b e) row_there other_row_there there other_there holds other_holds
    decide true e =
        let same : other_row ≡ row = same_Some other_row row (sym other_row_there ∙ (ap (slice_get table.rows) (sym (is_equal a b e)) ∙ row_there))
        in sym holds.1.3 ∙ (one_side row.needs (in_order a row row_there) holds.1.0 other_holds.1.0 holds.1.1 (subst (λ (r : Row). Contains r.needs other_holds.1.0) same other_holds.1.1) (holds.1.2 ∙ sym other_holds.1.2) ∙ other_holds.1.3)

-- ---- the fifth rule

module _ (law : MoveLaw) (now : ℕ) (table : Table) (holds : HoldsEach table) (in_order : InOrder table) (routes : List RouteState) (apart : PointsApart table routes) (point : ℕ) (side : Side) where
  -- some route of these holds the point
  pub record Holder : Type 0 where
    pub number : ℕ
    pub row : Row
    pub route : RouteState
    pub row_there : slice_get table.rows number ≡ Some row
    pub there : slice_get routes number ≡ Some route
    pub held : HoldsPoint row route.phase point side

  module _ (holder : Holder) where
    abbrev Stands : StepSoFar → Type 0
    Stands part = (part.ixl.routes ≡ routes) × KnownInside point side part.ixl

    -- a route that waits for the point holds it, and at no other side
    not_due : (number : ℕ) (need : Need) (row : Row) (one : RouteState) (part : StepSoFar) → Contains row.needs need → slice_get table.rows number ≡ Some row → slice_get part.ixl.routes number ≡ Some one → point ≡ need.point → Stands part
        → MoveDue table part.ixl number one need → ⊥
    not_due number need row one part within row_there here same is due = due.elsewhere (due.available.0, due.available.1, (known.0, known.1 ∙ ap (λ (s : Side). Some s) agreed))
      where
        known : (is_available due.available.0.client.stage ≡ true) × (due.available.0.side ≡ Some side)
        known = is.1 due.available.0 (ap (slice_get part.ixl.known_points) same ∙ due.available.1) (available_inside due.available.0.client.stage due.available.2)

        wanted : HoldsPoint row one.phase point need.side
        wanted = (ap is_set due.waits, (need, within, sym same, refl, subst (λ (n : ℕ). n < need.until) (sym (ap freed_sections due.waits)) (holds number row need row_there within)))

        agreed : side ≡ need.side
        agreed = agree table in_order routes apart holder.number number holder.row row holder.route one point side need.side holder.row_there row_there holder.there (ap (λ (rs : List RouteState). slice_get rs number) (sym is.0) ∙ here) holder.held wanted

    moves_not : (number : ℕ) (need : Need) (row : Row) (part : StepSoFar) → Contains row.needs need → slice_get table.rows number ≡ Some row → point ≡ need.point → Stands part → moving_one now table number need part ≡ part
    unfolding moving_one
    moves_not number need row part within row_there same is = by_route (slice_get part.ixl.routes number) refl
      where
        by_route : (one : Option RouteState) → slice_get part.ixl.routes number ≡ one → moving_one now table number need part ≡ part
        by_route None e = no_route table number _ part e
        by_route (Some one) e = (law now table number need part row one (row_there, e)).otherwise (not_due number need row one part within row_there e same is)

    -- a move of another point changes nothing here
    leaves_one : (number : ℕ) (need : Need) (part : StepSoFar) → MoveLeaves need.point part.ixl (moving_one now table number need part).ixl
    unfolding moving_one
    leaves_one number need part = route_keeps Q table number _ part (λ row one there here. where_keeps Q (is_move_due table part.ixl number one need) part _ (λ due. move_leaves now need.point need.side part) nothing) nothing
      where
        Q : StepSoFar → Type 0
        Q q = MoveLeaves need.point part.ixl q.ixl

        nothing : Q part
        nothing = record { routes = refl; signals = refl; detectors = refl; closed = refl; points = λ other differ. refl }

    one_stands : (number : ℕ) (need : Need) (row : Row) (part : StepSoFar) → Contains row.needs need → slice_get table.rows number ≡ Some row → Stands part → Stands (moving_one now table number need part)
    one_stands number need row part within row_there is = decide (point == need.point) refl
      where
        decide : (b : Bool) → (point == need.point) ≡ b → Stands (moving_one now table number need part)
        decide true e = subst Stands (sym (moves_not number need row part within row_there (is_equal point need.point e) is)) is
        decide false e =
            let leaves = leaves_one number need part
            in (leaves.routes ∙ is.0, λ known f inside. is.1 known (sym (leaves.points point (differs point need.point e)) ∙ f) inside)

    moving_stands : (number : ℕ) (part : StepSoFar) → Stands part → Stands (moving now table number part)
    unfolding moving
    moving_stands number part is = route_keeps Stands table number _ part (λ row one there here. along_within Stands (moving_one now table number) row.needs (λ need within q held. one_stands number need row q within there held) part is) is

-- ---- the last rule

module _ (law : RequestLaw) (now : ℕ) (table : Table) (point : ℕ) (side : Side) where
  -- it changes no point, and gives no route more to hold
  pub record AtLast (old : IxlState) (part : StepSoFar) : Type 0 where
    pub points : part.ixl.known_points ≡ old.known_points
    pub held : IsHeldAt table part.ixl point side → IsHeldAt table old point side

  proceeding_last : (old : IxlState) (number : ℕ) (part : StepSoFar) → AtLast old part → AtLast old (proceeding now table number part)
  unfolding proceeding
  proceeding_last old number part is = route_keeps (AtLast old) table number _ part (λ other one there here. where_keeps (AtLast old) (is_proceed_due now table part.ixl other one) part _ (λ due. given_so other one there here due) is) is
    where
      given_so : (other : Row) (one : RouteState) → slice_get table.rows number ≡ Some other → slice_get part.ixl.routes number ≡ Some one → is_proceed_due now table part.ixl other one ≡ true
          → AtLast old (giving_aspect now other.entry other.aspect (with_route number (authorised table part.ixl other) part))
      given_so other one there here due =
          let leaves = aspect_leaves now other.entry other.aspect (with_route number (authorised table part.ixl other) part)
          in record {
            points = leaves.points ∙ is.points;
            held = λ held.
                let was = before law now table number (authorised table part.ixl other) part.ixl.routes
                (λ route e. authorised_onward table part.ixl other route (subst (λ (r : RouteState). is_waiting r.phase ≡ true) (same_Some one route (sym here ∙ e)) (is_waiting_there now table part.ixl other one due)))
                held.0 held.1 held.2 held.3.0 (ap (λ (rs : List RouteState). slice_get rs held.0) (sym leaves.routes) ∙ held.3.1)
                in is.held (held.0, held.1, was.was, (held.3.0, was.there), was.held point side held.4);
          }

-- ---- a step

turn_routes : (now : ℕ) (table : Table) (number : ℕ) (part : StepSoFar) → (moving now table number part).ixl.routes ≡ part.ixl.routes
unfolding moving moving_one
turn_routes now table number part = route_keeps Q table number _ part (λ row one there here. along_keeps Q (moving_one now table number)
    (λ need q same. route_keeps Q table number _ q (λ other route other_there route_here. where_keeps Q (is_move_due table q.ixl number route need) q _ (λ due. (move_leaves now need.point need.side q).routes ∙ same) same) same) row.needs part refl) refl
  where
    Q : StepSoFar → Type 0
    Q q = q.ixl.routes ≡ part.ixl.routes

moving_routes : (now : ℕ) (table : Table) (part : StepSoFar) → (over (moving now table) (count table) part).ixl.routes ≡ part.ixl.routes
moving_routes now table part = over_keeps Q (moving now table) one_turn (count table) part refl
  where
    Q : StepSoFar → Type 0
    Q q = q.ixl.routes ≡ part.ixl.routes

    one_turn : (number : ℕ) (q : StepSoFar) → Q q → Q (moving now table number q)
    one_turn number q is = turn_routes now table number q ∙ is

look_points : (table : Table) (number : ℕ) (part : StepSoFar) → (watching table number part).ixl.known_points ≡ part.ixl.known_points
unfolding watching
look_points table number part = route_keeps Q table number _ part (λ row one there here. where_keeps Q (is_proceeding one.phase || is_withdrawn one.phase) part _ (λ due. refl) refl) refl
  where
    Q : StepSoFar → Type 0
    Q q = q.ixl.known_points ≡ part.ixl.known_points

watching_points : (table : Table) (part : StepSoFar) → (over (watching table) (count table) part).ixl.known_points ≡ part.ixl.known_points
watching_points table part = over_keeps Q (watching table) one_looks (count table) part refl
  where
    Q : StepSoFar → Type 0
    Q q = q.ixl.known_points ≡ part.ixl.known_points

    one_looks : (number : ℕ) (q : StepSoFar) → Q q → Q (watching table number q)
    one_looks number q is = look_points table number q ∙ is

pub in_order_of : (site : Site) (table : Table) → IsTableOf site table → InOrder table
in_order_of site table is number row there = (is.rows.their number row there).needs.order

-- the state of a step after the input, and before the rules
abbrev pub heard_in : Site → Table → Input → WorldState → StepSoFar
heard_in site table input world = given (reading_of world.interlocking.clock) table (key_of site) input (begun_with (all_clocked (reading_of world.interlocking.clock) world.interlocking.ixl) empty_outbox)

abbrev pub seen_in : Site → Table → Input → WorldState → StepSoFar
seen_in site table input world = over (watching table) (count table) (heard_in site table input world)

module _ (move : MoveLaw) (request : RequestLaw) (site : Site) (table : Table) (is_table : IsTableOf site table) (world : WorldState) (reached : IsReached site table world) (input : Input) (point : ℕ) (side : Side) where
  abbrev now : ℕ
  now = reading_of world.interlocking.clock

  abbrev pub seen : StepSoFar
  seen = seen_in site table input world

  -- where the fifth rule begins
  abbrev pub at_moves : StepSoFar
  at_moves = freed_by_cancel now table seen

  pub routes_apart : PointsApart table at_moves.ixl.routes
  routes_apart = over_keeps Apart (freeing_by_cancel now table) (cancel_held now table (PointsApart table) (apart_keep request now table).onward) (count table) (freed_by_passage now table seen)
      (over_keeps Apart (freeing_by_passage table) (passage_held now table (PointsApart table) (apart_keep request now table).onward) (count table) (ended now table seen)
      (two_rules now table (PointsApart table) (apart_keep request now table).onward seen
      (seen_held now table (PointsApart table) (apart_keep request now table) (key_of site) input (begun_with world.interlocking.ixl empty_outbox) (always_apart request site table world reached))))
    where
      Apart : StepSoFar → Type 0
      Apart q = PointsApart table q.ixl.routes

  pub last : AtLast request now table point side (moved now table seen).ixl (ruled now table seen)
  last = over_keeps (AtLast request now table point side (moved now table seen).ixl) (proceeding now table) (proceeding_last request now table point side (moved now table seen).ixl) (count table) (moved now table seen)
      (record { points = refl; held = λ still. still })

  pub brings : BringsNothing (ruled now table seen).ixl (ticked now input (ruled now table seen)).ixl
  brings = ticks_bring_nothing now input (ruled now table seen)

  -- a route that holds the point after the step held it there
  pub holder : IsHeldAt table (interlocking_stepped site table input world).interlocking.ixl point side
      → Holder move now table (holds_each site table is_table) (in_order_of site table is_table) at_moves.ixl.routes routes_apart point side
  unfolding interlocking_stepped stepped
  holder held =
      let before_ticks : IsHeldAt table (ruled now table seen).ixl point side = (held.0, held.1, held.2, (held.3.0, ap (λ (rs : List RouteState). slice_get rs held.0) (sym brings.routes) ∙ held.3.1), held.4)
      in let then_held = last.held before_ticks
      in record {
        number = then_held.0;
        row = then_held.1;
        route = then_held.2;
        row_there = then_held.3.0;
        there = ap (λ (rs : List RouteState). slice_get rs then_held.0) (sym (moving_routes now table at_moves)) ∙ then_held.3.1;
        held = then_held.4;
      }

  -- rules and looks change no point before it
  pub same_points : at_moves.ixl.known_points ≡ (known_in_step site table input world).known_points
  same_points = (until_freed now table seen.ixl seen (refl, refl, refl)).0 ∙ watching_points table (heard_in site table input world)

module _ (move : MoveLaw) (request : RequestLaw) (site : Site) (table : Table) (is_table : IsTableOf site table) (world : WorldState) (reached : IsReached site table world) (point : ℕ) (side : Side) where
  -- a point that is known after the input of a step, and held at this side after the step, is known after it
  pub heard_known : (input : Input) → KnownInside point side (known_in_step site table input world) → IsHeldAt table (interlocking_stepped site table input world).interlocking.ixl point side
      → KnownInside point side (interlocking_stepped site table input world).interlocking.ixl
  unfolding interlocking_stepped stepped
  heard_known input heard held = ticked_inside
    where
      now : ℕ
      now = reading_of world.interlocking.clock

      rules : StepSoFar
      rules = ruled now table (seen_in site table input world)

      start : StepSoFar
      start = at_moves move request site table is_table world reached input point side

      is_last : AtLast request now table point side (moved now table (seen_in site table input world)).ixl rules
      is_last = last move request site table is_table world reached input point side

      start_inside : KnownInside point side start.ixl
      start_inside = subst (λ (ps : List KnownPointState). KnownInside point side (record start.ixl { known_points = ps })) (sym (same_points move request site table is_table world reached input point side)) heard

      moved_inside : KnownInside point side (moved now table (seen_in site table input world)).ixl
      moved_inside = (over_keeps (Stands move now table (holds_each site table is_table) (in_order_of site table is_table) start.ixl.routes (routes_apart move request site table is_table world reached input point side) point side
          (holder move request site table is_table world reached input point side held)) (moving now table)
          (moving_stands move now table (holds_each site table is_table) (in_order_of site table is_table) start.ixl.routes (routes_apart move request site table is_table world reached input point side) point side
          (holder move request site table is_table world reached input point side held)) (count table) start (refl, start_inside)).1

      ruled_inside : KnownInside point side rules.ixl
      ruled_inside = subst (λ (ps : List KnownPointState). KnownInside point side (record rules.ixl { known_points = ps })) (sym is_last.points) moved_inside

      ticked_inside : KnownInside point side (ticked now input rules).ixl
      ticked_inside known e inside =
          let was = (ticks_bring_nothing now input rules).points point known e
          in let stands = was.stands inside
          in let before_it = ruled_inside was.was was.there (ap is_outside (sym stands.stage) ∙ inside)
          in (ap is_available stands.stage ∙ before_it.0, stands.side ∙ before_it.1)

  -- a point that is held at this side after the step was held so before it, so no command moves it
  not_moved : (input : Input) → IsHeldAt table (interlocking_stepped site table input world).interlocking.ixl point side → NotMoved table input world point
  not_moved input held place to is same none =
      let now = reading_of world.interlocking.clock
      in let clocked = begun_with (all_clocked now world.interlocking.ixl) empty_outbox
      in let is_held = holder move request site table is_table world reached input point side held
      in let was = until_moves request now table point side (heard_in site table input world) (is_held.number, is_held.row, is_held.route, (is_held.row_there, is_held.there), is_held.held)
      in held_unmoved now table clocked.ixl was.0 was.1 was.2 was.4.1.0 was.3.0
      (ap (λ (routes : List RouteState). slice_get routes was.0) (sym (move_leaves_routes now table (key_of site) place to input clocked is)) ∙ was.3.1)
      was.4.1.1 was.4.0 was.4.1.4 place to (same ∙ sym was.4.1.2) none

  step_known : Known world.interlocking.ixl point side → IsUpAtClock world point → (input : Input) → IsHeldAt table (interlocking_stepped site table input world).interlocking.ixl point side → KnownInside point side (interlocking_stepped site table input world).interlocking.ixl
  step_known is up input held = heard_known input (known_heard site table input world point side (not_moved input held) reached is up) held

  new_inside : (begins : Beginning) → KnownInside point side (new_ixl site table begins)
  unfolding new_ixl new_client
  new_inside begins known e inside = let found = mapped_at (new_known_point_of site begins) site.points point known e in absurd (false≢true (sym inside ∙ ap (λ (k : KnownPointState). is_outside k.client.stage) found.2))

pub held_known : MoveLaw → RequestLaw → (site : Site) (table : Table) (one : Event) (world : WorldState) (point : ℕ) (side : Side) → IsTableOf site table → IsReached site table world → Known world.interlocking.ixl point side → IsUpAtClock world point
    → IsHeldAt table (happens site table one world).interlocking.ixl point side → IsInside (happens site table one world).interlocking.ixl point → Known (happens site table one world).interlocking.ixl point side
held_known move request site table one world point side is_table reached is up held inside = (
  inside.0,
  inside.1,
  event_then site table (λ ixl. IsHeldAt table ixl point side → KnownInside point side ixl) world (λ still. known_inside point side world.interlocking.ixl is) one
      (λ input e. step_known move request site table is_table world reached point side is up input) (λ begins anew still. new_inside move request site table is_table world reached point side begins) held inside.0 inside.1 inside.2,
)

-- ---- the points that a route requires are points of the layout

path_there : (site : Site) → IsStation site → (route : RouteId) (entry : RouteEntry) (path : List Passage) → IsRoute site route entry → Path site entry path → (one : Passage) → Contains path one
    → HasPort site one.left
path_there site station route entry path is_route is one within =
    All-contains (HasPort site) entry.path one.left (all_at (IsRouteOf site) site.routes station.routes route.0 entry is_route).path
    (subst (λ (ports : List Port). Contains ports one.left) (sym is.follows.ports) (contains_map (λ (passage : Passage). passage.left) path one within))

joined_there : (site : Site) → IsStation site → (one other : Port) → Joined site one other → HasPort site other
joined_there site station one other (joint, within, inl (first, second)) = subst (HasPort site) second
    (All-contains (λ (j : Joint). HasPort site j.first × HasPort site j.second) site.joints joint station.joints within).1
joined_there site station one other (joint, within, inr (first, second)) = subst (HasPort site) first
    (All-contains (λ (j : Joint). HasPort site j.first × HasPort site j.second) site.joints joint station.joints within).0

required_there : (site : Site) → IsStation site → (route : RouteId) (point : PointId) (side : Side) → RouteRequires site route point side → point.0 < length site.points
required_there site station route point side (entry, path, is_route, is, (one, within, inl uses)) = subst (HasElement site) uses.0
    (path_there site station route entry path is_route is one within).element
required_there site station route point side (entry, path, is_route, is, (one, within, inr (passed, at, uses, guards))) = (joined_there site station _ _ guards.1).element

pub needs_there : (site : Site) (table : Table) → IsStation site → IsTableOf site table → (number : ℕ) (row : Row) → slice_get table.rows number ≡ Some row → (need : Need) → Contains row.needs need
    → need.point < length site.points
needs_there site table station is_table number row there need within = required_there site station (as_route number) (as_point need.point) need.side
    (((is_table.rows.their number row there).needs.points (as_point need.point) need.side).0 (contains_required row.needs need within))
