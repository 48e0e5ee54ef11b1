-- In each turn each route goes on in its order, or stays.
use Rattle.std.proofs.Common.{◌≡◌, ◌⊎◌, inl, inr, ℕ, suc, ◌≤◌, List, length, arith, refl, ap, sym, ◌∙◌, subst}
use Rattle.std.specs.Prelude.{◌==◌, Some, slice_get}
use Rattle.ixl_state.specs.ixl_spec.EndDue.{SomeFreeable}
use Rattle.ixl_state.specs.ixl_spec.Rules.{authorised, come_to, freed, one_freed, stopped}
use Rattle.ixl_state.specs.ixl_spec.State.{IxlState, RouteState}
use Rattle.ixl_state.specs.ixl_spec.Step.{detector_ticking, known_point_ticking, known_signal_ticking}
use Rattle.ixl_state.specs.ixl_spec.StepSoFar.{Detector, Node, Point, Signal, StepSoFar, giving_aspect, giving_move, with_route}
use Rattle.ixl_state.specs.ixl_spec.Table.{Row, Table}
use Rattle.ixl_state.specs.ixl_spec.View.{is_signal_ready}
use Rattle.ixl_state.specs.ixl_spec.declared.phase.Phase.{Phase}
use Rattle.ixl_state.specs.ixl_spec.declared.phase.Phase.TheVariants as phase
use Rattle.ixl_laws.specs.Onward.{order_of}
use Rattle.ixl_laws.specs.WholeStep.{Beat, DoesItsTurn, EndAuthority, FreeCancelled, FreeSection, MovePoint, Passed, Proceed, Turn, Watch, Withdraw, approach_seen, beaten}
use Rattle.ixl_laws.proofs.PickedByTest.{either, some_same}
use Rattle.ixl_laws.proofs.TurnKeeps.{Stays, where_stays}
use Rattle.ixl_laws.proofs.WholeFits.{aspect_keeps, changed_or_same, move_keeps, with_one_keeps}

-- a route has come so far at least
abbrev pub HasCome : ℕ → ℕ → StepSoFar → Type 0
HasCome far number part = (route : RouteState) → slice_get part.ixl.routes number ≡ Some route → far ≤ order_of route.phase

pub order_most : (p : Phase) → order_of p ≤ 4
order_most phase.Free = omega arith
order_most phase.Waiting = omega arith
order_most phase.Proceeding = omega arith
order_most phase.Withdrawn = omega arith
order_most (phase.Ended clock done) = omega arith

same_come : (far number : ℕ) (a b : StepSoFar) → b.ixl.routes ≡ a.ixl.routes → HasCome far number a → HasCome far number b
same_come far number a b same come route is = come route (ap (λ (routes : List RouteState). slice_get routes number) (sym same) ∙ is)

-- a route is changed to a phase that isn't after its own
route_come : (far number place : ℕ) (change : RouteState → RouteState) (part : StepSoFar) →
    ((route : RouteState) → slice_get part.ixl.routes place ≡ Some route → order_of route.phase ≤ order_of (change route).phase) →
    HasCome far number part → HasCome far number (with_route place change part)
route_come far number place change part onward come route is = by_place (changed_or_same change place number part.ixl.routes route is) where
  by_place : (before : RouteState) × (slice_get part.ixl.routes number ≡ Some before) × ((route ≡ before) ⊎ ((number ≡ place) × (route ≡ change before))) → far ≤ order_of route.phase
  by_place (before, there, inl same) = subst (λ (r : RouteState). far ≤ order_of r.phase) (sym same) (come before there)
  by_place (before, there, inr (here, same)) =
      let first = come before there
      in let next = onward before (subst (λ n. slice_get part.ixl.routes n ≡ Some before) here there)
      in let both : far ≤ order_of (change before).phase = omega (arith, first, next)
      in subst (λ (r : RouteState). far ≤ order_of r.phase) (sym same) both

-- the route there is this one, in this phase
in_phase : (part : StepSoFar) (place : ℕ) (route other : RouteState) (p : Phase) (q : RouteState → Phase) → slice_get part.ixl.routes place ≡ Some route → slice_get part.ixl.routes place ≡ Some other → route.phase ≡ p →
    order_of p ≤ order_of (q other) → order_of other.phase ≤ order_of (q other)
in_phase part place route other p q is also at less =
    let same : order_of other.phase ≡ order_of p = ap (λ (r : RouteState). order_of r.phase) (some_same (sym also ∙ is)) ∙ ap order_of at
    in omega (arith, same, less)

pub stopped_keeps : (now : ℕ) (row : Row) (part : StepSoFar) → (stopped now row part).ixl.routes ≡ part.ixl.routes
stopped_keeps now row part = either (λ (p : StepSoFar). p.ixl.routes ≡ part.ixl.routes) (is_signal_ready part.ixl row.entry) _ _ (aspect_keeps now row.entry _ part) refl

pub beaten_keeps : (now : ℕ) (node : Node) (part : StepSoFar) → (beaten now node part).ixl.routes ≡ part.ixl.routes
unfolding known_signal_ticking known_point_ticking detector_ticking
beaten_keeps now (Signal place) part = with_one_keeps (slice_get part.ixl.known_signals place) _ part (λ known_signal. refl)
beaten_keeps now (Point place) part = with_one_keeps (slice_get part.ixl.known_points place) _ part (λ known_point. refl)
beaten_keeps now (Detector place) part = with_one_keeps (slice_get part.ixl.detectors place) _ part (λ detector. refl)

-- a route of which a section may be freed comes lost further back by it
freed_onward : (table : Table) (ixl : IxlState) (row : Row) (route other : RouteState) → SomeFreeable table ixl row route → order_of other.phase ≡ order_of route.phase → order_of other.phase ≤ order_of (one_freed row route.phase other).phase
freed_onward table ixl row route other (place, due) same =
    let here : order_of other.phase ≡ 3 = same ∙ ap order_of due.ended
    in subst (λ (p : Phase). order_of other.phase ≤ order_of (one_freed row p other).phase) (sym due.ended)
    (either (λ (r : RouteState). order_of other.phase ≤ order_of r.phase) (suc place == length row.sections) _ _ (order_most other.phase) (omega (arith, here)))

module _ (now : ℕ) (table : Table) (far number : ℕ) where
  abbrev Come : StepSoFar → Type 0
  Come part = HasCome far number part

  -- what a turn gives after it changed a route
  pub order_kept : (turn : Turn) (before after : StepSoFar) → DoesItsTurn now table turn before after → HasCome far number before → Stays (HasCome far number after)
  order_kept (Watch place) before after (row, route, is, does) come lost =
      where_stays Come before (with_route place (approach_seen table before.ixl row) before) after does come
      (λ due. route_come far number place (approach_seen table before.ixl row) before (λ other also. omega arith) come) lost
  order_kept (Withdraw place) before after (row, route, is, does) come lost =
      where_stays Come before (stopped now row (with_route place (come_to phase.Withdrawn) before)) after does come
      (λ due. same_come far number (with_route place (come_to phase.Withdrawn) before) (stopped now row (with_route place (come_to phase.Withdrawn) before)) (stopped_keeps now row (with_route place (come_to phase.Withdrawn) before))
      (route_come far number place (come_to phase.Withdrawn) before
      (λ other also. in_phase before place route other phase.Proceeding (λ r. phase.Withdrawn) is.1 also due.given (omega arith)) come)) lost
  order_kept (EndAuthority place) before after (row, route, is, does) come lost =
      where_stays Come before (with_route place (come_to (phase.Ended now 0)) before) after does come
      (λ due. route_come far number place (come_to (phase.Ended now 0)) before
      (λ other also. in_phase before place route other phase.Withdrawn (λ r. phase.Ended now 0) is.1 also due.withdrawn (omega arith)) come) lost
  order_kept (FreeSection place) before after (row, route, is, does) come lost =
      where_stays Come before (with_route place (one_freed row route.phase) before) after does come
      (λ due. route_come far number place (one_freed row route.phase) before
      (λ other also. freed_onward table before.ixl row route other due (ap (λ (r : RouteState). order_of r.phase) (some_same (sym also ∙ is.1)))) come) lost
  order_kept (Passed place) before after (row, route, is, (same, none)) come lost = lost (subst Come (sym same) come)
  order_kept (FreeCancelled place) before after (row, route, is, does) come lost =
      where_stays Come before (with_route place freed before) after does come
      (λ due. route_come far number place freed before (λ other also. order_most other.phase) come) lost
  order_kept (MovePoint place need) before after (row, route, is, does) come lost =
      where_stays Come before (giving_move now need.point need.side before) after does come
      (λ due. same_come far number before (giving_move now need.point need.side before) (move_keeps now need.point need.side before) come) lost
  order_kept (Proceed place) before after (row, route, is, does) come lost =
      where_stays Come before (giving_aspect now row.entry row.aspect (with_route place (authorised table before.ixl row) before)) after does come
      (λ due. same_come far number (with_route place (authorised table before.ixl row) before) (giving_aspect now row.entry row.aspect (with_route place (authorised table before.ixl row) before)) (aspect_keeps now row.entry row.aspect (with_route place (authorised table before.ixl row) before))
      (route_come far number place (authorised table before.ixl row) before
      (λ other also. in_phase before place route other phase.Waiting (λ r. phase.Proceeding) is.1 also due.waits (omega arith)) come)) lost
  order_kept (Beat node) before after same come lost = lost (subst Come (sym same) (same_come far number before (beaten now node before) (beaten_keeps now node before) come))
