-- In each turn of a step the routes follow on what they were behind its input, and what is closed stays.
use Rattle.std.proofs.Common.{◌≡◌, ℕ, List, arith, refl, ap, sym, ◌∙◌, subst}
use Rattle.std.specs.Prelude.{Some, slice_get}
use Rattle.ixl_state.specs.ixl_spec.closings.declared.closed.Closings.{Closings}
use Rattle.ixl_state.specs.ixl_spec.EndDue.{SomeFreeable}
use Rattle.ixl_state.specs.ixl_spec.Rules.{authorised, come_to, freed, one_freed, stopped}
use Rattle.ixl_state.specs.ixl_spec.State.{IxlState, RouteState}
use Rattle.ixl_state.specs.ixl_spec.StepSoFar.{Detector, Node, Point, Signal, StepSoFar, giving_aspect, giving_move, with_route}
use Rattle.ixl_state.specs.ixl_spec.Table.{Row, Table}
use Rattle.ixl_state.specs.ixl_spec.declared.phase.Phase.{Phase}
use Rattle.ixl_state.specs.ixl_spec.declared.phase.Phase.TheVariants as phase
use Rattle.ixl_laws.specs.Onward.{IsOnward}
use Rattle.ixl_laws.specs.WholeStep.{Beat, DoesItsTurn, EndAuthority, FreeCancelled, FreeSection, MovePoint, Passed, Proceed, Turn, Watch, Withdraw, approach_seen, beaten}
use Rattle.ixl_laws.proofs.Following.{Follows, follows_authorised, follows_freed, follows_next, follows_to}
use Rattle.ixl_laws.proofs.KeptBehind.{KeptSince, aspect_stays, detector_stays, known_point_stays, known_signal_stays, move_stays, route_stays, stopped_stays}
use Rattle.ixl_laws.proofs.Onward.{onward_same}
use Rattle.ixl_laws.proofs.PickedByTest.{some_same}
use Rattle.ixl_laws.proofs.TurnKeeps.{Stays, where_stays}

-- the route that is kept at a place is this one, in this phase
onward_there : (part : StepSoFar) (place : ℕ) (route other : RouteState) (p q : Phase) → slice_get part.ixl.routes place ≡ Some route → slice_get part.ixl.routes place ≡ Some other → route.phase ≡ p →
    IsOnward p q → IsOnward other.phase q
onward_there part place route other p q is also at onward =
    subst (λ (r : Phase). IsOnward r q) (sym at ∙ ap (λ (r : RouteState). r.phase) (some_same (sym is ∙ also))) onward

next_there : (table : Table) (ixl : IxlState) (row : Row) (route other : RouteState) → SomeFreeable table ixl row route → Some route ≡ Some other → Follows other (one_freed row route.phase other)
next_there table ixl row route other (place, due) same = subst (λ (p : Phase). Follows other (one_freed row p other)) (sym due.ended)
    (follows_next row due.clock place other (ap (λ (r : RouteState). r.phase) (sym (some_same same)) ∙ due.ended))

module _ (now : ℕ) (table : Table) (closed : Closings) (signals : ℕ) (routes : List RouteState) where
  abbrev Kept : StepSoFar → Type 0
  Kept part = KeptSince closed signals routes part

  beaten_kept : (node : Node) (part : StepSoFar) → Kept part → Kept (beaten now node part)
  beaten_kept (Signal place) part kept = known_signal_stays closed signals routes now place part kept
  beaten_kept (Point place) part kept = known_point_stays closed signals routes now place part kept
  beaten_kept (Detector place) part kept = detector_stays closed signals routes now place part kept

  pub turn_kept : (turn : Turn) (before after : StepSoFar) → DoesItsTurn now table turn before after → Kept before → Stays (Kept after)
  turn_kept (Watch place) before after (row, route, is, does) kept lost =
      where_stays Kept before (with_route place (approach_seen table before.ixl row) before) after does kept
      (λ due. route_stays closed signals routes place (approach_seen table before.ixl row) before
      (λ other at. record { onward = onward_same other.phase; cancelled = λ set. refl; released = refl }) kept) lost
  turn_kept (Withdraw place) before after (row, route, is, does) kept lost =
      where_stays Kept before (stopped now row (with_route place (come_to phase.Withdrawn) before)) after does kept
      (λ due. stopped_stays closed signals routes now row (with_route place (come_to phase.Withdrawn) before)
      (route_stays closed signals routes place (come_to phase.Withdrawn) before
      (λ other at. follows_to other phase.Withdrawn (onward_there before place route other phase.Proceeding phase.Withdrawn is.1 at due.given (record { order = omega arith; freed = tt }))) kept)) lost
  turn_kept (EndAuthority place) before after (row, route, is, does) kept lost =
      where_stays Kept before (with_route place (come_to (phase.Ended now 0)) before) after does kept
      (λ due. route_stays closed signals routes place (come_to (phase.Ended now 0)) before
      (λ other at. follows_to other (phase.Ended now 0) (onward_there before place route other phase.Withdrawn (phase.Ended now 0) is.1 at due.withdrawn (record { order = omega arith; freed = tt }))) kept) lost
  turn_kept (FreeSection place) before after (row, route, is, does) kept lost =
      where_stays Kept before (with_route place (one_freed row route.phase) before) after does kept
      (λ due. route_stays closed signals routes place (one_freed row route.phase) before (λ other at. next_there table before.ixl row route other due (sym is.1 ∙ at)) kept) lost
  turn_kept (Passed place) before after (row, route, is, (alike, none)) kept lost = lost (subst Kept (sym alike) kept)
  turn_kept (FreeCancelled place) before after (row, route, is, does) kept lost =
      where_stays Kept before (with_route place freed before) after does kept (λ due. route_stays closed signals routes place freed before (λ other at. follows_freed other) kept) lost
  turn_kept (MovePoint place need) before after (row, route, is, does) kept lost =
      where_stays Kept before (giving_move now need.point need.side before) after does kept (λ due. move_stays closed signals routes now need.point need.side before kept) lost
  turn_kept (Proceed place) before after (row, route, is, does) kept lost =
      where_stays Kept before (giving_aspect now row.entry row.aspect (with_route place (authorised table before.ixl row) before)) after does kept
      (λ due. aspect_stays closed signals routes now row.entry row.aspect (with_route place (authorised table before.ixl row) before)
      (route_stays closed signals routes place (authorised table before.ixl row) before
      (λ other at. follows_authorised table before.ixl row other (onward_there before place route other phase.Waiting phase.Proceeding is.1 at due.waits (record { order = omega arith; freed = tt }))) kept)) lost
  turn_kept (Beat node) before after alike kept lost = lost (subst Kept (sym alike) (beaten_kept node before kept))
