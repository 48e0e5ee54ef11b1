-- In the turns of a step stop, proceed and moves are given once.
use Rattle.std.proofs.Common.{◌≡◌, ℕ, ◌<◌, List, arith, refl, ap, sym, ◌∙◌, subst}
use Rattle.std.specs.Prelude.{Some, slice_get}
use Rattle.ixl_state.specs.ixl_spec.Due.{MoveDue, ProceedDue, StopDue}
use Rattle.ixl_state.specs.ixl_spec.Rules.{authorised, come_to, stopped}
use Rattle.ixl_state.specs.ixl_spec.State.{RouteState}
use Rattle.ixl_state.specs.ixl_spec.StepSoFar.{StepSoFar, giving_aspect, giving_move, with_route}
use Rattle.ixl_state.specs.ixl_spec.Table.{Row, Table}
use Rattle.ixl_state.specs.ixl_spec.declared.phase.Phase.{Phase}
use Rattle.ixl_state.specs.ixl_spec.declared.phase.Phase.TheVariants as phase
use Rattle.ixl_laws.specs.GivenOnce.{GivesMove, GivesProceed, GivesStop, NoneBehind}
use Rattle.ixl_laws.specs.Onward.{order_of}
use Rattle.ixl_laws.specs.WholeStep.{DoesItsTurn, Follow, MovePoint, Proceed, Turn, TurnTaken, Withdraw}
use Rattle.ixl_laws.proofs.PickedByTest.{changed_here, some_same}
use Rattle.ixl_laws.proofs.TurnKeeps.{between, turn_at}
use Rattle.ixl_laws.proofs.TurnMoves.{HasMoved, given_moved, moved_kept, moved_not_due}
use Rattle.ixl_laws.proofs.TurnOrder.{HasCome, order_kept, stopped_keeps}
use Rattle.ixl_laws.proofs.WholeFits.{aspect_keeps}

-- a route that was changed to a phase has come so far
come_there : (number : ℕ) (change : RouteState → RouteState) (p : Phase) (part after : StepSoFar) → ((route : RouteState) → (change route).phase ≡ p) → after.ixl.routes ≡ (with_route number change part).ixl.routes → HasCome (order_of p) number after
come_there number change p part after comes same route is =
    let found = changed_here change number part.ixl.routes route (ap (λ (routes : List RouteState). slice_get routes number) (sym same) ∙ is)
    in let at : order_of route.phase ≡ order_of p = ap (λ (r : RouteState). order_of r.phase) found.2 ∙ ap order_of (comes found.0)
    in omega (arith, at)

-- where a route is so far it isn't in an earlier phase
pub not_earlier : (far number : ℕ) (part : StepSoFar) (route : RouteState) (p : Phase) → HasCome far number part → slice_get part.ixl.routes number ≡ Some route → route.phase ≡ p → order_of p < far → ⊥
not_earlier far number part route p come is at less =
    let here = come route is
    in let same : order_of route.phase ≡ order_of p = ap order_of at
    in omega (arith, here, same, less)

module _ (now : ℕ) (table : Table) where
  pub stop_comes : (number : ℕ) (taken : TurnTaken) → DoesItsTurn now table taken.turn taken.before taken.after → GivesStop table number taken → HasCome 2 number taken.after
  stop_comes number taken does gives = by_route (subst (λ (t : Turn). DoesItsTurn now table t taken.before taken.after) gives.turn does) where
    by_route : DoesItsTurn now table (Withdraw number) taken.before taken.after → HasCome 2 number taken.after
    by_route (row, route, is, did) =
        let row_same : gives.row ≡ row = some_same (sym gives.is.0 ∙ is.0)
        in let route_same : gives.route ≡ route = some_same (sym gives.is.1 ∙ is.1)
        in let after : taken.after ≡ stopped now row (with_route number (come_to phase.Withdrawn) taken.before) = did.due (subst (λ (r : Row). StopDue table taken.before.ixl r route) row_same (subst (StopDue table taken.before.ixl gives.row) route_same gives.due))
        in come_there number (come_to phase.Withdrawn) phase.Withdrawn taken.before taken.after (λ other. refl)
        (ap (λ (p : StepSoFar). p.ixl.routes) after ∙ stopped_keeps now row (with_route number (come_to phase.Withdrawn) taken.before))

  pub proceed_comes : (number : ℕ) (taken : TurnTaken) → DoesItsTurn now table taken.turn taken.before taken.after → GivesProceed now table number taken → HasCome 1 number taken.after
  proceed_comes number taken does gives = by_route (subst (λ (t : Turn). DoesItsTurn now table t taken.before taken.after) gives.turn does) where
    by_route : DoesItsTurn now table (Proceed number) taken.before taken.after → HasCome 1 number taken.after
    by_route (row, route, is, did) =
        let row_same : gives.row ≡ row = some_same (sym gives.is.0 ∙ is.0)
        in let route_same : gives.route ≡ route = some_same (sym gives.is.1 ∙ is.1)
        in let after : taken.after ≡ giving_aspect now row.entry row.aspect (with_route number (authorised table taken.before.ixl row) taken.before) =
        did.due (subst (λ (r : Row). ProceedDue now table taken.before.ixl r route) row_same (subst (ProceedDue now table taken.before.ixl gives.row) route_same gives.due))
        in come_there number (authorised table taken.before.ixl row) phase.Proceeding taken.before taken.after (λ other. refl)
        (ap (λ (p : StepSoFar). p.ixl.routes) after ∙ aspect_keeps now row.entry row.aspect (with_route number (authorised table taken.before.ixl row) taken.before))

  move_moves : (point : ℕ) (taken : TurnTaken) → DoesItsTurn now table taken.turn taken.before taken.after → GivesMove table point taken → HasMoved point taken.after
  move_moves point taken does gives = by_route (subst (λ (t : Turn). DoesItsTurn now table t taken.before taken.after) gives.turn does) where
    by_route : DoesItsTurn now table (MovePoint gives.number gives.need) taken.before taken.after → HasMoved point taken.after
    by_route (row, route, is, did) =
        let route_same : gives.route ≡ route = some_same (sym gives.is.1 ∙ is.1)
        in let after : taken.after ≡ giving_move now gives.need.point gives.need.side taken.before = did.due (subst (λ (r : RouteState). MoveDue table taken.before.ixl gives.number r gives.need) route_same gives.due)
        in subst (λ n. HasMoved n taken.after) gives.of_point (subst (HasMoved gives.need.point) (sym after) (given_moved now gives.need.point gives.need.side taken.before))

  module _ (turns : List TurnTaken) (begin end : StepSoFar) (follow : Follow now table begin turns end) where
    pub stop_once : (number : ℕ) → NoneBehind (GivesStop table number) (GivesStop table number) turns
    stop_once number earlier later one another less at behind gives again =
        between now table (HasCome 2 number) (order_kept now table 2 number) turns begin end follow earlier later one another less at behind
        (stop_comes number one (turn_at now table turns begin end follow earlier one at) gives)
        (λ come. not_earlier 2 number another.before again.route phase.Proceeding come again.is.1 again.due.given (omega arith))

    pub none_after_stop : (number : ℕ) → NoneBehind (GivesStop table number) (GivesProceed now table number) turns
    none_after_stop number earlier later one another less at behind gives again =
        between now table (HasCome 2 number) (order_kept now table 2 number) turns begin end follow earlier later one another less at behind
        (stop_comes number one (turn_at now table turns begin end follow earlier one at) gives)
        (λ come. not_earlier 2 number another.before again.route phase.Waiting come again.is.1 again.due.waits (omega arith))

    pub proceed_once : (number : ℕ) → NoneBehind (GivesProceed now table number) (GivesProceed now table number) turns
    proceed_once number earlier later one another less at behind gives again =
        between now table (HasCome 1 number) (order_kept now table 1 number) turns begin end follow earlier later one another less at behind
        (proceed_comes number one (turn_at now table turns begin end follow earlier one at) gives)
        (λ come. not_earlier 1 number another.before again.route phase.Waiting come again.is.1 again.due.waits (omega arith))

    pub move_once : (point : ℕ) → NoneBehind (GivesMove table point) (GivesMove table point) turns
    move_once point earlier later one another less at behind gives again =
        between now table (HasMoved point) (moved_kept now table point) turns begin end follow earlier later one another less at behind
        (move_moves point one (turn_at now table turns begin end follow earlier one at) gives)
        (λ moved. moved_not_due table another.before again.number again.route again.need (subst (λ n. HasMoved n another.before) (sym again.of_point) moved) again.is.1 again.due)
