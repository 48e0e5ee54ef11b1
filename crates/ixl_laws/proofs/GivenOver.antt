-- In the turns of a step no aspect is given over what is closed, and no move to a closed side.
use Rattle.std.proofs.Common.{◌≡◌, ℕ, ◌<◌, false, length, arith, refl, ap, sym, ◌∙◌, subst}
use Rattle.std.specs.Prelude.{Some, slice_get}
use Rattle.std.specs.List.{Contains}
use Rattle.std.proofs.lemmas.List.Elements.{All-contains}
use Rattle.ixl_state.specs.ixl_spec.closings.declared.closed.Closings.{Closings}
use Rattle.ixl_state.specs.ixl_spec.closings.declared.thing.Thing.{Thing}
use Rattle.ixl_state.specs.ixl_spec.closings.declared.thing.Thing.TheVariants.{Point}
use Rattle.ixl_state.specs.ixl_spec.closings.Closed.{IsClosed}
use Rattle.ixl_state.specs.ixl_spec.Due.{HoldsPoint, IsRouteOf, Uses}
use Rattle.ixl_state.specs.ixl_spec.State.{IxlState, RouteState}
use Rattle.ixl_state.specs.ixl_spec.Step.{Input}
use Rattle.ixl_state.specs.ixl_spec.StepSoFar.{StepSoFar}
use Rattle.ixl_state.specs.ixl_spec.Table.{Row, Table}
use Rattle.ixl_state.specs.ixl_spec.declared.phase.Phase.{Phase}
use Rattle.ixl_state.specs.ixl_table.Table.{IsHeldUntil, IsTableOf, as_route}
use Rattle.ixl.specs.Interlocking.{InterlockingState}
use Rattle.ixl_laws.specs.GivenOnce.{GivesMove, GivesProceed}
use Rattle.ixl_laws.specs.Operations.{NothingClosedIsUsed}
use Rattle.ixl_laws.specs.WholeStep.{TurnTaken, WholeStep, heard}
use Rattle.ixl_laws.proofs.KeptBehind.{KeptSince, nothing_yet}
use Rattle.ixl_laws.proofs.NeededPoints.{turn_needed}
use Rattle.ixl_laws.proofs.PickedByTest.{some_same}
use Rattle.ixl_laws.proofs.TurnFollows.{turn_kept}
use Rattle.ixl_laws.proofs.TurnKeeps.{through, up_to}
use Rattle.ixl_laws.proofs.UsedLess.{follower_unused}

module _ (now : ℕ) (input : Input) (old new : InterlockingState) (step : WholeStep now input old new) (unused : NothingClosedIsUsed old.state.sited.table (heard now input old).ixl) where
  abbrev table : Table
  table = old.state.sited.table

  abbrev begin : StepSoFar
  begin = heard now input old

  abbrev Kept : StepSoFar → Type 0
  Kept part = KeptSince begin.ixl.closed (length begin.ixl.known_signals) begin.ixl.routes part

  -- a route that isn't cancelled at a turn uses nothing that is closed after the step
  pub none_used : (place : ℕ) (taken : TurnTaken) (number : ℕ) (row : Row) (route : RouteState) (thing : Thing) → slice_get step.turns place ≡ Some taken → IsRouteOf table taken.before.ixl number row route →
      route.cancelled ≡ false → Uses number row route thing → IsClosed new.state.ixl.closed thing → ⊥
  none_used place taken number row route thing at is going uses closed =
      through now table Kept (turn_kept now table begin.ixl.closed (length begin.ixl.known_signals) begin.ixl.routes) step.turns begin step.last step.follow (nothing_yet begin) (λ last.
      up_to now table Kept (turn_kept now table begin.ixl.closed (length begin.ixl.known_signals) begin.ixl.routes) step.turns begin step.last step.follow place taken at (nothing_yet begin) (λ kept. by_route last kept))
    where
      by_route : Kept step.last → Kept taken.before → ⊥
      by_route last kept =
          let before = kept.follow number route is.1
          in follower_unused number row before.0 route thing begin.ixl.closed before.2 going uses (unused number row before.0 thing (is.0, before.1))
          (subst (λ (c : Closings). IsClosed c thing) (ap (λ (ixl : IxlState). ixl.closed) step.ixl ∙ last.closed_is) closed)

  pub no_aspect : (number place : ℕ) (taken : TurnTaken) (thing : Thing) → slice_get step.turns place ≡ Some taken → (gives : GivesProceed now table number taken) → Uses number gives.row gives.route thing →
      IsClosed new.state.ixl.closed thing → ⊥
  no_aspect number place taken thing at gives uses closed = none_used place taken number gives.row gives.route thing at gives.is gives.due.goes_on uses closed

  pub no_move : (point place : ℕ) (taken : TurnTaken) → IsTableOf old.state.sited.site old.state.sited.table → slice_get step.turns place ≡ Some taken → (gives : GivesMove table point taken) →
      IsClosed new.state.ixl.closed (Point (record { 0 = point }) gives.need.side) → ⊥
  no_move point place taken is_table at gives closed =
      none_used place taken gives.number gives.row gives.route (Point (record { 0 = point }) gives.need.side) at gives.is gives.due.goes_on
      (subst (λ (p : Phase). HoldsPoint gives.row p point gives.need.side) (sym gives.due.waits)
      (refl, (gives.need, required, gives.of_point, refl, held_somewhere))) closed
    where
      required : Contains gives.row.needs gives.need
      required =
          let needed = turn_needed table.rows input old.state.ixl step.turns step.are place taken gives.number gives.need at gives.turn
          in subst (λ (r : Row). Contains r.needs gives.need) (some_same (sym needed.1 ∙ gives.is.0)) needed.2

      -- until the last section that it awaits is freed
      held_somewhere : 0 < gives.need.until
      held_somewhere =
          let until = (All-contains (IsHeldUntil old.state.sited.site (as_route gives.number) gives.row.sections) gives.row.needs gives.need (is_table.rows.their gives.number gives.row gives.is.0).until required).until
          in omega (arith, until)
