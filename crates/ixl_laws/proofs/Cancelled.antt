-- Through the turns of a step a cancelled route stays cancelled, until it is free.
use Rattle.std.proofs.Common.{◌≡◌, ◌⊎◌, inl, inr, ℕ, suc, true, List, length, arith, refl, ap, sym, ◌∙◌, subst}
use Rattle.std.specs.Prelude.{◌==◌, Some, slice_get}
use Rattle.ixl_state.specs.ixl_spec.EndDue.{SomeFreeable}
use Rattle.ixl_state.specs.ixl_spec.Rules.{authorised, come_to, freed, one_freed, stopped}
use Rattle.ixl_state.specs.ixl_spec.State.{IxlState, RouteState}
use Rattle.ixl_state.specs.ixl_spec.StepSoFar.{StepSoFar, giving_aspect, giving_move, with_route}
use Rattle.ixl_state.specs.ixl_spec.Table.{Row, Table}
use Rattle.ixl_state.specs.ixl_spec.declared.phase.Phase.{Phase}
use Rattle.ixl_state.specs.ixl_spec.declared.phase.Phase.TheVariants as phase
use Rattle.ixl_laws.specs.Onward.{order_of}
use Rattle.ixl_laws.specs.WholeStep.{Beat, DoesItsTurn, EndAuthority, FreeCancelled, FreeSection, MovePoint, Passed, Proceed, Turn, Watch, Withdraw, approach_seen, beaten}
use Rattle.ixl_laws.proofs.PickedByTest.{either, some_same}
use Rattle.ixl_laws.proofs.TurnKeeps.{Stays, where_stays}
use Rattle.ixl_laws.proofs.TurnOrder.{beaten_keeps, stopped_keeps}
use Rattle.ixl_laws.proofs.WholeFits.{aspect_keeps, changed_or_same, move_keeps}

abbrev pub Off : RouteState → Type 0
Off route = (route.cancelled ≡ true) ⊎ (route.phase ≡ phase.Free)

abbrev pub IsOff : ℕ → StepSoFar → Type 0
IsOff number part = (route : RouteState) → slice_get part.ixl.routes number ≡ Some route → Off route

same_off : (number : ℕ) (a b : StepSoFar) → b.ixl.routes ≡ a.ixl.routes → IsOff number a → IsOff number b
same_off number a b same off route is = off route (ap (λ (routes : List RouteState). slice_get routes number) (sym same) ∙ is)

route_off : (number place : ℕ) (change : RouteState → RouteState) (part : StepSoFar) →
    ((route : RouteState) → slice_get part.ixl.routes place ≡ Some route → Off route → Off (change route)) → IsOff number part → IsOff number (with_route place change part)
route_off number place change part stays off route is = by_place (changed_or_same change place number part.ixl.routes route is) where
  by_place : (before : RouteState) × (slice_get part.ixl.routes number ≡ Some before) × ((route ≡ before) ⊎ ((number ≡ place) × (route ≡ change before))) → Off route
  by_place (before, there, inl same) = subst Off (sym same) (off before there)
  by_place (before, there, inr (here, same)) = subst Off (sym same) (stays before (subst (λ n. slice_get part.ixl.routes n ≡ Some before) here there) (off before there))

-- a route in another phase than free
still : (p q : Phase) (route other : RouteState) → Some other ≡ Some route → other.phase ≡ p → (4 ≡ order_of p → ⊥) → Off route → Off (come_to q route)
still p q route other same at apart (inl yet) = inl yet
still p q route other same at apart (inr free) =
    let here : 4 ≡ order_of p = ap order_of (sym free ∙ ap (λ (r : RouteState). r.phase) (sym (some_same same)) ∙ at) in absurd (apart here)

next_off : (table : Table) (ixl : IxlState) (row : Row) (route other : RouteState) → SomeFreeable table ixl row route → Some route ≡ Some other → Off other → Off (one_freed row route.phase other)
next_off table ixl row route other (place, due) same off = subst (λ (p : Phase). Off (one_freed row p other)) (sym due.ended)
    (either Off (suc place == length row.sections) (freed other) (come_to (phase.Ended due.clock (suc place)) other) (inr refl)
    (still (phase.Ended due.clock place) (phase.Ended due.clock (suc place)) other route same due.ended (λ wrong. omega (arith, wrong)) off))

-- authority keeps the cancel too
authorised_off : (table : Table) (ixl : IxlState) (row : Row) (route other : RouteState) → Some other ≡ Some route → other.phase ≡ phase.Waiting → Off route → Off (authorised table ixl row route)
authorised_off table ixl row route other same at (inl yet) = inl yet
authorised_off table ixl row route other same at (inr free) =
    let here : 4 ≡ 0 = ap order_of (sym free ∙ ap (λ (r : RouteState). r.phase) (sym (some_same same)) ∙ at) in absurd (omega (arith, here))

module _ (now : ℕ) (table : Table) (number : ℕ) where
  abbrev IsOffThere : StepSoFar → Type 0
  IsOffThere part = IsOff number part

  pub off_kept : (turn : Turn) (before after : StepSoFar) → DoesItsTurn now table turn before after → IsOff number before → Stays (IsOff number after)
  off_kept (Watch place) before after (row, route, is, does) off lost =
      where_stays IsOffThere before (with_route place (approach_seen table before.ixl row) before) after does off
      (λ due. route_off number place (approach_seen table before.ixl row) before (λ other at kept. kept) off) lost
  off_kept (Withdraw place) before after (row, route, is, does) off lost =
      where_stays IsOffThere before (stopped now row (with_route place (come_to phase.Withdrawn) before)) after does off
      (λ due. same_off number (with_route place (come_to phase.Withdrawn) before) (stopped now row (with_route place (come_to phase.Withdrawn) before)) (stopped_keeps now row (with_route place (come_to phase.Withdrawn) before))
      (route_off number place (come_to phase.Withdrawn) before
      (λ other at kept. still phase.Proceeding phase.Withdrawn other route (sym is.1 ∙ at) due.given (λ wrong. omega (arith, wrong)) kept) off)) lost
  off_kept (EndAuthority place) before after (row, route, is, does) off lost =
      where_stays IsOffThere before (with_route place (come_to (phase.Ended now 0)) before) after does off
      (λ due. route_off number place (come_to (phase.Ended now 0)) before
      (λ other at kept. still phase.Withdrawn (phase.Ended now 0) other route (sym is.1 ∙ at) due.withdrawn (λ wrong. omega (arith, wrong)) kept) off) lost
  off_kept (FreeSection place) before after (row, route, is, does) off lost =
      where_stays IsOffThere before (with_route place (one_freed row route.phase) before) after does off
      (λ due. route_off number place (one_freed row route.phase) before (λ other at kept. next_off table before.ixl row route other due (sym is.1 ∙ at) kept) off) lost
  off_kept (Passed place) before after (row, route, is, (alike, none)) off lost = lost (subst IsOffThere (sym alike) off)
  off_kept (FreeCancelled place) before after (row, route, is, does) off lost =
      where_stays IsOffThere before (with_route place freed before) after does off (λ due. route_off number place freed before (λ other at kept. inr refl) off) lost
  off_kept (MovePoint place need) before after (row, route, is, does) off lost =
      where_stays IsOffThere before (giving_move now need.point need.side before) after does off
      (λ due. same_off number before (giving_move now need.point need.side before) (move_keeps now need.point need.side before) off) lost
  off_kept (Proceed place) before after (row, route, is, does) off lost =
      where_stays IsOffThere before (giving_aspect now row.entry row.aspect (with_route place (authorised table before.ixl row) before)) after does off
      (λ due. same_off number (with_route place (authorised table before.ixl row) before) (giving_aspect now row.entry row.aspect (with_route place (authorised table before.ixl row) before))
      (aspect_keeps now row.entry row.aspect (with_route place (authorised table before.ixl row) before))
      (route_off number place (authorised table before.ixl row) before (λ other at kept. authorised_off table before.ixl row other route (sym is.1 ∙ at) due.waits kept) off)) lost
  off_kept (Beat node) before after alike off lost = lost (subst IsOffThere (sym alike) (same_off number before (beaten now node before) (beaten_keeps now node before) off))
