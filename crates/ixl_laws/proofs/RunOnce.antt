-- Over many steps proceed is given once in a setting.
use Rattle.std.proofs.Common.{◌≡◌, inl, inr, ℕ, zero, suc, ◌≤◌, List, [], ◌∷◌, arith, refl, ap, sym, ◌∙◌, subst}
use Rattle.std.specs.Prelude.{Some, slice_get}
use Rattle.ixl_state.specs.First.{key_of}
use Rattle.ixl_state.specs.State.{StateView}
use Rattle.ixl_state.specs.ixl_spec.State.{IxlState, RouteState}
use Rattle.ixl_state.specs.ixl_spec.Step.{Input, all_clocked, reply}
use Rattle.ixl_state.specs.ixl_spec.StepSoFar.{begun_with, empty_outbox}
use Rattle.ixl_state.specs.ixl_spec.declared.command.Command.TheVariants as commands
use Rattle.ixl_state.specs.ixl_spec.declared.phase.Phase.TheVariants as phase
use Rattle.ixl_laws.specs.GivenOnce.{InNone, OneAfterAnother, ProceedGiven, SetsAnew, StepTaken}
use Rattle.ixl_laws.specs.Onward.{GoesOn, order_of}
use Rattle.ixl_laws.specs.WholeStep.{heard}
use Rattle.ixl_laws.proofs.GivenOnce.{not_earlier, proceed_comes}
use Rattle.ixl_laws.proofs.RoutesGoOn.{GoesBehindInput, IsOwnRequest, accepted_is, given_goes, routes_were_there, steps_go_on}
use Rattle.ixl_laws.proofs.PickedByTest.{none_is, some_same}
use Rattle.ixl_laws.proofs.TurnKeeps.{Stays, from_turn, turn_at, up_to}
use Rattle.ixl_laws.proofs.TurnOrder.{HasCome, order_kept}

-- a route doesn't wait for its aspect
IsPast : ℕ → IxlState → Type 0
IsPast number ixl = (route : RouteState) → slice_get ixl.routes number ≡ Some route → 1 ≤ order_of route.phase

module _ (number : ℕ) (step : StepTaken) where
  -- its own request that is accepted sets it anew
  own_request : IsOwnRequest step.now step.old.state.sited.table (all_clocked step.now step.old.state.ixl) step.input number → SetsAnew number step
  own_request own = (
    own.0,
    accepted_is (commands.Request (record { 0 = number })) step.now step.old.state.sited.table (key_of step.old.state.sited.site) step.old.state.ixl step.answer
        (step.made.answered ∙ ap (λ (i : Input). reply step.now step.old.state.sited.table (key_of step.old.state.sited.site) i step.old.state.ixl) own.0) own.1,
  )

  -- after the input it doesn't wait either
  heard_past : (SetsAnew number step → ⊥) → IsPast number step.old.state.ixl → HasCome 1 number (heard step.now step.input step.old)
  unfolding IsPast all_clocked
  heard_past unset past route is = by_way (given_goes step.now step.old.state.sited.table (key_of step.old.state.sited.site) step.input (begun_with (all_clocked step.now step.old.state.ixl) empty_outbox) number route is) where
    by_way : GoesBehindInput step.now step.old.state.sited.table (key_of step.old.state.sited.site) step.input (begun_with (all_clocked step.now step.old.state.ixl) empty_outbox) number route → 1 ≤ order_of route.phase
    by_way (before, there, inl onward) = let first = past before there in let next = onward.order in omega (arith, first, next)
    by_way (before, there, inr own) = absurd (unset (own_request own))

  -- so it is given no proceed
  none_given : (SetsAnew number step → ⊥) → IsPast number step.old.state.ixl → ProceedGiven number step → ⊥
  none_given unset past (place, taken, at, gives) =
      up_to step.now step.old.state.sited.table (HasCome 1 number) (order_kept step.now step.old.state.sited.table 1 number) step.whole.turns (heard step.now step.input step.old) step.whole.last step.whole.follow
      place taken at (heard_past unset past)
      (λ come. not_earlier 1 number taken.before gives.route phase.Waiting come gives.is.1 gives.due.waits (omega arith))

  -- and after the step it doesn't wait
  stays_past : (SetsAnew number step → ⊥) → IsPast number step.old.state.ixl → IsPast number step.new.state.ixl
  unfolding IsPast
  stays_past unset past route is =
      let before = routes_were_there step.now step.input step.old step.new step.answer number route step.made is
      in by_way before.0 (past before.0 before.1) (steps_go_on step.now step.input step.old step.new step.answer number before.0 route step.made before.1 is)
    where
      by_way : (before : RouteState) → 1 ≤ order_of before.phase → GoesOn step.input step.answer number before.phase route.phase → 1 ≤ order_of route.phase
      by_way before first (inl onward) = let next = onward.order in omega (arith, first, next)
      by_way before first (inr anew) = absurd (unset (anew.request, anew.accepted))

  -- nor after a step in which it was given
  given_past : ProceedGiven number step → Stays (IsPast number step.new.state.ixl)
  unfolding IsPast
  given_past (place, taken, at, gives) lost =
      from_turn step.now step.old.state.sited.table (HasCome 1 number) (order_kept step.now step.old.state.sited.table 1 number) step.whole.turns (heard step.now step.input step.old) step.whole.last step.whole.follow
      place taken at (proceed_comes step.now step.old.state.sited.table number taken (turn_at step.now step.old.state.sited.table step.whole.turns (heard step.now step.input step.old) step.whole.last step.whole.follow place taken at) gives)
      (λ come. lost (λ route is. come route (ap (λ (i : IxlState). slice_get i.routes number) (sym step.whole.ixl) ∙ is)))

later_none : (number : ℕ) (before : StepTaken) (steps : List StepTaken) → OneAfterAnother before steps → IsPast number before.new.state.ixl → InNone (SetsAnew number) steps → InNone (ProceedGiven number) steps
later_none number before [] chain past unset place step at gives = absurd (none_is at)
later_none number before (next ∷ others) chain past unset zero step at gives =
    none_given number next (unset 0 next refl) (subst (λ (s : StateView). IsPast number s.ixl) (sym chain.0) past) (subst (ProceedGiven number) (sym (some_same at)) gives)
later_none number before (next ∷ others) chain past unset (suc place) step at gives =
    later_none number next others chain.1 (stays_past number next (unset 0 next refl) (subst (λ (s : StateView). IsPast number s.ixl) (sym chain.0) past))
    (λ further other is. unset (suc further) other is) place step at gives

pub run_once : (number : ℕ) (first : StepTaken) (others : List StepTaken) → OneAfterAnother first others → ProceedGiven number first → InNone (SetsAnew number) others → InNone (ProceedGiven number) others
run_once number first others chain given unset place step at again =
    given_past number first given (λ past. later_none number first others chain past unset place step at again)
