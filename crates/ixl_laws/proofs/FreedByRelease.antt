-- A route that is freed by its release is cancelled then, and its authority is ended.
use Rattle.std.proofs.Common.{◌≡◌, inr, ℕ, Bool, true, false, length, refl, ap, sym, ◌∙◌, subst}
use Rattle.std.specs.Prelude.{Some, slice_get}
use Rattle.std.proofs.lemmas.Bool.{false≢true}
use Rattle.ixl_state.specs.ixl_spec.Commands.{is_ended}
use Rattle.ixl_state.specs.ixl_spec.Due.{FreeByCancel}
use Rattle.ixl_state.specs.ixl_spec.Rules.{freed}
use Rattle.ixl_state.specs.ixl_spec.State.{RouteState}
use Rattle.ixl_state.specs.ixl_spec.Step.{Input}
use Rattle.ixl_state.specs.ixl_spec.StepSoFar.{StepSoFar, with_route}
use Rattle.ixl_state.specs.ixl_spec.declared.phase.Phase.TheVariants as phase
use Rattle.ixl_state.specs.First.{key_of}
use Rattle.ixl.specs.Interlocking.{InterlockingState}
use Rattle.ixl_laws.specs.Operations.{FreesByRelease, IsCancelledAndEnded, ReleasedAreEnded}
use Rattle.ixl_laws.specs.WholeStep.{DoesItsTurn, FreeCancelled, Turn, TurnTaken, WholeStep, heard}
use Rattle.ixl_laws.proofs.KeptBehind.{KeptSince, nothing_yet}
use Rattle.ixl_laws.proofs.PickedByTest.{some_same}
use Rattle.ixl_laws.proofs.Released.{ended_is, ended_still, input_ended}
use Rattle.ixl_laws.proofs.TurnFollows.{turn_kept}
use Rattle.ixl_laws.proofs.TurnKeeps.{Stays, turn_at, up_to}

-- whether it is so can be seen of the route
ended_seen : (route : RouteState) → Stays (IsCancelledAndEnded route) → IsCancelledAndEnded route
ended_seen route stays = (by_cancel route.cancelled refl, by_phase (is_ended route.phase) refl) where
  by_cancel : (cancelled : Bool) → route.cancelled ≡ cancelled → route.cancelled ≡ true
  by_cancel true is = is
  by_cancel false is = absurd (stays (λ over. false≢true (sym is ∙ over.0)))

  by_phase : (ended : Bool) → is_ended route.phase ≡ ended → (ended : ℕ) × (done : ℕ) × (route.phase ≡ phase.Ended ended done)
  by_phase true is = ended_is route.phase is
  by_phase false is = absurd (stays (λ over. false≢true (sym is ∙ ap is_ended over.1.2)))

module _ (now number : ℕ) (input : Input) (old new : InterlockingState) (step : WholeStep now input old new) (place : ℕ) (taken : TurnTaken) (ended : ReleasedAreEnded old.state.ixl)
    (at : slice_get step.turns place ≡ Some taken) (frees : FreesByRelease now old.state.sited.table number taken) where
  abbrev begin : StepSoFar
  begin = heard now input old

  abbrev Kept : StepSoFar → Type 0
  Kept part = KeptSince begin.ixl.closed (length begin.ixl.known_signals) begin.ixl.routes part

  pub ended_in_turn : IsCancelledAndEnded frees.route
  ended_in_turn = ended_seen frees.route (λ lost.
      up_to now old.state.sited.table Kept (turn_kept now old.state.sited.table begin.ixl.closed (length begin.ixl.known_signals) begin.ixl.routes) step.turns begin step.last step.follow place taken at (nothing_yet begin)
      (λ kept. lost (ended_still begin.ixl taken.before.ixl kept.follow (input_ended now old.state.sited.table (key_of old.state.sited.site) input old.state.ixl ended)
      number frees.route frees.over.0 frees.is.1 frees.over.1 frees.set)))

  pub freed_in_turn : taken.after ≡ with_route number freed taken.before
  freed_in_turn = by_route (subst (λ (t : Turn). DoesItsTurn now old.state.sited.table t taken.before taken.after) frees.turn
      (turn_at now old.state.sited.table step.turns begin step.last step.follow place taken at))
    where
      by_route : DoesItsTurn now old.state.sited.table (FreeCancelled number) taken.before taken.after → taken.after ≡ with_route number freed taken.before
      by_route (row, route, is, did) =
          did.due (subst (FreeByCancel now old.state.sited.table taken.before.ixl row) (some_same (sym frees.is.1 ∙ is.1))
          (ended_in_turn.0, inr (ended_in_turn.1.0, ended_in_turn.1.1, ended_in_turn.1.2, inr frees.over)))
