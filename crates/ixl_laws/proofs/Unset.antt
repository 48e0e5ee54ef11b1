-- In the hold no route is set.
use Rattle.std.proofs.Common.{inl, inr, ◌≡◌, ℕ, Bool, true, false, refl, sym, ◌∙◌, subst}
use Rattle.std.specs.Prelude.{Some, slice_get}
use Rattle.std.proofs.lemmas.Bool.{true≢false}
use Rattle.ixl_state.specs.ixl_spec.State.{IxlState, RouteState}
use Rattle.ixl_state.specs.ixl_spec.Step.{Input, Reply, all_clocked}
use Rattle.ixl_state.specs.ixl_spec.View.{is_holding, is_set}
use Rattle.ixl_state.specs.ixl_spec.declared.phase.Phase.{Phase}
use Rattle.ixl.specs.Interlocking.{HasStepped, InterlockingState}
use Rattle.ixl_laws.specs.Onward.{GoesOn, IsOnward}
use Rattle.ixl_laws.proofs.Apart.{Accepts, set_back}
use Rattle.ixl_laws.proofs.RoutesGoOn.{steps_go_on}

onward_unset : (old new : Phase) (set : Bool) → is_set new ≡ set → IsOnward old new → is_set old ≡ false → is_set new ≡ false
onward_unset old new true is onward unset = absurd (true≢false (sym (set_back old new onward is) ∙ unset))
onward_unset old new false is onward unset = is

-- the clock's acting on the links leaves the hold as it is
clocked_holds : (now : ℕ) (ixl : IxlState) → is_holding now (all_clocked now ixl) ≡ is_holding now ixl
unfolding all_clocked
clocked_holds now ixl = refl

pub unset_stays : (now : ℕ) (input : Input) (old new : InterlockingState) (answer : Reply) (number : ℕ) (before after : RouteState) → Accepts → HasStepped now input old new answer →
    slice_get old.state.ixl.routes number ≡ Some before → slice_get new.state.ixl.routes number ≡ Some after →
    is_holding now old.state.ixl ≡ true → is_set before.phase ≡ false → is_set after.phase ≡ false
unset_stays now input old new answer number before after accepts step is also holding unset = by_ways (steps_go_on now input old new answer number before after step is also) where
  by_ways : GoesOn input answer number before.phase after.phase → is_set after.phase ≡ false
  by_ways (inl onward) = onward_unset before.phase after.phase (is_set after.phase) refl onward unset
  by_ways (inr anew) =
      let may = (accepts now (record { 0 = number }) old new answer (subst (λ (i : Input). HasStepped now i old new answer) anew.request step)).0 anew.accepted
      in absurd (true≢false (sym holding ∙ sym (clocked_holds now old.state.ixl) ∙ may.over))
