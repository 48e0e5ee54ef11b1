-- What is answered to a command, by why it is refused.
use Rattle.std.proofs.Common.{◌≡◌, ℕ, zero, suc, List, [], ◌∷◌, length, arith, refl, ap, sym, ◌∙◌}
use Rattle.std.specs.Prelude.{Option, Some, None, slice_get}
use Rattle.ixl_state.specs.ixl_spec.Commands.{refusal}
use Rattle.ixl_state.specs.ixl_spec.Step.{Accepted, Commands, Refused, Reply, all_clocked, answer_by, reply}
use Rattle.ixl_state.specs.ixl_spec.declared.command.Command.{Command}
use Rattle.ixl_state.specs.ixl_spec.declared.command.Refusal.{Refusal}
use Rattle.ixl.specs.Interlocking.{HasStepped, InterlockingState}
use Rattle.ixl_laws.proofs.PickedByTest.{none_is}

answer_accepts : (found : Option Refusal) → answer_by found ≡ Accepted → found ≡ None
answer_accepts None is = refl
answer_accepts (Some cause) is = cc

answer_refuses : (found : Option Refusal) (cause : Refusal) → answer_by found ≡ Refused cause → found ≡ Some cause
answer_refuses None cause is = cc
answer_refuses (Some other) cause is = cc

pub accepted_is : (now : ℕ) (command : Command) (old new : InterlockingState) (answer : Reply) → HasStepped now (Commands command) old new answer → answer ≡ Accepted →
    refusal now old.state.sited.table command (all_clocked now old.state.ixl) ≡ None
unfolding reply
accepted_is now command old new answer step accepts = answer_accepts (refusal now old.state.sited.table command (all_clocked now old.state.ixl)) (sym step.answered ∙ accepts)

pub accepted_so : (now : ℕ) (command : Command) (old new : InterlockingState) (answer : Reply) → HasStepped now (Commands command) old new answer →
    refusal now old.state.sited.table command (all_clocked now old.state.ixl) ≡ None → answer ≡ Accepted
unfolding reply
accepted_so now command old new answer step none = step.answered ∙ ap answer_by none

pub refused_is : (now : ℕ) (command : Command) (old new : InterlockingState) (answer : Reply) (cause : Refusal) → HasStepped now (Commands command) old new answer → answer ≡ Refused cause →
    refusal now old.state.sited.table command (all_clocked now old.state.ixl) ≡ Some cause
unfolding reply
refused_is now command old new answer cause step refuses = answer_refuses (refusal now old.state.sited.table command (all_clocked now old.state.ixl)) cause (sym step.answered ∙ refuses)

-- there is one at each place at which another list of this length has one
pub also_there : {A B : Type 0} (ones : List A) (others : List B) (place : ℕ) (one : A) → length ones ≡ length others → slice_get ones place ≡ Some one → (other : B) × (slice_get others place ≡ Some other)
also_there [] others place one same is = absurd (none_is is)
also_there (first ∷ ones) [] place one same is = absurd (omega (arith, same))
also_there (first ∷ ones) (other ∷ others) zero one same is = (other, refl)
also_there (first ∷ ones) (other ∷ others) (suc place) one same is = also_there ones others place one (omega (arith, same)) is
