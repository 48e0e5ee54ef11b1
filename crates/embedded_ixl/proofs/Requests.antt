-- What is answered to a request.
use Rattle.std.proofs.Common.{◌≡◌, ℕ, Option, Some, None, refl}
use Rattle.ixl_state.specs.ixl_spec.Commands.{refusal}
use Rattle.ixl_state.specs.ixl_spec.Step as step
use Rattle.ixl_state.specs.ixl_spec.Step.{all_clocked, answer_by}
use Rattle.ixl_state.specs.ixl_spec.declared.command.Command.{Command}
use Rattle.ixl_state.specs.ixl_spec.declared.command.Refusal.{Refusal}
use Rattle.embedded_ixl.specs.Embedded.{EmbeddedIxlState, cause_in, reply_to}
use Rattle.embedded_ixl.proofs.Below.{reply}

cause_of : (cause : Option Refusal) → cause_in (answer_by cause) ≡ cause
cause_of None = refl
cause_of (Some cause) = refl

-- the interlocking tells why it refuses a command once the clock has acted
pub cause_is : (now : ℕ) (command : Command) (it : EmbeddedIxlState) → cause_in (reply_to now (step.Commands command) it) ≡ refusal now it.interlocking.state.sited.table command (all_clocked now it.interlocking.state.ixl)
unfolding reply
cause_is now command it = cause_of (refusal now it.interlocking.state.sited.table command (all_clocked now it.interlocking.state.ixl))
