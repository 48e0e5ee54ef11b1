-- An interlocking: what it keeps, and the datagrams of its last step.
use Rattle.std.specs.Prelude.{◌≡◌, ℕ}
use Rattle.ixl_state.specs.rasta_core.Outbox.{OutboxState}
use Rattle.ixl_state.specs.ixl_spec.StepSoFar.{StepSoFar, begun_with, empty_outbox}
use Rattle.ixl_state.specs.ixl_spec.Step.{Input, Reply, reply, stepped}
use Rattle.ixl_state.specs.ixl_spec.Step as step
use Rattle.ixl_state.specs.First.{key_of}
use Rattle.ixl_state.specs.State.{AllAt, StateView}
use Rattle.ixl.specs.declared.input.Input.{Input as GivenInput}
use Rattle.ixl.specs.declared.input.Input.TheVariants as inputs
use Rattle.ixl.specs.declared.input.Reply.{Reply as GivenReply}
use Rattle.ixl.specs.declared.input.Reply.TheVariants as replies

pub record InterlockingState : Type 0 where
  pub state : StateView
  pub outbox : OutboxState

-- what a step does
abbrev pub step_of : ℕ → Input → StateView → StepSoFar
step_of now input state =
    stepped now state.sited.table (key_of state.sited.site) input (begun_with state.ixl empty_outbox)

-- A step was made at a clock reading: what is kept is as after it, the outbox has its datagrams alone, and this was
-- answered.
pub record HasStepped (now : ℕ) (input : Input) (old new : InterlockingState) (answer : Reply) : Type 0 where
  pub sited : new.state.sited ≡ old.state.sited
  pub ixl : new.state.ixl ≡ (step_of now input old.state).ixl
  pub outbox : new.outbox ≡ (step_of now input old.state).outbox
  pub clock : AllAt now new.state
  pub answered : answer ≡ reply now old.state.sited.table (key_of old.state.sited.site) input old.state.ixl

-- the input and the answer of the code, as the definitions of a step have them
abbrev pub meant : GivenInput → Input
meant inputs.Tick = step.Tick
meant (inputs.Datagram bytes) = step.Datagram bytes.now
meant (inputs.Command command) = step.Commands command

abbrev pub told : GivenReply → Reply
told replies.Ticked = step.Ticked
told (replies.Received verdict) = step.Received verdict
told replies.Accepted = step.Accepted
told (replies.Refused refusal) = step.Refused refusal
