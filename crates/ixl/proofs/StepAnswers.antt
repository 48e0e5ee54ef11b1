-- What a step answers.
use Rattle.std.proofs.Common.{◌≡◌, ◌∙◌, ℕ, ◌≤◌, arith, refl, ap, sym}
use Rattle.std.specs.Prelude.{Option, Some, None}
use Rattle.ixl_state.specs.rasta_pdu.declared.key.Key.{Key}
use Rattle.ixl_state.specs.ixl_spec.Commands.{refusal}
use Rattle.ixl_state.specs.ixl_spec.State.{IxlState}
use Rattle.ixl_state.specs.ixl_spec.Step.{Accepted, Commands, Refused, Reply, all_clocked, answer_by, reply}
use Rattle.ixl_state.specs.ixl_spec.Table.{Table}
use Rattle.ixl_state.specs.ixl_spec.declared.command.Command.{Command}
use Rattle.ixl_state.specs.ixl_spec.declared.command.Refusal.{Refusal}
use Rattle.ixl_state.specs.State.{AllAt, MayStepAll, StateView}

answer_accepts : (found : Option Refusal) → answer_by found ≡ Accepted → found ≡ None
answer_accepts None is = refl
answer_accepts (Some cause) is = cc

answer_refuses : (found : Option Refusal) (cause : Refusal) → answer_by found ≡ Refused cause → found ≡ Some cause
answer_refuses None cause is = cc
answer_refuses (Some other) cause is = cc

pub accepted_is : (now : ℕ) (table : Table) (key : Key) (command : Command) (ixl : IxlState) (answer : Reply) → answer ≡ reply now table key (Commands command) ixl →
    answer ≡ Accepted → refusal now table command (all_clocked now ixl) ≡ None
unfolding reply
accepted_is now table key command ixl answer is accepts = answer_accepts (refusal now table command (all_clocked now ixl)) (sym is ∙ accepts)

pub accepted_so : (now : ℕ) (table : Table) (key : Key) (command : Command) (ixl : IxlState) (answer : Reply) → answer ≡ reply now table key (Commands command) ixl →
    refusal now table command (all_clocked now ixl) ≡ None → answer ≡ Accepted
unfolding reply
accepted_so now table key command ixl answer is none = is ∙ ap answer_by none

pub refused_is : (now : ℕ) (table : Table) (key : Key) (command : Command) (ixl : IxlState) (answer : Reply) (cause : Refusal) → answer ≡ reply now table key (Commands command) ixl →
    answer ≡ Refused cause → refusal now table command (all_clocked now ixl) ≡ Some cause
unfolding reply
refused_is now table key command ixl answer cause is refuses = answer_refuses (refusal now table command (all_clocked now ixl)) cause (sym is ∙ refuses)

pub may_follow : (now later : ℕ) (state : StateView) → AllAt now state → now ≤ later → MayStepAll later state
may_follow now later state at within = record {
  known_signals = λ k d inside. let here = at.known_signals k d inside in omega (arith, here, within);
  known_points = λ k d inside. let here = at.known_points k d inside in omega (arith, here, within);
  detectors = λ k d inside. let here = at.detectors k d inside in omega (arith, here, within);
}
