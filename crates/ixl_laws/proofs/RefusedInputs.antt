-- What is refused leaves what a step without it leaves.
use Rattle.std.proofs.Common.{◌≡◌, ℕ, Bool, true, false, List, refl, ap, sym, ◌∙◌}
use Rattle.std.specs.Prelude.{Option, Some, None}
use Rattle.std.proofs.lemmas.Bool.{false≢true}
use Rattle.ixl_state.specs.rasta_pdu.PduRead.{reading}
use Rattle.ixl_state.specs.ixl_spec.Commands.{commanded_by, moved_at_once, refusal}
use Rattle.ixl_state.specs.ixl_spec.StepSoFar.{Node, StepSoFar, begun_with, empty_outbox, over, with_one}
use Rattle.ixl_state.specs.ixl_spec.Rules.{count, ruled}
use Rattle.ixl_state.specs.ixl_spec.State.{IxlState}
use Rattle.ixl_state.specs.ixl_spec.Step.{Accepted, Commands, Datagram, Received, Refused, Reply, Ticked, addressed, all_clocked, answer_by, given, node_hearing, reply, stepped, ticked, watching}
use Rattle.ixl_state.specs.ixl_spec.Table.{Table}
use Rattle.ixl_state.specs.ixl_spec.declared.command.Command.{Command}
use Rattle.ixl_state.specs.ixl_spec.declared.command.Refusal.{Refusal}
use Rattle.ixl_state.specs.First.{key_of}
use Rattle.ixl.specs.Interlocking.{HasStepped, InterlockingState}
use Rattle.ixl_laws.specs.Refused.{IsWithoutInput, step_without_input}

is_refused : Reply → Bool
is_refused (Refused cause) = true
is_refused Accepted = false
is_refused Ticked = false
is_refused (Received verdict) = false

without : (now : ℕ) (old new : InterlockingState) (behind : StepSoFar) → new.state.ixl ≡ behind.ixl → new.outbox ≡ behind.outbox → behind ≡ step_without_input now old.state.sited.table old.state.ixl → IsWithoutInput now old new
without now old new behind ixl outbox is = record { ixl = ixl ∙ ap (λ (p : StepSoFar). p.ixl) is; outbox = outbox ∙ ap (λ (p : StepSoFar). p.outbox) is }

pub refused_command_is_without : (now : ℕ) (command : Command) (old new : InterlockingState) (cause : Refusal) → HasStepped now (Commands command) old new (Refused cause) → IsWithoutInput now old new
unfolding stepped given ticked reply is_refused moved_at_once
refused_command_is_without now command old new cause step = by_refusal (refusal now table command clocked) refl where
  table : Table
  table = old.state.sited.table

  clocked : IxlState
  clocked = all_clocked now old.state.ixl

  behind : Option Refusal → StepSoFar
  behind told = ruled now table (over (watching table) (count table) (moved_at_once now told command (record (begun_with clocked empty_outbox) { ixl = commanded_by now told command clocked })))

  by_refusal : (told : Option Refusal) → refusal now table command clocked ≡ told → IsWithoutInput now old new
  by_refusal None is = absurd (false≢true (sym (ap is_refused (step.answered ∙ ap answer_by is))))
  by_refusal (Some other) is = without now old new (behind (refusal now table command clocked)) step.ixl step.outbox (ap behind is)

pub lost_datagram_is_without : (now : ℕ) (bytes : List ℕ) (old new : InterlockingState) (answer : Reply) → HasStepped now (Datagram bytes) old new answer →
    addressed (reading (key_of old.state.sited.site) bytes) (all_clocked now old.state.ixl) ≡ None → IsWithoutInput now old new
unfolding stepped given ticked
lost_datagram_is_without now bytes old new answer step lost =
    without now old new (behind (addressed (reading (key_of old.state.sited.site) bytes) clocked)) step.ixl step.outbox (ap behind lost)
  where
    table : Table
    table = old.state.sited.table

    clocked : IxlState
    clocked = all_clocked now old.state.ixl

    behind : Option Node → StepSoFar
    behind node = ruled now table (over (watching table) (count table) (with_one node (node_hearing now table bytes) (begun_with clocked empty_outbox)))
