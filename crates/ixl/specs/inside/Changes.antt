-- Parts of a step that hand out nothing.
use Rattle.std.specs.Prelude.{◌≡◌, ℕ}
use Rattle.ixl_state.specs.rasta_core.Outbox.{OutboxState}
use Rattle.ixl_state.specs.ixl_spec.StepSoFar.{Leads, StepSoFar}
use Rattle.ixl_state.specs.State.{AllAt, StateView}

-- A part of a step leads from one state to another, and hands out no datagram. Every link stays at its clock.
pub record Changes (does : StepSoFar → StepSoFar) (old new : StateView) : Type 0 where
  pub leads : (box : OutboxState) → Leads does old.ixl box new.ixl box
  pub sited : new.sited ≡ old.sited
  pub clock : (now : ℕ) → AllAt now old → AllAt now new
