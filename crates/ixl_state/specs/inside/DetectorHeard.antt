-- What is looked at where a detector is heard.
use Rattle.std.specs.Prelude.{◌≡◌, ℕ, Bool, List, ◌++◌, if◌then◌else◌}
use Rattle.ixl_spec.specs.bit_row.Places.{Places}
use Rattle.ixl_spec.specs.rasta_core.Outbox.{OutboxState}
use Rattle.ixl_spec.specs.ixl_client.declared.indication.Indication.{Indication}
use Rattle.ixl_spec.specs.StepSoFar.{Leads, StepSoFar}
use Rattle.ixl_spec.specs.State.{IxlState}
use Rattle.ixl_spec.specs.Step.{told_before, told_now}
use Rattle.ixl_state.specs.State.{AllAt, Goes, StateView}

-- a part of a step that hands out nothing
abbrev pub Passes : ℕ → (StepSoFar → StepSoFar) → StateView → StateView → Type 0
Passes now does old new = (box : OutboxState) → Goes now 0 does old box new box

-- Of a part that was begun, this is left to be done: where it leads from here the whole leads from the beginning.
pub record Remains (now : ℕ) (does rest : StepSoFar → StepSoFar) (old mid : StateView) : Type 0 where
  pub leads : (box : OutboxState) (new : IxlState) (out : OutboxState) → Leads rest mid.ixl box new out → Leads does old.ixl box new out
  pub sited : mid.sited ≡ old.sited
  pub clock : AllAt now mid

-- what a detector tells that is ready: where it wasn't before, what it told in the initialisation too
abbrev pub told_since : Bool → Places → List ℕ → List Indication → List (ℕ × Bool)
told_since was_ready occupied sections heard =
    if was_ready then told_now sections heard else told_before occupied 0 sections ++ told_now sections heard
