-- The parts of a step, one after another.
use Rattle.std.specs.Prelude.{ℕ, Bool, List, [], ◌∷◌, Option, Some, None, if◌then◌else◌}
use Rattle.ixl_state.specs.rasta_pdu.PduRead.{reading}
use Rattle.ixl_state.specs.rasta_pdu.declared.key.Key.{Key}
use Rattle.ixl_state.specs.rasta_core.Outbox.{OutboxState}
use Rattle.ixl_state.specs.ixl_spec.StepSoFar.{StepSoFar}
use Rattle.ixl_state.specs.ixl_spec.State.{IxlState}
use Rattle.ixl_state.specs.ixl_spec.Table.{Table}
use Rattle.ixl_state.specs.ixl_spec.Commands.{refusal}
use Rattle.ixl_state.specs.ixl_spec.Step.{Input, Reply, Tick, Datagram, Commands, Ticked, Received, answer_by, verdict_of}
use Rattle.ixl_state.specs.State.{Goes, StateView}

-- a part of a step that hands out nothing
abbrev pub Passes : ℕ → (StepSoFar → StepSoFar) → StateView → StateView → Type 0
Passes now does old new = (box : OutboxState) → Goes now 0 does old box new box

-- what is answered, where the clock has acted on every link
abbrev pub answer_in : ℕ → Table → Key → Input → IxlState → Reply
answer_in now table key Tick ixl = Ticked
answer_in now table key (Datagram bytes) ixl = Received (verdict_of now bytes (reading key bytes) ixl)
answer_in now table key (Commands command) ixl = answer_by (refusal now table command ixl)

-- the first of a list that passes a test
abbrev pub first_where : {A : Type 0} → (A → Bool) → List A → Option A
first_where passes [] = None
first_where passes (first ∷ others) = if passes first then Some first else first_where passes others
