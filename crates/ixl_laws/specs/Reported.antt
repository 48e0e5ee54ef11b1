-- What a detector tells of its sections in its present connection: the last report stands.
use Rattle.std.specs.Prelude.{◌≡◌, ◌==◌, ℕ, Bool, false, List, [], ◌∷◌, ◌++◌, if◌then◌else◌}
use Rattle.std.specs.FinSet.{contains}
use Rattle.ixl_state.specs.ixl_client.Client.{is_outside}
use Rattle.ixl_state.specs.ixl_client.Made.{told_by_all}
use Rattle.ixl_state.specs.ixl_client.Step.{clocked}
use Rattle.ixl_state.specs.ixl_client.declared.indication.Indication.{Indication}
use Rattle.ixl_state.specs.ixl_spec.State.{KnownDetectorState}
use Rattle.ixl_state.specs.ixl_spec.StepSoFar.{Detector}
use Rattle.ixl_state.specs.ixl_spec.Step.{Input, is_told_occupied}
use Rattle.ixl.specs.Interlocking.{InterlockingState}
use Rattle.ixl_laws.specs.Answered.{kept_by}
use Rattle.ixl_laws.specs.Called.{acted_at}
use Rattle.ixl_laws.specs.History.{last_told}

-- what is told of the section at a place of the detector's order: whether it is occupied, oldest first
abbrev pub told_at : ℕ → List Indication → List Bool
told_at place [] = []
told_at place (first ∷ others) = if first.place == place then is_told_occupied first.state ∷ told_at place others else told_at place others

-- In its present connection a detector told this: each section is kept as it was told last, and as clear where nothing was
-- told of it yet.
abbrev pub IsReported : List Indication → KnownDetectorState → Type 0
IsReported told detector = is_outside detector.client.stage ≡ false → (place : ℕ) → contains detector.occupied place ≡ last_told false (told_at place told)

-- after a step: what was told before, while the connection lasts, and what the items tell that were acted on
abbrev pub GoesOnReported : ℕ → Input → InterlockingState → ℕ → KnownDetectorState → KnownDetectorState → List Indication → Type 0
GoesOnReported now input old place before after told =
    IsReported (kept_by (clocked now before.client) told ++ told_by_all before.client.peer (acted_at now input old (Detector place))) after
