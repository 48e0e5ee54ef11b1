-- What comes to an interlocking by the calls of a loop, as a list of its inputs.
use Rattle.std.specs.Prelude.{◌≤◌, ℕ, List, [], ◌∷◌, ◌++◌, is_ok, if◌then◌else◌}
use Rattle.ixl_state.specs.State.{StateView}
use Rattle.ixl_state.specs.ixl_spec.Step.{Input}
use Rattle.ixl.specs.Interlocking.{step_of}
use Rattle.embedded_ixl.specs.Embedded.{EmbeddedIxlState}
use Rattle.embedded_ixl.specs.Calls.{Call, after_call, answer_to, input_by}

-- an interlocking after all that came to it, each with the reading of its clock
unfoldable pub state_after : List (ℕ × Input) → StateView → StateView
state_after [] state = state
state_after (one ∷ others) state = state_after others (record state { ixl = (step_of one.0 one.1 state).ixl })

-- what comes by these calls: what each brings that is accepted, and nothing by one that is refused
unfoldable pub inputs_by : List Call → EmbeddedIxlState → List (ℕ × Input)
inputs_by [] it = []
inputs_by (first ∷ others) it = (if is_ok (answer_to first it) then input_by first else []) ++ inputs_by others (after_call first it)

-- The readings of these don't fall, from one on.
abbrev pub Rise : ℕ → List (ℕ × Input) → Type 0
Rise from [] = Unit {0}
Rise from (one ∷ others) = (from ≤ one.0) × Rise one.0 others
