-- What comes to a controller by the calls of a loop, as a list of its inputs.
use Rattle.std.specs.Prelude.{◌≤◌, ℕ, List, [], ◌∷◌, ◌++◌, is_ok, if◌then◌else◌}
use Rattle.object_host.specs.Behaviour.{Behaviour}
use Rattle.object_host.specs.Host.{HostState}
use Rattle.object_host.specs.Step.{host_step}
use Rattle.object_host.specs.declared.input.Input.{Input}
use Rattle.embedded_host.specs.Embedded.{EmbeddedState}
use Rattle.embedded_host.specs.Calls.{Call, after_call, answer_to, input_by}

module _ {Object : Type 0} where
  -- a controller after all that came to it, each with the reading of its clock
  unfoldable pub host_after : Behaviour Object → List (ℕ × Input) → HostState Object → HostState Object
  host_after does [] host = host
  host_after does (one ∷ others) host = host_after does others (host_step does one.0 one.1 host).host

  -- what comes by these calls: what each brings that is accepted, and nothing by one that is refused
  unfoldable pub inputs_by : Behaviour Object → List Call → EmbeddedState Object → List (ℕ × Input)
  inputs_by does [] it = []
  inputs_by does (first ∷ others) it = (if is_ok (answer_to first it) then input_by first else []) ++ inputs_by does others (after_call does first it)

-- The readings of these don't fall, from one on.
abbrev pub Rise : ℕ → List (ℕ × Input) → Type 0
Rise from [] = Unit {0}
Rise from (one ∷ others) = (from ≤ one.0) × Rise one.0 others
