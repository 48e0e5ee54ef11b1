-- What a client gave and took fits to its stage after a part of a step.
use Rattle.std.specs.Prelude.{◌≡◌, ℕ, true, List, [], nat_lt, if◌then◌else◌}
use Rattle.ixl_spec.specs.rasta_core.Calls.{opens, ticking}
use Rattle.ixl_spec.specs.rasta_core.Clock.{deadline}
use Rattle.ixl_spec.specs.rasta_core.State.{LinkState, is_open}
use Rattle.ixl_spec.specs.ixl_client.Client.{ClientState}
use Rattle.ixl_spec.specs.ixl_client.ClientSoFar.{ClientSoFar}
use Rattle.ixl_spec.specs.ixl_client.declared.command.Command.{Command}
use Rattle.simulator_move_laws.specs.Calls.{Items, items_after}
use Rattle.simulator_move_laws.specs.Link.{ClientFits}

-- a link whose time has come has closed
abbrev pub IsAlive : ℕ → LinkState → Type 0
IsAlive now link = is_open link.phase ≡ true → nat_lt now (deadline link) ≡ true

-- after this part of a step, whose calls are the client's
abbrev pub FitsBehind : ℕ → ClientState → ClientSoFar → Items → List Command → Type 0
FitsBehind now client part items commands = ClientFits now part.client (items_after now part.calls client.link items) commands

-- a tick that begins a connection leaves no commands in it
abbrev pub commands_after_tick : ℕ → LinkState → List Command → List Command
commands_after_tick now link commands = if opens now (ticking now link).link then [] else commands
