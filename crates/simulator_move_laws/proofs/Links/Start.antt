-- The link of two ends that were just created.
use Rattle.std.proofs.Common.{◌≡◌, ◌*◌, true, ap, ◌∙◌}
use Rattle.rasta_core.specs.Calls.{created}
use Rattle.rasta_core.specs.Clock.{state_at}
use Rattle.rasta_core.specs.Ends.{reading_of}
use Rattle.rasta_core.specs.Events.{Start, started}
use Rattle.rasta_core.specs.Names.{Names, identity_of}
use Rattle.rasta_core.specs.identity.Role.TheVariants as role
use Rattle.rasta_core.specs.phase.State.{State}
use Rattle.rasta_core.specs.phase.State.TheVariants as state
use Rattle.simulator_machine.specs.Link.{Link}
use Rattle.simulator_machine.specs.Run.{unlinked}
use Rattle.simulator_move_laws.specs.EndsSeen.{client_in, is_inside, represented, server_in}
use Rattle.simulator_move_laws.proofs.Links.States.{made_quiet}

abbrev of_states : State → State → Link
of_states client server = record { client = client_in client; server = server_in (is_inside server) true }

pub started_unlinked : (names : Names) (start : Start) → represented (started names start) ≡ unlinked
unfolding represented
started_unlinked names start =
    ap (λ (s : State). of_states s (state_at (reading_of (start.server_clock * 1000)) (created (identity_of role.Server names) start.server_first start.server_clock))) (made_quiet (identity_of role.Client names) start.client_first start.client_clock)
    ∙ ap (λ (s : State). of_states state.Quiet s) (made_quiet (identity_of role.Server names) start.server_first start.server_clock)
