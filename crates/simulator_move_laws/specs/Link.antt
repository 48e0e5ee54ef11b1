-- What the machine sees of a client and its link.
use Rattle.std.specs.Prelude.{◌≡◌, ℕ, nat_lt, ◌&&◌, Bool, true, false, List, []}
use Rattle.ixl_spec.specs.rasta_core.Clock.{deadline, state_at}
use Rattle.ixl_spec.specs.rasta_core.State.{LinkState, is_open}
use Rattle.ixl_spec.specs.ixl_client.Client.{ClientState, IsClient, is_ready}
use Rattle.ixl_spec.specs.ixl_client.declared.command.Command.{Command}
use Rattle.simulator_move_laws.specs.EndsSeen.{client_in}
use Rattle.simulator_machine.specs.Link.{Client}
use Rattle.simulator_move_laws.specs.Calls.{Items}
use Rattle.simulator_move_laws.specs.Telegrams.{given_by}

-- where a client is by its clock
abbrev pub client_at : ℕ → LinkState → Client
client_at now link = client_in (state_at now link)

-- it is in a connection by its clock
abbrev pub is_inside : ℕ → LinkState → Bool
is_inside now link = is_open link.phase && nat_lt now (deadline link)

-- A client, and what it gave in its last connection.
pub record ClientFits (now : ℕ) (client : ClientState) (items : Items) (commands : List Command) : Type 0 where
  -- it is outside exactly where its link isn't up
  pub steady : IsClient client
  -- inside a connection it gave there what belongs to its stage: commands only after the initialisation
  pub given : is_inside now client.link ≡ true → items.given ≡ given_by client.peer client.stage commands
  pub early : is_inside now client.link ≡ true → is_ready client.stage ≡ false → commands ≡ []
