-- When a client opens its link.
use Rattle.std.specs.Prelude.{◌≡◌, ℕ}
use Rattle.rasta_core.specs.Clock.{state_at}
use Rattle.rasta_core.specs.State.{LinkState}
use Rattle.rasta_core.specs.phase.State.TheVariants as state
use Rattle.ixl_client.specs.ClientSoFar.{ClientSoFar}

-- at a clock reading the link isn't down: it is in a connection, or in its quiet time
abbrev pub IsNotDown : ℕ → LinkState → Type 0
IsNotDown now link = state_at now link ≡ state.Down → ⊥

-- a link that is down asks for a connection, and waits for the answer
abbrev pub AsksWhereDown : ℕ → ClientSoFar → ClientSoFar → Type 0
AsksWhereDown now before after = state_at now before.client.link ≡ state.Down → state_at now after.client.link ≡ state.Start
