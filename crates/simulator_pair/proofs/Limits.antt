-- What an event that can happen says of times and clocks.
use Rattle.std.proofs.Common.{◌≡◌, ℕ, ◌≤◌, ◌+◌, ◌*◌, arith, None}
use Rattle.rasta_core.specs.Run.{Ends}
use Rattle.rasta_core.specs.Ends.{reading_of}
use Rattle.simulator_pair.specs.Events.{clock_limit, refusal_of_time}

pub within_limits : (elapsed of_client of_server : ℕ) (ends : Ends) → refusal_of_time elapsed of_client of_server ends ≡ None → (ends.time + elapsed ≤ clock_limit) × (ends.client.clock + of_client ≤ clock_limit) × (ends.server.clock + of_server ≤ clock_limit)
unfolding refusal_of_time
within_limits elapsed of_client of_server ends allowed = (grind arith, grind arith, grind arith)

pub reading-milliseconds : (clock : ℕ) → reading_of (clock * 1000) ≡ clock
reading-milliseconds clock = omega arith
