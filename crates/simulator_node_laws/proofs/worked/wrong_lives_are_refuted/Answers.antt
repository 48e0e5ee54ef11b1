use Rattle.simulator_node_laws.proofs.WorkedLives.{came, clock, frozen, line, nobody, old}
use Rattle.simulator_node_laws.proofs.worked.wrong_lives_are_refuted.Goals as goal

pub returns : goal.returns
returns c = record { clock = clock; frozen = frozen; nobody = nobody; old = old; came = came; line = line }
