use Rattle.simulator_safety.proofs.Held.{held_pairs}
use Rattle.simulator_safety.proofs.worlds.held_pairs_are_held_routes.Goals as goal

pub returns : goal.returns
returns c table station frozen machine sound is holding seen counted entries frozen_are = held_pairs table station frozen machine sound is holding seen counted entries frozen_are
