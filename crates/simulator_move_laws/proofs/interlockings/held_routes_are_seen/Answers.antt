use Rattle.simulator_move_laws.proofs.Interlocking.Anew.{held_seen}
use Rattle.simulator_move_laws.proofs.interlockings.held_routes_are_seen.Goals as goal

pub returns : goal.returns
returns c = held_seen
