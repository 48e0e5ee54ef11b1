use Rattle.simulator_move_laws.proofs.Links.Start.{started_unlinked}
use Rattle.simulator_move_laws.proofs.moves.links_are_represented.Goals as goal

pub returns : goal.returns
returns c = record { first = started_unlinked }
