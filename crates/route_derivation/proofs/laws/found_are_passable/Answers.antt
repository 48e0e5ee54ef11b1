use Rattle.route_derivation.proofs.Sound.{found-fine}
use Rattle.route_derivation.proofs.laws.found_are_passable.Goals as goal

pub returns : goal.returns
returns c = found-fine
