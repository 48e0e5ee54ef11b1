use Rattle.route_derivation.proofs.Complete.{passable-found}
use Rattle.route_derivation.proofs.laws.passable_are_found.Goals as goal

pub returns : goal.returns
returns c = passable-found
