use Rattle.route_derivation.proofs.TopologyLaws.{sound-derived}
use Rattle.route_derivation.proofs.laws.sound_routes_are_derived.Goals as goal

pub returns : goal.returns
returns c = sound-derived
