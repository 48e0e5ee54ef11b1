use Rattle.route_derivation.proofs.TopologyLaws.{derived-sound}
use Rattle.route_derivation.proofs.laws.derived_tables_are_sound.Goals as goal

pub returns : goal.returns
returns c = derived-sound
