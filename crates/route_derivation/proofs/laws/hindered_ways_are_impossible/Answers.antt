use Rattle.route_derivation.proofs.Joints.{one-beyond}
use Rattle.route_derivation.proofs.ImpossibleLaws.{hindered}
use Rattle.route_derivation.proofs.laws.hindered_ways_are_impossible.Goals as goal

pub returns : goal.returns
returns c = λ l once w h hinders passable. hindered l (one-beyond l once) w.passages h hinders passable.consistent passable.guarded
