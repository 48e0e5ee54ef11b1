use Rattle.std.proofs.Common.{◌≡◌, ◌++◌, take, drop, map}
use Rattle.ixl_spec.specs.Commands.{unmoved_for}
use Rattle.ixl_known.proofs.orders.unmove_all.Given as goal

abbrev pub invariant-loop-known_point : goal.invariant-loop-known_point
invariant-loop-known_point l = take l.known_point-index l.known_points ++ map (unmoved_for l.route) (drop l.known_point-index l.known_points) ≡ map (unmoved_for l.route) l.initial.known_points
