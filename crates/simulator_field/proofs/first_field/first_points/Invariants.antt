use Rattle.std.proofs.Common.{◌≡◌, map, take}
use Rattle.std.specs.List.{zip}
use Rattle.simulator_spec.specs.First.{point_standing}
use Rattle.simulator_field.proofs.first_field.first_points.Given as goal

abbrev pub invariant-loop-place : goal.invariant-loop-place
invariant-loop-place l = l.points.items ≡ map (point_standing l.table) (take l.place (zip l.table.points l.positions))
