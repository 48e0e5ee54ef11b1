use Rattle.std.proofs.Common.{◌≡◌, map, take}
use Rattle.ixl_spec.specs.First.{new_known_point_of}
use Rattle.ixl_state.proofs.first_state.known_points_of.Given as goal

abbrev pub invariant-loop-point : goal.invariant-loop-point
invariant-loop-point l = l.known_points.items ≡ map (new_known_point_of l.table (record { clock = l.start.now; first = l.start.first_sequence_number })) (take l.point-index l.point-items)
