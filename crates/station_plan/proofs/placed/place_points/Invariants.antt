use Rattle.std.proofs.Common.{◌≡◌, ◌++◌, take}
use Rattle.std.specs.List.{flat_map}
use Rattle.station_plan.specs.Subjects.{point_subjects}
use Rattle.station_plan.specs.inside.Placing.{subjects_at}
use Rattle.station_plan.proofs.placed.place_points.Given as goal

abbrev pub invariant-loop-number : goal.invariant-loop-number
invariant-loop-number l = subjects_at l.placed.items ≡ subjects_at l.initial.placed.items ++ flat_map point_subjects (take l.number l.points)
