use Rattle.std.proofs.Common.{◌≡◌, ◌++◌, take}
use Rattle.std.specs.List.{flat_map}
use Rattle.station_plan.specs.Faces.{point_bands}
use Rattle.station_plan.specs.Strokes.{strokes, written}
use Rattle.station_plan.proofs.section_marks.draw_points.Given as goal

abbrev pub invariant-loop-number : goal.invariant-loop-number
invariant-loop-number l =
    (strokes l.marks.marks.items ≡ strokes l.initial.marks.marks.items ++ flat_map (point_bands l.layout l.name) (take l.number l.points))
    × (written l.marks.marks.items ≡ written l.initial.marks.marks.items)
