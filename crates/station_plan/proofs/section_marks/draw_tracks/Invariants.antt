use Rattle.std.proofs.Common.{◌≡◌, ◌++◌, take}
use Rattle.std.specs.List.{flat_map}
use Rattle.station_plan.specs.Faces.{track_bands}
use Rattle.station_plan.specs.Strokes.{strokes, written}
use Rattle.station_plan.proofs.section_marks.draw_tracks.Given as goal

abbrev pub invariant-loop-number : goal.invariant-loop-number
invariant-loop-number l =
    (strokes l.marks.marks.items ≡ strokes l.initial.marks.marks.items ++ flat_map (track_bands l.layout l.name) (take l.number l.tracks))
    × (written l.marks.marks.items ≡ written l.initial.marks.marks.items)
