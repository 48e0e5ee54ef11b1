use Rattle.std.proofs.Common.{◌≡◌, ◌++◌, take}
use Rattle.std.specs.List.{flat_map}
use Rattle.lane_chart.specs.Faces.{restart_strokes}
use Rattle.lane_chart.specs.Strokes.{named, strokes}
use Rattle.lane_chart.proofs.row_marks.draw_restarts.Given as goal

abbrev pub invariant-loop-happening : goal.invariant-loop-happening
invariant-loop-happening l = record {
  drawn : strokes l.marks.marks.items ≡ strokes l.initial.marks.marks.items ++ flat_map (restart_strokes l.window l.node) (take l.happening-index l.happenings);
  named : named l.marks.marks.items ≡ named l.initial.marks.marks.items;
}
