use Rattle.std.proofs.Common.{◌≡◌, ◌++◌, take}
use Rattle.lane_chart.specs.Chart.{faces, happening_faces}
use Rattle.lane_chart.proofs.happening_marks.add_happenings.Given as goal

abbrev pub invariant-loop-happening : goal.invariant-loop-happening
invariant-loop-happening l = faces l.groups.items ≡ faces l.fn.groups.items ++ happening_faces l.window (take l.happening-index l.happenings)
