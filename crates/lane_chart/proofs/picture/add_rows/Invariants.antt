use Rattle.std.proofs.Common.{◌≡◌, ◌++◌, take}
use Rattle.lane_chart.specs.Chart.{faces, row_faces}
use Rattle.lane_chart.proofs.picture.add_rows.Given as goal

abbrev pub invariant-loop-row : goal.invariant-loop-row
invariant-loop-row l = faces l.groups.items ≡ faces l.fn.groups.items ++ row_faces l.scene.nodes l.scene.window l.scene.happenings.now (take l.row-index l.rows)
