use Rattle.std.proofs.Common.{◌≡◌, map, take}
use Rattle.lane_chart.specs.Drawn.{drawn_of, seen_row}
use Rattle.lane_chart.proofs.drawn.all_drawn.Given as goal

abbrev pub invariant-loop-row : goal.invariant-loop-row
invariant-loop-row l = map seen_row l.drawn.items ≡ map (drawn_of l.window l.changes) (take l.row-index l.rows)
