use Rattle.lane_chart.proofs.RowsOnce.{lines_differ, not_axis, not_happening, not_legend, once}
use Rattle.lane_chart.proofs.laws.identities_stand_once.Goals as goal

pub returns-clause-rows : goal.returns-clause-rows
returns-clause-rows c = once

pub returns-clause-marks : goal.returns-clause-marks
returns-clause-marks c = not_happening

pub returns-clause-frame : goal.returns-clause-frame
returns-clause-frame c = λ s. (not_axis s, not_legend s)

pub returns-clause-lines : goal.returns-clause-lines
returns-clause-lines c = lines_differ
