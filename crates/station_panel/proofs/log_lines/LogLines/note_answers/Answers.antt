use Rattle.panel_desk.specs.Boards.{none, both}
use Rattle.station_panel.proofs.log_lines.LogLines.note_answers.Goals as goal

pub loop-place-init : goal.loop-place-init
loop-place-init c = none

pub loop-place-preserved : goal.loop-place-preserved
loop-place-preserved c = both c.loop-place.invariant c.in_ok-note_wanted.ensures
