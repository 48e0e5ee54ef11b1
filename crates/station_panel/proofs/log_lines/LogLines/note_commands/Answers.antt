use Rattle.panel_desk.specs.Boards.{none, both}
use Rattle.station_panel.proofs.log_lines.LogLines.note_commands.Goals as goal

pub loop-command-init : goal.loop-command-init
loop-command-init c = none

pub loop-command-preserved : goal.loop-command-preserved
loop-command-preserved c = both c.loop-command.invariant c.in_ok-note_command.ensures
