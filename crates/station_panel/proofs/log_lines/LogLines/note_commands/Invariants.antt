use Rattle.panel_desk.specs.Boards.{Notes}
use Rattle.station_panel.proofs.log_lines.LogLines.note_commands.Given as goal

-- lines were noted so far
abbrev pub invariant-loop-command : goal.invariant-loop-command
invariant-loop-command l = Notes l.initial.desk l.desk
