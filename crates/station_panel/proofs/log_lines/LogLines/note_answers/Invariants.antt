use Rattle.panel_desk.specs.Boards.{Notes}
use Rattle.station_panel.proofs.log_lines.LogLines.note_answers.Given as goal

-- lines were noted so far
abbrev pub invariant-loop-place : goal.invariant-loop-place
invariant-loop-place l = Notes l.initial.desk l.desk
