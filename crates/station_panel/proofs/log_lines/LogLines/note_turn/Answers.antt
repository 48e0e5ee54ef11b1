use Rattle.panel_desk.specs.Boards.{both}
use Rattle.station_panel.proofs.Turn.{ok_met}
use Rattle.station_panel.proofs.log_lines.LogLines.note_turn.Goals as goal

pub returns : goal.returns
returns g c = ok_met c.note_answers.result (both c.in_ok-note_commands.ensures) c.note_answers.ensures
