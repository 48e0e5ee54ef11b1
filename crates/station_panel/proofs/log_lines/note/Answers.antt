use Rattle.std.proofs.Common.{sym, subst}
use Rattle.panel_desk.specs.Boards.{Notes, one}
use Rattle.station_panel.proofs.Turn.{ok_met}
use Rattle.station_panel.proofs.log_lines.note.Goals as goal

pub returns : goal.returns
returns c = ok_met c.note.result (λ is. subst (Notes c.args.desk.now) (sym is) (one c.args.line.now)) c.note.ensures.done
