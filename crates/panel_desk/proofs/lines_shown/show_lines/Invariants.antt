use Rattle.std.proofs.Common.{◌≡◌, drop}
use Rattle.panel_desk.specs.Boards.{shown_all}
use Rattle.panel_desk.proofs.lines_shown.show_lines.Given as goal

-- what is left leads to where all lead
abbrev pub invariant-loop-place : goal.invariant-loop-place
invariant-loop-place l =
    record l.desk { board = shown_all l.layout l.place (drop l.place l.lines) l.desk.board }
    ≡ record l.initial.desk { board = shown_all l.layout 0 l.lines l.initial.desk.board }
