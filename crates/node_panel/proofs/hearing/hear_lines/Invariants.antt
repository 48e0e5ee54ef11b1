use Rattle.std.proofs.Common.{◌≡◌, List, map}
use Rattle.node_drive.specs.Calls.{AsksLine, Calls, LineHeard}
use Rattle.node_panel.specs.Heard.{heard_all}
use Rattle.node_panel.specs.Noted.{noted_all}
use Rattle.node_panel.proofs.hearing.hear_lines.Given as goal

-- the lines so far
abbrev pub invariant-loop : goal.invariant-loop
invariant-loop g l =
    (lines : List LineHeard)
    × Calls (g.O.Outside.told l.fn.outside) (g.O.Outside.told l.outside) (map AsksLine lines)
    × (l.heard ≡ heard_all l.layout lines l.fn.heard)
    × (l.desk ≡ noted_all l.layout l.reading lines l.fn.heard l.fn.desk)
