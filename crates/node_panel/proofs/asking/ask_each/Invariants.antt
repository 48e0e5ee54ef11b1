use Rattle.std.proofs.Common.{List, take}
use Rattle.std.specs.List.{flat_map}
use Rattle.panel_desk.specs.Boards.{Notes}
use Rattle.node_drive.specs.Calls.{Call, Calls}
use Rattle.node_panel.specs.Turns.{AsksEach, asked_by}
use Rattle.node_panel.proofs.asking.ask_each.Given as goal

-- the commands so far were asked
abbrev pub invariant-loop-command : goal.invariant-loop-command
invariant-loop-command g l =
    (calls : List Call)
    × Calls (g.O.Outside.told l.fn.outside) (g.O.Outside.told l.outside) calls
    × AsksEach l.layout (flat_map asked_by (take l.command-index l.commands)) l.fn.heard calls l.heard
    × Notes l.fn.desk l.desk
