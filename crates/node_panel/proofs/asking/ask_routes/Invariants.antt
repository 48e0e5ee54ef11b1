use Rattle.std.proofs.Common.{List, map, take}
use Rattle.panel_desk.specs.Boards.{Notes}
use Rattle.node_drive.specs.Calls.{Call, Calls}
use Rattle.node_panel.specs.Turns.{AsksEach, requested}
use Rattle.node_panel.proofs.asking.ask_routes.Given as goal

-- the routes so far were asked for
abbrev pub invariant-loop-route : goal.invariant-loop-route
invariant-loop-route g l =
    (calls : List Call)
    × Calls (g.O.Outside.told l.fn.outside) (g.O.Outside.told l.outside) calls
    × AsksEach l.layout (map requested (take l.route-index l.routes)) l.fn.heard calls l.heard
    × Notes l.fn.desk l.desk
