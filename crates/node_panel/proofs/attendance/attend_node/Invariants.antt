use Rattle.std.proofs.Common.{◌≡◌, List}
use Rattle.node_drive.specs.Calls.{Call, Calls}
use Rattle.node_panel.specs.Turns.{Turns}
use Rattle.node_panel.proofs.attendance.attend_node.Given as goal

-- the turns so far
abbrev pub invariant-loop : goal.invariant-loop
invariant-loop g l =
    (calls : List Call)
    × Calls (g.O.Outside.told l.fn.outside) (g.O.Outside.told l.outside) calls
    × Turns l.fn.room.table.now (record { heard = l.fn.room.heard; orders = l.fn.room.orders; desk = l.fn.room.desk }) calls (record { heard = l.room.heard; orders = l.room.orders; desk = l.room.desk })
    × (l.room.table ≡ l.fn.room.table)
