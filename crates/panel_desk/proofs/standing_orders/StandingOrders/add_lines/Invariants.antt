use Rattle.std.proofs.Common.{◌≡◌, ◌++◌, drop}
use Rattle.panel_desk.specs.StandingOrders.{lines_from}
use Rattle.panel_desk.proofs.standing_orders.StandingOrders.add_lines.Given as goal

-- those so far, and after them those that are left
abbrev pub invariant-loop-place : goal.invariant-loop-place
invariant-loop-place l =
    l.lines.items ++ lines_from l.place (drop l.place l.self.automatic) l.self.waiting ≡ l.initial.lines.items ++ lines_from 0 l.self.automatic l.self.waiting
