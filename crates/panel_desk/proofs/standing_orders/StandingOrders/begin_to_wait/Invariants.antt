use Rattle.std.proofs.Common.{◌≡◌, drop}
use Rattle.panel_desk.specs.StandingOrders.{begun_from}
use Rattle.panel_desk.proofs.standing_orders.StandingOrders.begin_to_wait.Given as goal

-- what is left leads to where all lead
abbrev pub invariant-loop-place : goal.invariant-loop-place
invariant-loop-place l =
    (begun_from l.lines l.place (drop l.place l.initial.self.automatic) l.self.waiting ≡ begun_from l.lines 0 l.initial.self.automatic l.initial.self.waiting)
    × (l.self.automatic ≡ l.initial.self.automatic)
