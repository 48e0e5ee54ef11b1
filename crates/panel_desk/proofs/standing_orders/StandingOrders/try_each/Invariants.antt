use Rattle.std.proofs.Common.{◌≡◌}
use Rattle.panel_desk.proofs.TriesEach.{TriedSoFar}
use Rattle.panel_desk.proofs.standing_orders.StandingOrders.try_each.Given as goal

-- those before the place were tried
abbrev pub invariant-loop-place : goal.invariant-loop-place
invariant-loop-place l =
    TriedSoFar l.table l.lines l.millis l.initial.self.waiting l.place l.initial.routes.items l.routes.items l.self.waiting × (l.self.automatic ≡ l.initial.self.automatic)
