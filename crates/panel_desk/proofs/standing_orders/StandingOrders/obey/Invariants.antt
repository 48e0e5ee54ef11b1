use Rattle.std.proofs.Common.{◌≡◌, drop}
use Rattle.panel_desk.specs.StandingOrders.{obeyed_all}
use Rattle.panel_desk.proofs.standing_orders.StandingOrders.obey.Given as goal

-- what is left leads to where all lead
abbrev pub invariant-loop-command : goal.invariant-loop-command
invariant-loop-command l = obeyed_all (drop l.command-index l.commands) l.self ≡ obeyed_all l.commands l.initial.self
