use Rattle.std.proofs.Common.{◌≡◌, drop}
use Rattle.ixl_state.specs.ixl_spec.Operations.{first_route}
use Rattle.ixl_state.specs.ixl_spec.View.{holds_point}
use Rattle.ixl.proofs.operations.first_holding.Given as goal

abbrev pub invariant-loop-number : goal.invariant-loop-number
invariant-loop-number l = first_route (λ number row route. holds_point row route.phase l.point) l.number (drop l.number l.state.sited.table.rows) (drop l.number l.state.ixl.routes) ≡ first_route (λ number row route. holds_point row route.phase l.point) 0 l.state.sited.table.rows l.state.ixl.routes
