use Rattle.std.proofs.Common.{◌≡◌, drop}
use Rattle.ixl_state.specs.ixl_spec.Operations.{first_route}
use Rattle.ixl_state.specs.ixl_spec.Operations.{keeps_open}
use Rattle.ixl.proofs.operations.first_keeping_open.Given as goal

abbrev pub invariant-loop-number : goal.invariant-loop-number
invariant-loop-number l = first_route (keeps_open l.state.sited.table l.state.ixl l.named) l.number (drop l.number l.state.sited.table.rows) (drop l.number l.state.ixl.routes) ≡ first_route (keeps_open l.state.sited.table l.state.ixl l.named) 0 l.state.sited.table.rows l.state.ixl.routes
