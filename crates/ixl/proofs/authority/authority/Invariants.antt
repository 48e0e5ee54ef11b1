use Rattle.std.proofs.Common.{◌≡◌, drop}
use Rattle.ixl_state.specs.ixl_spec.View.{authority_from}
use Rattle.ixl.proofs.authority.authority.Given as goal

abbrev pub invariant-loop-number : goal.invariant-loop-number
invariant-loop-number l = authority_from l.signal l.number (drop l.number l.state.sited.table.rows) (drop l.number l.state.ixl.routes) ≡ authority_from l.signal 0 l.state.sited.table.rows l.state.ixl.routes
