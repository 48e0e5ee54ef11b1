use Rattle.ixl_state.proofs.RouteFound.{NoneBefore}
use Rattle.ixl_state.proofs.route_locks.some_holds_with_authority.Given as goal

abbrev pub invariant-loop-number : goal.invariant-loop-number
invariant-loop-number l = NoneBefore l.locks l.routes l.point l.number
