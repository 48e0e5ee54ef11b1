use Rattle.route_lock.specs.Rows.{NoneBefore}
use Rattle.route_lock.proofs.locks.first_fault.Given as goal

abbrev pub invariant-loop-index : goal.invariant-loop-index
invariant-loop-index l = NoneBefore l.locks l.need l.index
