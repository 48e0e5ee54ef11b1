use Rattle.std.proofs.Common.{◌≡◌, All, length}
use Rattle.route_lock.specs.Rows.{none}
use Rattle.route_lock.proofs.locks.Locks.new.Given as goal

abbrev pub invariant-loop-route : goal.invariant-loop-route
invariant-loop-route l = (length l.locks.items ≡ l._route) × All (λ k. k ≡ none) l.locks.items
