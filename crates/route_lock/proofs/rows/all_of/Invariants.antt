use Rattle.std.proofs.Common.{◌≡◌, drop}
use Rattle.std.specs.List.{fold}
use Rattle.route_lock.specs.Rows.{join, none}
use Rattle.route_lock.proofs.rows.all_of.Given as goal

abbrev pub invariant-loop-lock : goal.invariant-loop-lock
invariant-loop-lock l = fold join l.all (drop l.lock-index l.locks) ≡ fold join none l.locks
