use Rattle.std.proofs.Common.{◌≡◌, ◌++◌, filter}
use Rattle.closings.specs.Closed.{is_closed}
use Rattle.closings.specs.Things.{first_things}
use Rattle.closings.proofs.closed.Closings.list_kind.Given as goal

abbrev pub invariant-loop-place : goal.invariant-loop-place
invariant-loop-place l = l.things.items ≡ l.initial.things.items ++ filter (is_closed l.self) (first_things l.kind l.place)
