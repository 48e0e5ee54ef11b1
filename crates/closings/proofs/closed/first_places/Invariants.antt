use Rattle.std.proofs.Common.{◌≡◌}
use Rattle.closings.specs.Closed.{first_places}
use Rattle.closings.proofs.closed.first_places.Given as goal

abbrev pub invariant-loop-place : goal.invariant-loop-place
invariant-loop-place l = l.row ≡ first_places l.place
