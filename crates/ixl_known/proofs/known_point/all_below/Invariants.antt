use Rattle.std.proofs.Common.{◌≡◌}
use Rattle.ixl_spec.specs.StepSoFar.{all_below}
use Rattle.ixl_known.proofs.known_point.all_below.Given as goal

abbrev pub invariant-loop-place : goal.invariant-loop-place
invariant-loop-place l = l.row ≡ all_below l.place
