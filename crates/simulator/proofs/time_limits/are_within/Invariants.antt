use Rattle.std.proofs.Common.{◌≡◌, true}
use Rattle.simulator_spec.specs.Refusals.{are_within}
use Rattle.simulator.proofs.Within.{within_from}
use Rattle.simulator.proofs.time_limits.are_within.Given as goal

abbrev pub invariant-loop-place : goal.invariant-loop-place
invariant-loop-place g l = within_from l.place l.servers l.steps ≡ are_within l.servers l.steps (λ rest. true)
