use Rattle.std.proofs.Common.{◌≡◌, ◌++◌, drop}
use Rattle.simulator.specs.simulator_spec.Flow.{reaches}
use Rattle.replay.proofs.due.add_reaches.Given as goal

-- what was added so far, and after it what is left
abbrev pub invariant-loop-place : goal.invariant-loop-place
invariant-loop-place l = l.due.items ++ reaches l.passed l.place (drop l.place l.drives) ≡ l.fn.due.items ++ reaches l.passed 0 l.drives
