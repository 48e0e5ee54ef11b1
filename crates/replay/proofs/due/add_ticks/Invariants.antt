use Rattle.std.proofs.Common.{◌≡◌, ◌++◌, ◌-◌}
use Rattle.simulator.specs.simulator_spec.Flow.{ticks}
use Rattle.replay.proofs.due.add_ticks.Given as goal

-- what was added so far, and after it the ticks that are left
abbrev pub invariant-loop-node : goal.invariant-loop-node
invariant-loop-node l = l.due.items ++ ticks l.passed l.node (l.nodes - l.node) ≡ l.fn.due.items ++ ticks l.passed 0 l.nodes
