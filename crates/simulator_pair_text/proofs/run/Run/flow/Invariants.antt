use Rattle.std.proofs.Common.{◌≡◌}
use Rattle.simulator_pair_text.specs.Flow.{rounds}
use Rattle.simulator_pair_text.proofs.run.Run.flow.Given as goal

-- so many rounds were done
abbrev pub invariant-loop : goal.invariant-loop
invariant-loop l = l.self ≡ rounds l.counter l.fn.self
