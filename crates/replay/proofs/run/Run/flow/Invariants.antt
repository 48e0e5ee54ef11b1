use Rattle.std.proofs.Common.{◌≡◌}
use Rattle.simulator.specs.simulator_spec.Flow.{rounds}
use Rattle.replay.specs.inside.Runs.{flowing_of}
use Rattle.replay.proofs.run.Run.flow.Given as goal

-- so many rounds were done
abbrev pub invariant-loop : goal.invariant-loop
invariant-loop l = flowing_of l.self ≡ rounds l.counter (flowing_of l.fn.self)
