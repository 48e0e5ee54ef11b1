use Rattle.std.proofs.Common.{◌≡◌, take}
use Rattle.simulator.specs.simulator_spec.Flow.{all_did}
use Rattle.replay.specs.inside.Runs.{flowing_of}
use Rattle.replay.proofs.run.Run.apply_all.Given as goal

-- so many events were tried
abbrev pub invariant-loop-one : goal.invariant-loop-one
invariant-loop-one l =
    flowing_of l.self ≡ all_did (take l.one-index l.due) (flowing_of l.fn.self)
