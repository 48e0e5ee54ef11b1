use Rattle.std.proofs.Common.{◌≡◌, drop}
use Rattle.std.specs.List.{list_all}
use Rattle.simulator_spec.specs.Refusals.{keeps_time}
use Rattle.simulator.proofs.time_limits.all_keep_time.Given as goal

abbrev pub invariant-loop-step : goal.invariant-loop-step
invariant-loop-step l = list_all (keeps_time l.elapsed) (drop l.step-index l.steps) ≡ list_all (keeps_time l.elapsed) l.steps
