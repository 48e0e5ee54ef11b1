use Rattle.std.proofs.Common.{◌≡◌, ◌++◌, ◌-◌}
use Rattle.simulator.specs.simulator_spec.Flow.{deliveries}
use Rattle.replay.specs.World.{arrival_in, played}
use Rattle.replay.proofs.due.add_deliveries.Given as goal

-- what was added so far, and after it the deliveries that are left
abbrev pub invariant-loop-place : goal.invariant-loop-place
invariant-loop-place l =
    let arrival = arrival_in (played l.world)
    in l.due.items ++ deliveries arrival l.place (l.end - l.place) ≡ l.fn.due.items ++ deliveries arrival l.first (l.end - l.first)
