use Rattle.simulator_event.specs.inside.Tests.{AreShownRightly}
use Rattle.simulator_event.proofs.snapshot.Snapshot.are_protected.Given as goal

abbrev pub invariant-loop-place : goal.invariant-loop-place
invariant-loop-place l = AreShownRightly l.table l.self l.place
