use Rattle.simulator_event.specs.inside.Tests.{IsApart}
use Rattle.simulator_event.proofs.Loops.{AllBelow}
use Rattle.simulator_event.proofs.snapshot.Snapshot.are_apart.Given as goal

abbrev pub invariant-loop-held : goal.invariant-loop-held
invariant-loop-held l = AllBelow (IsApart l.table l.self) l.held-items l.held-index
