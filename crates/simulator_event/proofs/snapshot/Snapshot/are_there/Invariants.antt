use Rattle.simulator_event.specs.Safe.{IsThere}
use Rattle.simulator_event.proofs.Loops.{AllBelow}
use Rattle.simulator_event.proofs.snapshot.Snapshot.are_there.Given as goal

abbrev pub invariant-loop-held : goal.invariant-loop-held
invariant-loop-held l = AllBelow (IsThere l.table) l.held-items l.held-index
