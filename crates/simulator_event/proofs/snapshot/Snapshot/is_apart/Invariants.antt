use Rattle.simulator_event.specs.inside.Tests.{MayHold}
use Rattle.simulator_event.proofs.Loops.{AllBelow}
use Rattle.simulator_event.proofs.snapshot.Snapshot.is_apart.Given as goal

abbrev pub invariant-loop-other : goal.invariant-loop-other
invariant-loop-other l = AllBelow (MayHold l.table l.self l.held) l.other-items l.other-index
