use Rattle.simulator_event.specs.inside.Tests.{IsAllowed}
use Rattle.simulator_event.proofs.Loops.{AllBelow}
use Rattle.simulator_event.proofs.snapshot.Snapshot.is_only.Given as goal

abbrev pub invariant-loop-held : goal.invariant-loop-held
invariant-loop-held l = AllBelow (IsAllowed l.signal l.route) l.held-items l.held-index
