use Rattle.ixl_spec.specs.sci_telegram.declared.message.Side.{Side}
use Rattle.ixl_spec.specs.layout.declared.ids.PointId.{PointId}
use Rattle.simulator_event.specs.Safe.{StandsUndriven}
use Rattle.simulator_event.proofs.Loops.{AllBelow}
use Rattle.simulator_event.proofs.snapshot.Snapshot.all_stand.Given as goal

abbrev pub invariant-loop-need : goal.invariant-loop-need
invariant-loop-need l = AllBelow (λ (n : PointId × Side). StandsUndriven l.self n.0 n.1) l.required l.need-index
