use Rattle.route_derivation.proofs.ApproachLaws.{Reached}
use Rattle.route_derivation.proofs.approach.ports_before.Given as goal

abbrev pub invariant-loop-index : goal.invariant-loop-index
invariant-loop-index l = Reached l.layout l.rule l.fn.signal l.fn.at l.reached.items l.index
