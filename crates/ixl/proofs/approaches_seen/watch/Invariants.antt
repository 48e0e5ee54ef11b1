use Rattle.ixl_state.specs.ixl_spec.StepSoFar.{over}
use Rattle.ixl_state.specs.ixl_spec.Step.{watching}
use Rattle.ixl.specs.inside.Parts.{Passes}
use Rattle.ixl.proofs.approaches_seen.watch.Given as goal

abbrev pub invariant-loop-number : goal.invariant-loop-number
invariant-loop-number l = Passes l.now (over (watching l.fn.state.sited.table) l.number) l.fn.state l.state
