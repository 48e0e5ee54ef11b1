use Rattle.ixl_state.specs.ixl_spec.StepSoFar.{over}
use Rattle.ixl_state.specs.ixl_spec.Rules.{freeing_by_passage}
use Rattle.ixl.specs.inside.Changes.{Changes}
use Rattle.ixl.proofs.passage.free_routes_by_passage.Given as goal

abbrev pub invariant-loop-number : goal.invariant-loop-number
invariant-loop-number l = Changes (over (freeing_by_passage l.fn.state.sited.table) l.number) l.fn.state l.state
