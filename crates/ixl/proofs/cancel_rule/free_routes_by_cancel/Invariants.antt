use Rattle.ixl_state.specs.ixl_spec.StepSoFar.{over}
use Rattle.ixl_state.specs.ixl_spec.Rules.{freeing_by_cancel}
use Rattle.ixl.specs.inside.Changes.{Changes}
use Rattle.ixl.proofs.cancel_rule.free_routes_by_cancel.Given as goal

abbrev pub invariant-loop-number : goal.invariant-loop-number
invariant-loop-number l = Changes (over (freeing_by_cancel l.now l.fn.state.sited.table) l.number) l.fn.state l.state
