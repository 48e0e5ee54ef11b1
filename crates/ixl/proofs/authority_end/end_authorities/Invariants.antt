use Rattle.ixl_state.specs.ixl_spec.StepSoFar.{over}
use Rattle.ixl_state.specs.ixl_spec.Rules.{ending_authority}
use Rattle.ixl.specs.inside.Changes.{Changes}
use Rattle.ixl.proofs.authority_end.end_authorities.Given as goal

abbrev pub invariant-loop-number : goal.invariant-loop-number
invariant-loop-number l = Changes (over (ending_authority l.now l.fn.state.sited.table) l.number) l.fn.state l.state
